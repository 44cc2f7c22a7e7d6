mod OtherTools
