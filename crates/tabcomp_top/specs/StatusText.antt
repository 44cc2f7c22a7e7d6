-- The exit status for each status of `tstabcomp`, and the line that is reported. This project's own rule.
use Rattle.std.specs.Prelude.{ℕ, List, [], ◌∷◌, ◌++◌, codes}
use Rattle.tabcomp_top.specs.declared.status.TabStatus.{TabStatus}
use Rattle.tabcomp_top.specs.declared.status.TabStatus.TheVariants.{Done, NoMemory, Words, ReadFault, WriteFault, Compile, Decompile, TooMany}

-- the exit status of the program
abbrev pub exit_number : TabStatus → ℕ
exit_number Done = 0
exit_number NoMemory = 1
exit_number (Words word) = 2
exit_number ReadFault = 3
exit_number WriteFault = 4
exit_number (Compile fault) = 5
exit_number (Decompile fault) = 6
exit_number TooMany = 7

-- a text and the end of its line
abbrev pub line : List ℕ → List ℕ
line text = text ++ 10 ∷ []

-- the line of a status; empty where all was written, and where memory ran out
abbrev pub line_of : TabStatus → List ℕ
line_of Done = []
line_of NoMemory = []
line_of (Words word) = line (codes "tstabcomp: words")
line_of ReadFault = line (codes "tstabcomp: cannot read")
line_of WriteFault = line (codes "tstabcomp: cannot write")
line_of (Compile fault) = line (codes "tstabcomp: no compilation")
line_of (Decompile fault) = line (codes "tstabcomp: not sections")
line_of TooMany = line (codes "tstabcomp: input too long")
