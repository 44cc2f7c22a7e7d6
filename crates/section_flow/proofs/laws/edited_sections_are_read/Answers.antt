use Rattle.section_flow.proofs.Reading.{all_read}
use Rattle.section_flow.proofs.laws.edited_sections_are_read.Goals as goal

pub returns : goal.returns
returns c = λ pid edit met low gives clear end. all_read pid edit low gives met clear end
