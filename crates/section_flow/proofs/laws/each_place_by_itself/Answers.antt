use Rattle.section_flow.proofs.LawLemmas.{all-given}
use Rattle.section_flow.proofs.laws.each_place_by_itself.Goals as goal

pub returns : goal.returns
returns c = all-given
