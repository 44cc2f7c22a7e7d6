use Rattle.section_flow.proofs.LawLemmas.{other-untouched}
use Rattle.section_flow.proofs.laws.other_packets_are_untouched.Goals as goal

pub returns : goal.returns
returns c = other-untouched
