use Rattle.search_source.proofs.Kept.{kept-of}
use Rattle.search_source.proofs.laws.gaps_of_a_file.Goals as goal

pub returns : goal.returns
returns c = kept-of
