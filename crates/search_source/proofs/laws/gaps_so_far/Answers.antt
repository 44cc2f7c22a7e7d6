use Rattle.search_source.proofs.Kept.{gaps-to}
use Rattle.search_source.proofs.laws.gaps_so_far.Goals as goal

pub returns : goal.returns
returns c = gaps-to
