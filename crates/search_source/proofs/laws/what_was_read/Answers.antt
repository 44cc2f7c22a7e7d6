use Rattle.search_source.proofs.Through.{found-of}
use Rattle.search_source.proofs.laws.what_was_read.Goals as goal

pub returns : goal.returns
returns c = found-of
