use Rattle.plug_info_state.proofs.EitLemmas.{counts-new}
use Rattle.plug_info_state.proofs.eit_counts.EitCounts.new.Goals as goal

pub returns : goal.returns
returns c = counts-new _ _ _ c.in_ok-demux.ensures c.new-2.ensures c.new-3.ensures
