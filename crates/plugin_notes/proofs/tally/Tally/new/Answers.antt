use Rattle.plugin_notes.proofs.Tallying.{counts_none}
use Rattle.plugin_notes.proofs.tally.Tally.new.Goals as goal

pub returns : goal.returns
returns c = counts_none _ c.in_ok-filled.ensures.values c.in_ok-filled.ensures.each
