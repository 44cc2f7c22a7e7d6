use Rattle.plug_window.proofs.DelayLaws.{compact-blocks}
use Rattle.plug_window.proofs.laws.compact_gives_blocks.Goals as goal

pub returns : goal.returns
returns c = compact-blocks
