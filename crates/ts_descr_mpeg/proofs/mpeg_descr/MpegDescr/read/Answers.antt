-- A tag that no page has.
use Rattle.std.proofs.Common.{rules}
use Rattle.ts_descr.specs.Descriptors.{read_typed}
use Rattle.ts_descr_mpeg.proofs.mpeg_descr.MpegDescr.read.Goals as goal

pub returns-in_default : goal.returns-in_default
unfolding read_typed
returns-in_default c = search rules
