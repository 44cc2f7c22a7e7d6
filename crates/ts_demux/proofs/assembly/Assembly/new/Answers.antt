use Rattle.std.proofs.Common.{ap}
use Rattle.std.specs.Map.{lookup}
use Rattle.ts_demux.specs.Keys.{key_eq}
use Rattle.ts_demux.proofs.Assembling.{stands-fresh}
use Rattle.ts_demux.proofs.assembly.Assembly.new.Goals as goal

pub returns : goal.returns
returns c = stands-fresh _ c.unset.ensures (λ key. ap (lookup (key_eq key)) c.new.ensures.empty)
