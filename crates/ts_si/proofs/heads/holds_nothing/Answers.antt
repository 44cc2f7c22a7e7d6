use Rattle.std.proofs.Common.{map}
use Rattle.ts_fields.specs.Layout.{held}
use Rattle.ts_si.proofs.FitLemmas.{no_values}
use Rattle.ts_si.proofs.heads.holds_nothing.Goals as goal

pub returns : goal.returns
returns c = no_values (map held c.args.values.now) c.requires
