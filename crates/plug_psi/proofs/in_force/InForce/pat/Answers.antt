use Rattle.std.proofs.Common.{◌∙◌, ap}
use Rattle.std.specs.Prelude.{option_map}
use Rattle.ts_psi.specs.PatTables.{pat_held}
use Rattle.plug_psi.proofs.ForceLemmas.{pat-kept}
use Rattle.plug_psi.proofs.in_force.InForce.pat.Goals as goal

pub returns : goal.returns
returns c = λ fed h. ap (option_map pat_held) c.as_ref.ensures ∙ pat-kept c.args.self.now.zero fed h.pat_fed
