use Rattle.std.proofs.Common.{◌∙◌, ap}
use Rattle.plug_psi.specs.InForce.{names}
use Rattle.plug_psi.proofs.ForceLemmas.{pat-kept}
use Rattle.plug_psi.proofs.in_force.InForce.names.Goals as goal

pub returns : goal.returns
returns c = λ fed h. c.names.ensures ∙ ap (λ pat. names pat c.args.pid) (pat-kept c.args.self.now.zero fed h.pat_fed)
