use Rattle.std.proofs.Common.{◌∙◌, ap}
use Rattle.plug_psi.specs.InForce.{is_named}
use Rattle.plug_psi.proofs.ForceLemmas.{pat-kept}
use Rattle.plug_psi.proofs.in_force.InForce.follows.Goals as goal

pub returns : goal.returns
returns c = λ fed h. c.is_followed.ensures ∙ ap (λ pat. is_named pat c.args.pid) (pat-kept c.args.self.now.zero fed h.pat_fed)
