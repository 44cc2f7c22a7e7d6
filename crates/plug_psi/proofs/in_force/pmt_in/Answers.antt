use Rattle.std.proofs.Common.{◌∙◌, ap}
use Rattle.std.specs.Prelude.{option_map}
use Rattle.ts_psi.specs.PsiTables.{pmt_held}
use Rattle.plug_psi.specs.InForce.{follows}
use Rattle.plug_psi.proofs.ForceLemmas.{pmt-none, pmt-on}
use Rattle.plug_psi.proofs.in_force.pmt_in.Goals as goal

pub returns-in-Some : goal.returns-in-Some
returns-in-Some c = λ fed h.
    ap (option_map pmt_held) c.get-in-Some.ensures.value ∙ (c.in-Some.ensures tt follows fed h).1 c.args.service ∙ pmt-on c.args.service c.args.pid fed

pub returns-in-None : goal.returns-in-None
returns-in-None c = λ fed h. pmt-none c.args.service c.args.pid fed (c.in-None.ensures tt follows fed h)
