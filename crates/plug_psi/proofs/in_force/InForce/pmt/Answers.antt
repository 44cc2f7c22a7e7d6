use Rattle.std.proofs.Common.{sym, ◌∙◌, Some, None}
use Rattle.std.specs.Prelude.{option_map}
use Rattle.ts_psi.specs.PatTables.{pat_held}
use Rattle.plug_psi.proofs.ForceLemmas.{pat-kept, pmt-is}
use Rattle.plug_psi.proofs.in_force.InForce.pmt.Goals as goal

pub returns-in-Some : goal.returns-in-Some
returns-in-Some c = λ fed h.
    c.pmt_in.ensures fed h.entries
    ∙ pmt-is c.args.service fed (option_map pat_held c.args.self.now.zero.follower) (Some c.in-Some.pid) (pat-kept c.args.self.now.zero fed h.pat_fed) (sym c.in-Some.is ∙ c.pid_for.ensures)

pub returns-in-None : goal.returns-in-None
returns-in-None c = λ fed h.
    pmt-is c.args.service fed (option_map pat_held c.args.self.now.zero.follower) None (pat-kept c.args.self.now.zero fed h.pat_fed) (sym c.in-None.is ∙ c.pid_for.ensures)
