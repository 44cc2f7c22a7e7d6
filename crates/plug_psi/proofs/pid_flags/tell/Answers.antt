use Rattle.std.proofs.Common.{Bool, true, false, ap, ◌∙◌}
use Rattle.std.specs.Prelude.{if◌then◌else◌}
use Rattle.plug_psi.specs.ServicePids.{has_pid}
use Rattle.plug_psi.proofs.FlagLemmas.{flag-told}
use Rattle.plug_psi.proofs.pid_flags.tell.Goals as goal

pub returns : goal.returns
returns c = λ pid below.
    c.set_all-2.ensures pid below
    ∙ (ap (λ (b : Bool). if has_pid c.args.others.now pid then false else b)
    (c.set_all.ensures pid below ∙ ap (λ (b : Bool). if has_pid c.args.pids.now pid then true else b) (c.fill.ensures.each pid))
    ∙ flag-told (has_pid c.args.pids.now pid) (has_pid c.args.others.now pid))
