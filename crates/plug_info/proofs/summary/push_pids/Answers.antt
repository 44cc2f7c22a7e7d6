use Rattle.plug_info.proofs.summary.push_pids.Goals as goal

pub returns : goal.returns
returns c = λ cells w s. c.in_ok-push_each_pid.ensures cells w (c.in_ok-uses.ensures cells w) s
