use Rattle.std.proofs.Common.{◌≡◌, drop}
use Rattle.plug_psi.specs.ServicePids.{has_pid}
use Rattle.plug_info.proofs.pid_uses.has_pid.Given as goal

-- the result follows from the remaining ones
abbrev pub invariant-loop-one : goal.invariant-loop-one
invariant-loop-one l = has_pid (drop l.one-index l.pids) l.pid ≡ has_pid l.pids l.pid
