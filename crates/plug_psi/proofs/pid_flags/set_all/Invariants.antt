use Rattle.std.proofs.Common.{◌≡◌, ℕ, ◌<◌, get_or, drop, false}
use Rattle.std.specs.Prelude.{if◌then◌else◌}
use Rattle.ts_packet.specs.declared.numbers.TheConstants.{PID_COUNT}
use Rattle.plug_psi.specs.ServicePids.{has_pid}
use Rattle.plug_psi.proofs.pid_flags.set_all.Given as goal

-- the flags are those at first but for the PIDs so far
abbrev pub invariant-loop-pid : goal.invariant-loop-pid
invariant-loop-pid l = (pid : ℕ) → pid < PID_COUNT
    → (if has_pid (drop l.pid-index l.pids) pid then l.value else get_or l.flags pid false)
    ≡ (if has_pid l.pids pid then l.value else get_or l.initial.flags pid false)
