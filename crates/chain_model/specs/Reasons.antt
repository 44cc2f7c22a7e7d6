-- Why a plugin refuses a packet. This project's own rule.
use Rattle.std.specs.Prelude.{ℕ}
use Rattle.chain_model.specs.declared.reason.Reason.{Reason}
use Rattle.chain_model.specs.declared.reason.Reason.TheVariants.{Pid}

-- the PID of the packet that is refused
abbrev pub refused_pid : Reason → ℕ
refused_pid (Pid pid) = pid
