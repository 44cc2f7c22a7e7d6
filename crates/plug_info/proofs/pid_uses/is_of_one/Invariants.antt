use Rattle.std.proofs.Common.{◌≡◌, drop}
use Rattle.plug_info.specs.PidUses.{is_of_one}
use Rattle.plug_info.proofs.pid_uses.is_of_one.Given as goal

-- the result follows from the remaining ones
abbrev pub invariant-loop-system : goal.invariant-loop-system
invariant-loop-system l = is_of_one (drop l.system-index l.systems) l.pid ≡ is_of_one l.systems l.pid
