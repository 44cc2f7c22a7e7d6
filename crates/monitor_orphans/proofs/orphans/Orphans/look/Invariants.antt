-- The PIDs so far have been turned, those of them that are told are in the list, and those of which something is kept in the reach.
use Rattle.std.proofs.Common.{◌≡◌, ◌≤◌, ℕ, List}
use Rattle.ts_packet.specs.declared.numbers.TheConstants.{PID_COUNT}
use Rattle.plug_psi.specs.ReferredStands.{StandsFor}
use Rattle.monitor_orphans.specs.OrphanRow.{IsWithin, LookedBelow, told_below}
use Rattle.monitor_orphans.specs.Reaches.{IsWithinBelow}
use Rattle.monitor_orphans.proofs.orphans.Orphans.look.Given as goal

abbrev pub invariant-loop-pid : goal.invariant-loop-pid
invariant-loop-pid l =
    record {
      bound : l.pid ≤ PID_COUNT;
      looked : (fed : List (List ℕ)) → StandsFor l.referred fed → IsWithin l.fn.self.reach l.fn.self.pids
          → LookedBelow l.span l.packet fed l.fn.self.pids l.self.pids l.pid;
      tells : (fed : List (List ℕ)) → StandsFor l.referred fed → IsWithin l.fn.self.reach l.fn.self.pids
          → l.told.items ≡ told_below l.span l.packet fed l.fn.self.pids l.pid;
      within : (fed : List (List ℕ)) → StandsFor l.referred fed → IsWithin l.fn.self.reach l.fn.self.pids
          → IsWithinBelow l.self.reach l.self.pids l.pid;
    }
