use Rattle.std.proofs.Common.{◌≡◌, ◌++◌, drop, filter}
use Rattle.std.specs.Prelude.{option_map}
use Rattle.std.specs.Option.{option_copied}
use Rattle.ts_psi.specs.PatTables.{pat_held}
use Rattle.plug_service.specs.Actions.{more_entries}
use Rattle.plug_service.proofs.services.shared_pids.Given as goal

-- the PIDs so far and those of the others that are shared
abbrev pub invariant-loop-pid : goal.invariant-loop-pid
invariant-loop-pid l =
    l.pids.items ++ filter (more_entries l.firsts (option_map pat_held (option_copied l.pat))) (drop l.pid-index l.firsts)
    ≡ filter (more_entries l.firsts (option_map pat_held (option_copied l.pat))) l.firsts
