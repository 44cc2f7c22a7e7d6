use Rattle.std.proofs.Common.{◌≡◌, ◌++◌, drop}
use Rattle.monitor_tables.specs.TableIds.{strangers_in}
use Rattle.monitor_tables.proofs.table_ids.strangers.Given as goal

-- the table_ids so far and those of the sections that are left
abbrev pub invariant-loop-section : goal.invariant-loop-section
invariant-loop-section l = l.ids.items ++ strangers_in l.pid (drop l.section-index l.sections) ≡ strangers_in l.pid l.sections
