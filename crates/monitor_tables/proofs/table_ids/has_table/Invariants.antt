use Rattle.std.proofs.Common.{◌≡◌, drop}
use Rattle.monitor_tables.specs.TableIds.{has_table}
use Rattle.monitor_tables.proofs.table_ids.has_table.Given as goal

-- the sections that are left tell it
abbrev pub invariant-loop-section : goal.invariant-loop-section
invariant-loop-section l = has_table l.table_id (drop l.section-index l.sections) ≡ has_table l.table_id l.sections
