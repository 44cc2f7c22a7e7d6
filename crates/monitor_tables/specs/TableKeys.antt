-- The keys of tables that each stream has: ETSI TR 101 290, 5.2.1 (1.3 PAT, within half a second), 5.2.2 (2.6 CAT, where there are
-- scrambled packets) and 5.2.3 (3.1 NIT, 10 s; 3.5 SDT, 2 s; 3.8 TDT, 30 s). That a CAT is asked for within two seconds where a
-- packet was scrambled since the last PCR is this project's own rule.
use Rattle.std.specs.Prelude.{ℕ, List, Bool, true, false, Option}
use Rattle.ts_packet.specs.declared.cell.Cell.{Cell}
use Rattle.ts_packet.specs.Cells.{live_packets}
use Rattle.monitor_keys.specs.Keys.{KeyRule}
use Rattle.monitor_keys.specs.Since.{has_since}
use Rattle.monitor_tables.specs.TableIds.{has_table, is_scrambled, sections_with}
use Rattle.monitor_tables.specs.declared.limits.TheConstants.{CAT_LIMIT, NIT_LIMIT, PAT_LIMIT, SDT_LIMIT, TDT_LIMIT}

-- a section of a table comes on a PID with the packet after a history
abbrev pub comes_on : ℕ → ℕ → List Cell → List ℕ → Bool
comes_on pid table_id history packet = has_table table_id (sections_with pid (live_packets history) packet)

-- a key of sections of a table on a PID, from the first position on, of so many units
abbrev pub table_key : ℕ → ℕ → ℕ → Option ℕ → KeyRule
table_key pid table_id units pcr_pid = record {
  pcr_pid = pcr_pid;
  from = 0;
  limit = record { units = units; tells_ends = true };
  occurs = comes_on pid table_id;
  is_due = λ history packet. true;
}

abbrev pub pat_key : Option ℕ → KeyRule
pat_key pcr_pid = table_key 0 0 PAT_LIMIT pcr_pid

abbrev pub nit_key : Option ℕ → KeyRule
nit_key pcr_pid = table_key 16 64 NIT_LIMIT pcr_pid

abbrev pub sdt_key : Option ℕ → KeyRule
sdt_key pcr_pid = table_key 17 66 SDT_LIMIT pcr_pid

abbrev pub tdt_key : Option ℕ → KeyRule
tdt_key pcr_pid = table_key 20 112 TDT_LIMIT pcr_pid

-- the CAT is due where a packet was scrambled since the last PCR that was read; the end of a gap is not told
abbrev pub cat_key : Option ℕ → KeyRule
cat_key pcr_pid = record (table_key 1 1 CAT_LIMIT pcr_pid) {
  limit = record { units = CAT_LIMIT; tells_ends = false };
  is_due = has_since pcr_pid is_scrambled;
}
