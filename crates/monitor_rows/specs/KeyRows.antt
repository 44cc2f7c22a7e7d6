-- Rows of keys that tables ask for: one for each number that the tables in force name, as those of services, of PIDs or of
-- sections. This project's own rule, over ETSI TR 101 290, 5.2.1 (1.5 PMT, 1.6 PID), 5.2.2 (2.3 PCR, 2.5 PTS) and 5.2.3
-- (3.6 EIT), whose limits are those of each service or PID by itself.
use Rattle.std.specs.Prelude.{ℕ, List, [], ◌∷◌, ◌++◌, filter, length, map, take, Bool, true, not, option_to_list, ◌==◌, Option, None, Some}
use Rattle.std.specs.List.{flat_map, last_or, list_any}
use Rattle.ts_packet.specs.declared.cell.Cell.{Cell}
use Rattle.ts_packet.specs.Cells.{Live, live_packets}
use Rattle.plugin_notes.specs.PidPackets.{numbers_below}
use Rattle.monitor_keys.specs.declared.gap.Gap.{Gap}
use Rattle.monitor_keys.specs.declared.key_limit.KeyLimit.{KeyLimit}
use Rattle.monitor_keys.specs.Keys.{KeyRule, gap_on}
use Rattle.monitor_keys.specs.Named.{begun_at}
use Rattle.monitor_rows.specs.declared.row_gap.RowGap.{RowGap}

-- a row: whose PCRs tell the time, the limit of its keys, the bound that their numbers are below, which of them the tables in
-- force after live packets name, and which occur on a packet after these
pub record RowRule : Type 0 where
  pub pcr_pid : Option ℕ
  pub limit : KeyLimit
  pub bound : ℕ
  pub names : List (List ℕ) → ℕ → Bool
  pub occurs : List (List ℕ) → List ℕ → ℕ → Bool

-- the key of a number; where it begins is said by the tables
abbrev pub key_of : RowRule → ℕ → KeyRule
key_of rule n = record {
  pcr_pid = rule.pcr_pid;
  from = 0;
  limit = rule.limit;
  occurs = λ history packet. rule.occurs (live_packets history) packet n;
  is_due = λ history packet. true;
}

-- ---- the tables in force

-- they name the key of a number after cells
abbrev pub is_named : RowRule → ℕ → List Cell → Bool
is_named rule n cells = rule.names (live_packets cells) n

-- the numbers of the keys that they name after live packets, ascending
abbrev pub numbers_named : RowRule → List (List ℕ) → List ℕ
numbers_named rule fed = filter (rule.names fed) (numbers_below rule.bound)

-- where a key began that is named after cells: at the last position up to which it was not
abbrev pub beginning : (List Cell → Bool) → List Cell → Option ℕ
beginning named cells = last_or None (filter (λ n. not (named (take n cells))) (numbers_below (length cells)))

-- ---- what is told

-- the gap of the key of a number, by its beginning
abbrev pub gap_begun : RowRule → List Cell → List ℕ → ℕ → Option ℕ → Option Gap
gap_begun rule history packet n None = None
gap_begun rule history packet n (Some from) = gap_on (begun_at (key_of rule n) from) history packet

-- with a packet that is met after cells
abbrev pub with_packet : List Cell → List ℕ → List Cell
with_packet history packet = history ++ Live packet 0 ∷ []

abbrev pub gap_at : ℕ → Gap → RowGap
gap_at n gap = record { number = n; gap = gap }

abbrev pub row_gap : RowRule → List Cell → List ℕ → ℕ → List RowGap
row_gap rule history packet n =
    map (gap_at n)
    (option_to_list (gap_begun rule history packet n (beginning (is_named rule n) (with_packet history packet))))

-- those of all keys that are named with the packet, by their numbers, ascending
abbrev pub row_gaps : RowRule → List Cell → List ℕ → List RowGap
row_gaps rule history packet = flat_map (row_gap rule history packet) (numbers_named rule (live_packets history ++ packet ∷ []))

-- a number is in a list
abbrev pub has_number : List ℕ → ℕ → Bool
has_number numbers n = list_any (λ m. m == n) numbers
