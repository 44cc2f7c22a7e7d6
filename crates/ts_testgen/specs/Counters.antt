-- The state of a generator: the counters of the PIDs, and the packets of the tables. This project's own rule.
use Rattle.std.specs.Prelude.{◌≡◌, ℕ, ◌%◌, List, [], ◌∷◌, map}
use Rattle.ts_testgen.specs.GeneratedTables.{pat_section, first_pmt_section, second_pmt_section, sdt_section}
use Rattle.ts_testgen.specs.Rules.{earlier}
use Rattle.ts_testgen.specs.Generated.{table_packet}

-- the PIDs of the stream, each at its place in the row of counters
abbrev pub counted_pids : List ℕ
counted_pids = 0 ∷ 4096 ∷ 4097 ∷ 17 ∷ 256 ∷ 257 ∷ 258 ∷ 259 ∷ 8191 ∷ []

-- the row of counters before the packet with a number
abbrev pub counters_at : ℕ → ℕ → List ℕ
counters_at seed i = map (λ pid. earlier seed pid i % 16) counted_pids

-- four packets are those of the tables
pub record AreTables (pat first_pmt second_pmt sdt : List ℕ) : Type 0 where
  pub pat_is : pat ≡ table_packet 0 pat_section
  pub first_pmt_is : first_pmt ≡ table_packet 4096 first_pmt_section
  pub second_pmt_is : second_pmt ≡ table_packet 4097 second_pmt_section
  pub sdt_is : sdt ≡ table_packet 17 sdt_section
