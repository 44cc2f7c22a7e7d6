-- The entries of a PAT.
-- ISO/IEC 13818-1, 2.4.4.3 to 2.4.4.5: program_number 0 has the network PID. That the network entry is listed first
-- is this project's own rule.
use Rattle.std.specs.Prelude.{ℕ, List, [], ◌∷◌, ◌++◌, filter, find, Bool, not, Option, Some, None, option_to_list}
use Rattle.ts_fields.specs.Layout.{number}
use Rattle.ts_table_rows.specs.TableValues.{ItemHolding}
use Rattle.ts_table_rows.specs.BodyReading.{first_number, is_zero}

-- an entry as an item
abbrev pub entry_item : ℕ → ℕ → ItemHolding
entry_item id pid = record { values = number id ∷ number pid ∷ []; descriptors = [] }

-- the network entry, if there is one
abbrev pub network_items : Option ℕ → List ItemHolding
network_items None = []
network_items (Some pid) = entry_item 0 pid ∷ []

-- an entry of program_number 0
abbrev pub is_network : ItemHolding → Bool
is_network x = is_zero (first_number x.values)

-- the network entry first, then the services in their order
abbrev pub ordered : List ItemHolding → List ItemHolding
ordered xs = option_to_list (find is_network xs) ++ filter (λ x. not (is_network x)) xs
