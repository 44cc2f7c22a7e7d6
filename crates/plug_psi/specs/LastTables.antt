-- The last tables of keys, defined without steps.
-- This project's own rule.
use Rattle.std.specs.Prelude.{◌≡◌, ℕ, not, List, [], ◌∷◌, filter, Option, Some, None, if◌then◌else◌}
use Rattle.std.specs.List.{filter_map}
use Rattle.std.specs.Option.{option_or}
use Rattle.std.specs.Map.{keys_of, lookup}
use Rattle.ts_demux.specs.declared.table_key.TableKey.{TableKey}
use Rattle.ts_demux.specs.Keys.{key_eq, key_of_table}
use Rattle.plug_psi.specs.Contents.{Entry}

-- a table under its key
abbrev pub entry_under : List (List ℕ) → Option TableKey → Option Entry
entry_under table None = None
entry_under table (Some key) = Some (key, table)

-- a table under its key, if it has one
abbrev pub entry_of : List (List ℕ) → Option Entry
entry_of table = entry_under table (key_of_table table)

-- the keys of tables, each where it first occurs
abbrev pub first_keys : List Entry → List TableKey
first_keys [] = []
first_keys (e ∷ es) = e.0 ∷ filter (λ key. not (key_eq e.0 key)) (first_keys es)

-- the last table of a key
abbrev pub last_of : List Entry → TableKey → Option (List (List ℕ))
last_of [] key = None
last_of (e ∷ es) key = option_or (last_of es key) (if key_eq key e.0 then Some e.1 else None)

-- entries have the keys of the tables in the order in which they first occur there, each with its last table
pub record AreLast (entries : List Entry) (tables : List (List (List ℕ))) : Type 0 where
  pub keys : keys_of entries ≡ first_keys (filter_map entry_of tables)
  pub values : (key : TableKey) → lookup (key_eq key) entries ≡ last_of (filter_map entry_of tables) key
