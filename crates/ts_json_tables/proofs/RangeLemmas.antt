-- The attributes of a table are in the ranges of their rows.
use Rattle.std.proofs.Common.{◌≡◌, ℕ, Bool, true, false, List, [], ◌∷◌, ◌++◌, refl}
use Rattle.std.specs.Prelude.{◌&&◌, nat_eq, nat_le, if◌then◌else◌}
use Rattle.std.proofs.lemmas.Bool.{and_from}
use Rattle.ts_fields.specs.Layout.{Row, Held, number}
use Rattle.ts_jtree.specs.Shown.{are_within}
use Rattle.ts_table_rows.specs.BodySpelling.{common_values, head_values}
use Rattle.ts_table_rows.specs.TablePages.{TablePage, has_id}
use Rattle.ts_table_rows.specs.TableValues.{TableHolding}
use Rattle.ts_json_tables.specs.ElementRows.{element_rows, extension_rows, id_rows, table_id_row}
use Rattle.ts_json_tables.specs.TableElements.{element_values, extension_values, id_values, kept_values, network_values}
use Rattle.ts_json_tables.proofs.KnownLemmas.{or_no, rows_after}
use Rattle.ts_json_tables.proofs.RowLemmas.{plain, plain_append, plain_within}

-- a table_id is in the range of its row, if it has one
id_within : (ids : List (ℕ × ℕ)) (id : ℕ) (rs behind : List Row) (vs values : List Held) → has_id ids id ≡ true
    → are_within (rs ++ behind) (vs ++ values) ≡ true
    → are_within ((id_rows ids ++ rs) ++ behind) ((id_values ids id ++ vs) ++ values) ≡ true
unfolding are_within
id_within [] id rs behind vs values has is = is
id_within (x ∷ []) id rs behind vs values has is = go (nat_eq x.0 x.1)
  where
    go : (b : Bool)
        → are_within (((if b then [] else table_id_row x ∷ []) ++ rs) ++ behind) (((if b then [] else number id ∷ []) ++ vs) ++ values) ≡ true
    go true = is
    go false =
        and_from (nat_le x.0 id && nat_le id x.1) (are_within (rs ++ behind) (vs ++ values)) (or_no (nat_le x.0 id && nat_le id x.1) has) is
id_within (x ∷ y ∷ more) id rs behind vs values has is = is

extension_plain : (called : List ℕ) → plain (extension_rows called) ≡ true
extension_plain [] = refl
extension_plain (c ∷ cs) = refl

-- for a table whose fields after the head have no ranges
pub element_within : (p : TablePage) (t : TableHolding) (network : Bool) → has_id p.ids t.head.table_id ≡ true
    → plain (rows_after p network) ≡ true → are_within (element_rows p network) (element_values p t) ≡ true
unfolding are_within
element_within p t network has bare =
    let first = extension_values p.extension t.head.extension in
    let rest = common_values p t.body.values ++ (kept_values t.head.numbers ++ (head_values p t.body.values ++ network_values p.one_zero t.body.items)) in
    id_within p.ids t.head.table_id (extension_rows p.extension) (rows_after p network) first rest has
    (plain_within (extension_rows p.extension ++ rows_after p network) (first ++ rest)
    (plain_append (extension_rows p.extension) (rows_after p network) (extension_plain p.extension) bare))
