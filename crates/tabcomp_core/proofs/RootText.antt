-- The text of the root.
use Rattle.std.proofs.Common.{◌≡◌, List, [], ◌∷◌, ◌++◌, false, option_map, option_and_then, map, codes, ap, ◌∙◌, append_assoc}
use Rattle.std.specs.Prelude.{All}
use Rattle.json.specs.Json as json
use Rattle.json.specs.Print.{escape_byte}
use Rattle.serde_json.specs.Data.{Data, array, no_members, object, put, string}
use Rattle.serde_json.specs.Read.{of_members}
use Rattle.serde_json.specs.View.{items_of}
use Rattle.serde_json.specs.Written.{items_text}
use Rattle.ts_jtree.specs.Shown.{put_attributes}
use Rattle.ts_json_tables.specs.HeldTables.{TableValue}
use Rattle.ts_json_tables.specs.TableElements.{table_shown}
use Rattle.tabcomp_core.specs.Decompiling.{root_shown, tables_text}
use Rattle.tabcomp_core.specs.ElementTexts.{IsReadWithin, children_text, head_text, tail_text}
use Rattle.tabcomp_core.proofs.ChildrenTexts.{closed_text, items_numbered, items_same}

pub root_text : (ts : List TableValue) → tables_text ts ≡ head_text ++ (children_text false (map table_shown ts) ++ tail_text)
unfolding escape_byte put_attributes
root_text ts =
    let ds : List Data = map table_shown ts in
    let closed : items_text false (items_of ds) ++ 125 ∷ [] ≡ children_text false ds ++ tail_text =
    ap (λ l. l ++ 125 ∷ []) (closed_text false ds) ∙ append_assoc (children_text false ds) (93 ∷ []) (125 ∷ []) in
    ap (λ l. head_text ++ l) closed

pub root_within : (ts : List TableValue) → All IsReadWithin (map table_shown ts) → IsReadWithin (root_shown ts)
unfolding put_attributes
root_within ts within = record {
  numbers = (tt, (items_numbered (map table_shown ts) within, tt));
  same =
      ap (λ r. option_map object (option_and_then (λ d. of_members json.no_members (put (codes "#nodes") d (put (codes "#name") (string (codes "tsduck")) no_members))) (option_map array r)))
      (items_same (map table_shown ts) within);
}
