-- Children one after another.
use Rattle.std.proofs.Common.{◌≡◌, List, [], ◌∷◌, ◌++◌, Bool, true, Some, option_map, option_and_then, refl, sym, ap, ◌∙◌, append_assoc, append-nil}
use Rattle.std.specs.Prelude.{All}
use Rattle.std.proofs.lemmas.List.Elements.{All-head, All-tail}
use Rattle.json.specs.Tree.{ItemsHaveNumbers}
use Rattle.serde_json.specs.Data.{Data, item}
use Rattle.serde_json.specs.Read.{of_items}
use Rattle.serde_json.specs.View.{items_of}
use Rattle.serde_json.specs.Written.{comma_if, compact_text, items_outline, items_text}
use Rattle.tabcomp_core.specs.ElementTexts.{IsReadWithin, children_text}

pub closed_text : (later : Bool) (ds : List Data) → items_text later (items_of ds) ≡ children_text later ds ++ 93 ∷ []
closed_text later [] = refl
closed_text later (d ∷ ds) =
    ap (λ l. comma_if later ++ (compact_text d ++ l)) (closed_text true ds)
    ∙ ap (λ l. comma_if later ++ l) (sym (append_assoc (compact_text d) (children_text true ds) (93 ∷ [])))
    ∙ sym (append_assoc (comma_if later) (compact_text d ++ children_text true ds) (93 ∷ []))

-- whether a child after these has a comma
abbrev pub has_before : {A : Type 0} → Bool → List A → Bool
has_before later [] = later
has_before later (x ∷ xs) = true

pub one_more_child : (later : Bool) (ds : List Data) (d : Data) → children_text later (ds ++ d ∷ []) ≡ children_text later ds ++ (comma_if (has_before later ds) ++ compact_text d)
one_more_child later [] d = ap (λ l. comma_if later ++ l) (append-nil (compact_text d))
one_more_child later (x ∷ xs) d =
    ap (λ l. comma_if later ++ (compact_text x ++ l)) (one_more_child true xs d ∙ ap (λ b. children_text true xs ++ (comma_if b ++ compact_text d)) (still xs))
    ∙ ap (λ l. comma_if later ++ l) (sym (append_assoc (compact_text x) (children_text true xs) (comma_if true ++ compact_text d)))
    ∙ sym (append_assoc (comma_if later) (compact_text x ++ children_text true xs) (comma_if true ++ compact_text d))
  where
    still : (xs : List Data) → has_before true xs ≡ true
    still [] = refl
    still (y ∷ ys) = refl

pub items_numbered : (ds : List Data) → All IsReadWithin ds → ItemsHaveNumbers (items_outline (items_of ds))
items_numbered [] within = tt
items_numbered (d ∷ ds) within = ((All-head IsReadWithin d ds within).numbers, items_numbered ds (All-tail IsReadWithin d ds within))

pub items_same : (ds : List Data) → All IsReadWithin ds → of_items (items_outline (items_of ds)) ≡ Some (items_of ds)
items_same [] within = refl
items_same (d ∷ ds) within =
    ap (λ r. option_and_then (λ x. option_map (item x) (of_items (items_outline (items_of ds)))) r) (All-head IsReadWithin d ds within).same
    ∙ ap (λ r. option_map (item d) r) (items_same ds (All-tail IsReadWithin d ds within))
