-- Items of a form, one after another.
use Rattle.std.proofs.Common.{◌≡◌, ℕ, ◌+◌, ◌<◌, ◌≤◌, List, [], ◌∷◌, ◌++◌, length, drop, refl, sym, ap, ◌∙◌, append_assoc, append-nil, get_or, subst}
use Rattle.std.specs.Prelude.{Ok, Err}
use Rattle.std.proofs.lemmas.List.{drop_more, drop_all}
use Rattle.serde_json.specs.declared.value.Value.{Value}
use Rattle.serde_json.specs.View.{view, items_view}
use Rattle.ts_fields.specs.Bodies.{Holding, Page}
use Rattle.ts_item_forms.specs.ItemForms.{Form}
use Rattle.ts_jtree.specs.declared.fault.ReadRefusal.{ReadRefusal}
use Rattle.ts_jtree.specs.declared.fault.ReadRefusal.TheVariants.{Json, NoMemory}
use Rattle.ts_jtree.specs.Faults.{Reading, Stops, at_child, ◌>>=◌}
use Rattle.ts_json_descr.specs.DescrReading.{read_formed_item, read_formed_items}

-- what is read, after what was read before
abbrev pub with_items : List (Page × Holding) → Reading (List (Page × Holding)) → Reading (List (Page × Holding))
with_items front read = read >>= λ more. Ok (front ++ more)

items_more : (front : List (Page × Holding)) (one : Page × Holding) (read : Reading (List (Page × Holding)))
    → with_items front (read >>= λ more. Ok (one ∷ more)) ≡ with_items (front ++ one ∷ []) read
items_more front one (Ok more) = ap Ok (sym (append_assoc front (one ∷ []) more))
items_more front one (Err fault) = refl

first_more : (f : Form) (place : ℕ) (front : List (Page × Holding)) (v : Value) (vs : List Value)
    (one : Page × Holding) → at_child place (read_formed_item f (view v)) ≡ Ok one
    → with_items front (read_formed_items f place (items_view (v ∷ vs)))
    ≡ with_items (front ++ one ∷ []) (read_formed_items f (place + 1) (items_view vs))
unfolding read_formed_items
first_more f place front v vs one is = rw is (items_more front one (read_formed_items f (place + 1) (items_view vs)))

pub items_go_on : (f : Form) (place : ℕ) (front : List (Page × Holding)) (vs : List Value) (d : Value)
    (one : Page × Holding) (whole : Reading (List (Page × Holding))) → place < length vs → d ≡ get_or vs place d
    → at_child place (read_formed_item f (view d)) ≡ Ok one
    → with_items front (read_formed_items f place (items_view (drop place vs))) ≡ whole
    → with_items (front ++ one ∷ []) (read_formed_items f (place + 1) (items_view (drop (place + 1) vs))) ≡ whole
items_go_on f place front vs d one whole inside same is so_far =
    sym (first_more f place front (get_or vs place d) (drop (place + 1) vs) one
    (sym (ap (λ x. at_child place (read_formed_item f (view x))) same) ∙ is))
    ∙ sym (ap (λ l. with_items front (read_formed_items f place (items_view l))) (drop_more vs place d inside)) ∙ so_far

first_stops : (refusal : ReadRefusal) (f : Form) (place : ℕ) (front : List (Page × Holding)) (v : Value)
    (vs : List Value) (whole : Reading (List (Page × Holding)))
    → with_items front (read_formed_items f place (items_view (v ∷ vs))) ≡ whole
    → Stops refusal (at_child place (read_formed_item f (view v))) → Stops refusal whole
unfolding read_formed_items
first_stops (Json fault) f place front v vs whole so_far is = sym so_far ∙ rw is refl
first_stops NoMemory f place front v vs whole so_far is = tt

pub items_stop : (refusal : ReadRefusal) (f : Form) (place : ℕ) (front : List (Page × Holding))
    (vs : List Value) (d : Value) (whole : Reading (List (Page × Holding))) → place < length vs → d ≡ get_or vs place d
    → with_items front (read_formed_items f place (items_view (drop place vs))) ≡ whole
    → Stops refusal (at_child place (read_formed_item f (view d))) → Stops refusal whole
items_stop refusal f place front vs d whole inside same so_far is =
    first_stops refusal f place front (get_or vs place d) (drop (place + 1) vs) whole
    (sym (ap (λ l. with_items front (read_formed_items f place (items_view l))) (drop_more vs place d inside)) ∙ so_far)
    (subst (λ x. Stops refusal (at_child place (read_formed_item f (view x)))) same is)

pub items_done : (f : Form) (place : ℕ) (front : List (Page × Holding)) (vs : List Value)
    (whole : Reading (List (Page × Holding))) → length vs ≤ place
    → with_items front (read_formed_items f place (items_view (drop place vs))) ≡ whole → whole ≡ Ok front
unfolding read_formed_items
items_done f place front vs whole all so_far =
    let none : drop place vs ≡ [] = drop_all place vs all in
    sym so_far ∙ ap (λ l. with_items front (read_formed_items f place (items_view l))) none ∙ ap Ok (append-nil front)
