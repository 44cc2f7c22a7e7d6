-- Lemmas on numbers that are added item by item.
use Rattle.std.proofs.Common.{◌≡◌, ℕ, ◌+◌, ◌<◌, List, ◌++◌, length, drop, get_or, map, sym, ap, ◌∙◌, append_assoc}
use Rattle.std.specs.List.{flat_map}
use Rattle.std.proofs.lemmas.List.{drop_more}

-- those of the next item are added
pub item-added : {A B : Type 0} (tell : B → List ℕ) (view : A → B) (numbers new whole : List ℕ) (items : List A) (i : ℕ) (d : A) → i < length items
    → new ≡ numbers ++ tell (view (get_or items i d)) → numbers ++ flat_map tell (map view (drop i items)) ≡ whole
    → new ++ flat_map tell (map view (drop (i + 1) items)) ≡ whole
item-added tell view numbers new whole items i d inside is so_far =
    ap (λ (l : List ℕ). l ++ flat_map tell (map view (drop (i + 1) items))) is
    ∙ (append_assoc numbers (tell (view (get_or items i d))) (flat_map tell (map view (drop (i + 1) items)))
    ∙ (ap (λ (l : List _). numbers ++ flat_map tell (map view l)) (sym (drop_more items i d inside)) ∙ so_far))
