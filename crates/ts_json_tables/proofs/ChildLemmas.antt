-- Children by their kind.
use Rattle.std.proofs.Common.{◌≡◌, List, [], ◌∷◌, ◌++◌, refl, sym, ap, ◌∙◌, append_assoc, append-nil}
use Rattle.ts_bits.specs.TaggedBody.{TaggedBody}
use Rattle.ts_table_rows.specs.TableSections.{Thing, own_thing, item_thing, items_in, owns_in}
use Rattle.ts_table_rows.specs.TableValues.{ItemHolding}

-- children after those that were read before, by their kind
abbrev pub behind : List TaggedBody → List ItemHolding → List Thing → List TaggedBody × List ItemHolding
behind own items things = (own ++ owns_in things, items ++ items_in things)

owns_more : (x : Thing) (xs : List Thing) → owns_in (x ∷ xs) ≡ owns_in (x ∷ []) ++ owns_in xs
owns_more (own_thing d) xs = refl
owns_more (item_thing x) xs = refl

items_more : (x : Thing) (xs : List Thing) → items_in (x ∷ xs) ≡ items_in (x ∷ []) ++ items_in xs
items_more (own_thing d) xs = refl
items_more (item_thing x) xs = refl

pub after_more : (own own2 : List TaggedBody) (items items2 : List ItemHolding) (x : Thing)
    → own2 ≡ own ++ owns_in (x ∷ []) → items2 ≡ items ++ items_in (x ∷ []) → (xs : List Thing)
    → behind own items (x ∷ xs) ≡ behind own2 items2 xs
after_more own own2 items items2 x own_is items_is xs =
    let a : own ++ owns_in (x ∷ xs) ≡ own2 ++ owns_in xs =
    ap (λ l. own ++ l) (owns_more x xs) ∙ sym (append_assoc own (owns_in (x ∷ [])) (owns_in xs))
    ∙ ap (λ l. l ++ owns_in xs) (sym own_is) in
    let b : items ++ items_in (x ∷ xs) ≡ items2 ++ items_in xs =
    ap (λ l. items ++ l) (items_more x xs) ∙ sym (append_assoc items (items_in (x ∷ [])) (items_in xs))
    ∙ ap (λ l. l ++ items_in xs) (sym items_is) in
    ap (λ l. (l, items ++ items_in (x ∷ xs))) a ∙ ap (λ l. (own2 ++ owns_in xs, l)) b

pub after_none : (own : List TaggedBody) (items : List ItemHolding) → behind own items [] ≡ (own, items)
after_none own items = ap (λ l. (l, items ++ [])) (append-nil own) ∙ ap (λ l. (own, l)) (append-nil items)
