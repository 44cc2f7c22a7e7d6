-- Children one after another.
use Rattle.std.proofs.Common.{◌≡◌, ℕ, ◌+◌, ◌<◌, ◌≤◌, List, [], ◌∷◌, length, drop, refl, sym, ap, ◌∙◌, get_or, subst}
use Rattle.std.specs.Prelude.{Ok, Err}
use Rattle.std.proofs.lemmas.List.{drop_more, drop_all}
use Rattle.serde_json.specs.Data.{Data}
use Rattle.serde_json.specs.declared.value.Value.{Value}
use Rattle.serde_json.specs.View.{view, items_view}
use Rattle.ts_jtree.specs.declared.fault.ReadRefusal.{ReadRefusal}
use Rattle.ts_jtree.specs.declared.fault.ReadRefusal.TheVariants.{Json, NoMemory}
use Rattle.ts_jtree.specs.Faults.{Reading, Stops, at_child, ◌>>=◌}
use Rattle.ts_json_tables.specs.TableReading.{read_each}

-- what is made from what is read
abbrev pub made_of : {A B : Type 0} → Reading (List A) → (List A → B) → Reading B
made_of read made = read >>= λ xs. Ok (made xs)

made_more : {A B : Type 0} (x : A) (read : Reading (List A)) (made more : List A → B)
    → ((xs : List A) → made (x ∷ xs) ≡ more xs)
    → made_of (read >>= λ xs. Ok (x ∷ xs)) made ≡ made_of read more
made_more x (Ok xs) made more same = ap Ok (same xs)
made_more x (Err fault) made more same = refl

first_more : {A B : Type 0} (read : Data → Reading A) (place : ℕ) (v : Value) (vs : List Value) (x : A)
    (made more : List A → B) → ((xs : List A) → made (x ∷ xs) ≡ more xs) → at_child place (read (view v)) ≡ Ok x
    → made_of (read_each read place (items_view (v ∷ vs))) made
    ≡ made_of (read_each read (place + 1) (items_view vs)) more
unfolding read_each
first_more read place v vs x made more same is =
    rw is (made_more x (read_each read (place + 1) (items_view vs)) made more same)

pub each_goes_on : {A B : Type 0} (read : Data → Reading A) (place : ℕ) (vs : List Value) (d : Value) (x : A)
    (made more : List A → B) (whole : Reading B) → place < length vs → d ≡ get_or vs place d
    → at_child place (read (view d)) ≡ Ok x → ((xs : List A) → made (x ∷ xs) ≡ more xs)
    → made_of (read_each read place (items_view (drop place vs))) made ≡ whole
    → made_of (read_each read (place + 1) (items_view (drop (place + 1) vs))) more ≡ whole
each_goes_on read place vs d x made more whole inside at is same so_far =
    sym (first_more read place (get_or vs place d) (drop (place + 1) vs) x made more same
    (sym (ap (λ v. at_child place (read (view v))) at) ∙ is))
    ∙ sym (ap (λ l. made_of (read_each read place (items_view l)) made) (drop_more vs place d inside)) ∙ so_far

first_stops : {A B : Type 0} (refusal : ReadRefusal) (read : Data → Reading A) (place : ℕ) (v : Value)
    (vs : List Value) (made : List A → B) (whole : Reading B)
    → made_of (read_each read place (items_view (v ∷ vs))) made ≡ whole
    → Stops refusal (at_child place (read (view v))) → Stops refusal whole
unfolding read_each
first_stops (Json fault) read place v vs made whole so_far is = sym so_far ∙ rw is refl
first_stops NoMemory read place v vs made whole so_far is = tt

pub each_stops : {A B : Type 0} (refusal : ReadRefusal) (read : Data → Reading A) (place : ℕ) (vs : List Value)
    (d : Value) (made : List A → B) (whole : Reading B) → place < length vs → d ≡ get_or vs place d
    → made_of (read_each read place (items_view (drop place vs))) made ≡ whole
    → Stops refusal (at_child place (read (view d))) → Stops refusal whole
each_stops refusal read place vs d made whole inside at so_far is =
    first_stops refusal read place (get_or vs place d) (drop (place + 1) vs) made whole
    (sym (ap (λ l. made_of (read_each read place (items_view l)) made) (drop_more vs place d inside)) ∙ so_far)
    (subst (λ v. Stops refusal (at_child place (read (view v)))) at is)

pub each_done : {A B : Type 0} (read : Data → Reading A) (place : ℕ) (vs : List Value) (made : List A → B)
    (whole : Reading B) → length vs ≤ place
    → made_of (read_each read place (items_view (drop place vs))) made ≡ whole → whole ≡ Ok (made [])
unfolding read_each
each_done read place vs made whole all so_far =
    let none : drop place vs ≡ [] = drop_all place vs all in
    sym so_far ∙ ap (λ l. made_of (read_each read place (items_view l)) made) none

-- what is read itself
pub itself_done : {A : Type 0} (read : Reading (List A)) (front : List A) → made_of read (λ xs. xs) ≡ Ok front → read ≡ Ok front
itself_done (Ok xs) front is = is
itself_done (Err fault) front is = cc

pub itself_stops : {A : Type 0} (refusal : ReadRefusal) (read : Reading (List A)) → Stops refusal (made_of read (λ xs. xs)) → Stops refusal read
itself_stops (Json fault) (Ok xs) is = cc
itself_stops (Json fault) (Err other) is = cc
itself_stops NoMemory read is = tt
