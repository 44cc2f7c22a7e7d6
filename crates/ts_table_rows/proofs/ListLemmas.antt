-- Members of a list taken one after another.
use Rattle.std.proofs.Common.{◌≡◌, ℕ, zero, suc, ◌+◌, ◌<◌, ◌≤◌, Bool, true, false, List, [], ◌∷◌, ◌++◌, length, take, get_or, map, refl, sym, ap, ◌∙◌, arith}
use Rattle.std.specs.Prelude.{nat_eq, Some}
use Rattle.std.specs.List.{list_all}
use Rattle.std.proofs.lemmas.Bool.{and_parts, and_from}
use Rattle.std.proofs.lemmas.List.{take_more, take_all, map-append}
use Rattle.std.specs.Int.{from_bool}
use Rattle.ts_bits.specs.TaggedBody.{TaggedBody}
use Rattle.ts_table_rows.specs.TableFitting.{none_there, zeros_from}
use Rattle.ts_table_rows.specs.TableValues.{ItemHolding}

-- one member more
pub map_one_more : {X Y W : Type 0} (f : X → W) (g : Y → W) (old new : List X) (x : X) (ys : List Y) (i : ℕ) (y : Y) → i < length ys → y ≡ get_or ys i y → new ≡ old ++ x ∷ [] → f x ≡ g y → map f old ≡ map g (take i ys) → map f new ≡ map g (take (i + 1) ys)
map_one_more f g old new x ys i y inside same is here so_far =
    ap (map f) is ∙ map-append f old (x ∷ []) ∙ ap (λ l. l ++ f x ∷ []) so_far ∙ ap (λ z. map g (take i ys) ++ z ∷ []) (here ∙ ap g same)
    ∙ sym (map-append g (take i ys) (get_or ys i y ∷ [])) ∙ sym (ap (map g) (take_more ys i y inside))

pub map_all : {X Y W : Type 0} (f : X → W) (g : Y → W) (new : List X) (ys : List Y) (i : ℕ) → length ys ≤ i → map f new ≡ map g (take i ys) → map f new ≡ map g ys
map_all f g new ys i all so_far = so_far ∙ ap (map g) (take_all i ys all)

all-append : {A : Type 0} (t : A → Bool) (a b : List A) → list_all t a ≡ true → list_all t b ≡ true → list_all t (a ++ b) ≡ true
all-append t [] b one two = two
all-append t (x ∷ a) b one two =
    let parts = and_parts (t x) (list_all t a) one in
    and_from (t x) (list_all t (a ++ b)) parts.0 (all-append t a b parts.1 two)

-- a test of one member more
pub test_one_more : {Y W : Type 0} (t : W → Bool) (g : Y → W) (ys : List Y) (i : ℕ) (y : Y) → i < length ys → y ≡ get_or ys i y → t (g y) ≡ true → list_all t (map g (take i ys)) ≡ true → list_all t (map g (take (i + 1) ys)) ≡ true
test_one_more t g ys i y inside same here so_far =
    ap (list_all t) (ap (map g) (take_more ys i y inside) ∙ map-append g (take i ys) (get_or ys i y ∷ []))
    ∙ all-append t (map g (take i ys)) (g (get_or ys i y) ∷ []) so_far (and_from (t (g (get_or ys i y))) true (ap (λ z. t (g z)) (sym same) ∙ here) refl)

pub test_all : {Y W : Type 0} (t : W → Bool) (g : Y → W) (ys : List Y) (i : ℕ) → length ys ≤ i → list_all t (map g (take i ys)) ≡ true → list_all t (map g ys) ≡ true
test_all t g ys i all so_far = sym (ap (λ l. list_all t (map g l)) (take_all i ys all)) ∙ so_far

-- where any number of items may be 0
pub zeros_free : (seen : Bool) (xs : List ItemHolding) → zeros_from false seen xs ≡ Some seen
unfolding zeros_from
zeros_free seen [] = refl
zeros_free seen (x ∷ xs) = zeros_free seen xs

-- no descriptors are an empty list
pub none_held : (ds : List TaggedBody) → none_there ds ≡ true → ds ≡ []
none_held [] none = refl
none_held (d ∷ ds) none = cc

-- a flag that was read
pub flag_read : (n : ℕ) → n < 2 → from_bool (nat_eq n 1) ≡ n
flag_read zero small = refl
flag_read (suc zero) small = refl
flag_read (suc (suc n)) small = absurd (omega arith)
