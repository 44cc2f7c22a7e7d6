-- A descriptor and its values determine each other.
use Rattle.std.proofs.Common.{◌≡◌, ℕ, List, [], ◌∷◌, Bool, true, false, refl, sym, ap, ◌∙◌}
use Rattle.std.specs.Prelude.{nat_eq, if◌then◌else◌, Option, Some, None, option_map}
use Rattle.std.specs.List.{find}
use Rattle.std.proofs.lemmas.Option.{same_Some}
use Rattle.std.proofs.lemmas.Bool.{eqb-true}
use Rattle.ts_bits.specs.TaggedBody.{TaggedBody}
use Rattle.ts_fields.specs.Bits.{bits_of}
use Rattle.ts_fields.specs.Reading.{◌>>=◌}
use Rattle.ts_fields.specs.Bodies.{Page, Holding, read_page, spell_page}
use Rattle.ts_descr.specs.Descriptors.{Typed, read_typed}

-- the tag of a page, with the values that the page reads
abbrev typed_by : Page → Holding → Option Typed
typed_by p h = Some (record { tag = p.tag; holding = h })

read_at : (found : Option Page) (p : Page) (from : List Bool) (read : Option Holding)
    → found ≡ Some p → read ≡ read_page p from
    → (read >>= typed_by p) ≡ (found >>= λ q. read_page q from >>= typed_by q)
read_at found p from read there is = rw (there, is) refl

fused : {A : Type 0} (o : Option A) (p : Page) (view : A → Holding)
    → (let typed : A → Typed = λ x. record { tag = p.tag; holding = view x } in
    option_map typed o ≡ (option_map view o >>= typed_by p))
fused None p view = refl
fused (Some x) p view = refl

-- the values that the page of the tag gives
pub typed_value : {A : Type 0} (pages : List Page) (p : Page) (d : TaggedBody) (o : Option A) (view : A → Holding)
    → find (λ q. nat_eq d.tag q.tag) pages ≡ Some p → option_map view o ≡ read_page p (bits_of d.body)
    → (let typed : A → Typed = λ x. record { tag = p.tag; holding = view x } in option_map typed o ≡ read_typed pages d)
unfolding read_typed
typed_value pages p d o view found is =
    fused o p view ∙ read_at (find (λ q. nat_eq d.tag q.tag) pages) p (bits_of d.body) (option_map view o) found is

-- a descriptor that is written is read again
pub spelled_is_typed : (pages : List Page) (p : Page) (h : Holding) (d : TaggedBody)
    → find (λ q. nat_eq p.tag q.tag) pages ≡ Some p → d.tag ≡ p.tag → bits_of d.body ≡ spell_page p h
    → read_page p (spell_page p h) ≡ Some h → read_typed pages d ≡ Some (record { tag = p.tag; holding = h })
unfolding read_typed
spelled_is_typed pages p h d found same_tag same_bits again =
    sym (read_at (find (λ q. nat_eq d.tag q.tag) pages) p (bits_of d.body) (Some h)
    (ap (λ t. find (λ q. nat_eq t q.tag) pages) same_tag ∙ found)
    (sym (ap (read_page p) same_bits ∙ again)))

then_some : {A B P : Type 0} (r : Option A) (next : A → Option B) (y : B)
    → (r >>= next) ≡ Some y → ((x : A) → r ≡ Some x → next x ≡ Some y → P) → P
then_some None next y is goal = cc
then_some (Some x) next y is goal = goal x refl is

found_by : (here : Bool) (tag : ℕ) (x : Page) (xs : List Page) (q : Page) → nat_eq tag x.tag ≡ here
    → (if here then Some x else find (λ q. nat_eq tag q.tag) xs) ≡ Some q
    → (find (λ q. nat_eq tag q.tag) xs ≡ Some q → q.tag ≡ tag) → q.tag ≡ tag
found_by true tag x xs q same is later =
    let x_is : x ≡ q = same_Some _ _ is in sym (ap (λ y. y.tag) x_is) ∙ sym (eqb-true tag x.tag same)
found_by false tag x xs q same is later = later is

tag_found : (tag : ℕ) (pages : List Page) (q : Page) → find (λ q. nat_eq tag q.tag) pages ≡ Some q → q.tag ≡ tag
tag_found tag [] q is = cc
tag_found tag (x ∷ xs) q is = found_by (nat_eq tag x.tag) tag x xs q refl is (tag_found tag xs q)

-- a descriptor that is read has the tag, and its page reads its bits
pub typed_parts : (pages : List Page) (p : Page) (h : Holding) (d : TaggedBody)
    → find (λ q. nat_eq p.tag q.tag) pages ≡ Some p
    → read_typed pages d ≡ Some (record { tag = p.tag; holding = h })
    → (d.tag ≡ p.tag) × (read_page p (bits_of d.body) ≡ Some h)
unfolding read_typed
typed_parts pages p h d found is =
    then_some (find (λ q. nat_eq d.tag q.tag) pages) _ (record { tag = p.tag; holding = h }) is (λ q there later.
    then_some (read_page q (bits_of d.body)) (typed_by q) (record { tag = p.tag; holding = h }) later (λ x was joins.
    let tag_is : q.tag ≡ p.tag = ap (λ t. t.tag) (same_Some _ _ joins) in
    let same_tag : d.tag ≡ p.tag = sym (tag_found d.tag pages q there) ∙ tag_is in
    let same_holding : x ≡ h = ap (λ t. t.holding) (same_Some _ _ joins) in
    let same_page : q ≡ p = same_Some _ _ (sym there ∙ ap (λ t. find (λ q. nat_eq t q.tag) pages) same_tag ∙ found) in
    (same_tag, ap (λ q. read_page q (bits_of d.body)) (sym same_page) ∙ was ∙ ap Some same_holding)))

joined : (t u : ℕ) (a b : List ℕ) → t ≡ u → a ≡ b
    → (let x : TaggedBody = record { tag = t; body = a } in let y : TaggedBody = record { tag = u; body = b } in x ≡ y)
joined t u a b same_tag same_body = rw (same_tag, same_body) refl

-- tag and body determine a descriptor
pub same_descriptor : (e d : TaggedBody) → e.tag ≡ d.tag → e.body ≡ d.body → e ≡ d
same_descriptor e d same_tag same_body = joined e.tag d.tag e.body d.body same_tag same_body
