-- Lemmas on descriptors that are no ISO_639_language_descriptor.
use Rattle.std.proofs.Common.{◌≡◌, ℕ, List, [], ◌∷◌, ap, sym, ◌∙◌, refl, Bool, true, false, ◌==◌}
use Rattle.std.specs.Prelude.{nat_eq, if◌then◌else◌, Option, Some, None}
use Rattle.std.specs.List.{find, list_any}
use Rattle.std.proofs.lemmas.Bool.{and_left, eqb-true}
use Rattle.std.proofs.lemmas.Option.{same_Some}
use Rattle.ts_bits.specs.TaggedBody.{TaggedBody}
use Rattle.ts_fields.specs.Bits.{bits_of}
use Rattle.ts_fields.specs.Reading.{◌>>=◌}
use Rattle.ts_fields.specs.Bodies.{Holding, Page, read_page}
use Rattle.ts_descr.specs.Descriptors.{Typed, read_typed}
use Rattle.monitor_services.specs.Components.{has_special, is_special}

-- the page that is found by a tag has it
found_by : (here : Bool) (tag : ℕ) (x : Page) (xs : List Page) (q : Page) → nat_eq tag x.tag ≡ here
    → (if here then Some x else find (λ q. nat_eq tag q.tag) xs) ≡ Some q
    → (find (λ q. nat_eq tag q.tag) xs ≡ Some q → q.tag ≡ tag) → q.tag ≡ tag
found_by true tag x xs q same is later =
    let x_is : x ≡ q = same_Some _ _ is in sym (ap (λ y. y.tag) x_is) ∙ sym (eqb-true tag x.tag same)
found_by false tag x xs q same is later = later is

tag_found : (tag : ℕ) (pages : List Page) (q : Page) → find (λ q. nat_eq tag q.tag) pages ≡ Some q → q.tag ≡ tag
tag_found tag [] q is = cc
tag_found tag (x ∷ xs) q is = found_by (nat_eq tag x.tag) tag x xs q refl is (tag_found tag xs q)

-- the values of a descriptor by the page that was found for it
abbrev typed_by : TaggedBody → Page → Option Typed
typed_by d p = read_page p (bits_of d.body) >>= λ h. Some (record { tag = p.tag; holding = h })

by_page : (d : TaggedBody) (found : Option Page) → (d.tag == 10) ≡ false → ((q : Page) → found ≡ Some q → q.tag ≡ d.tag)
    → has_special (found >>= typed_by d) ≡ false
by_page d None other tagged = refl
by_page d (Some q) other tagged = by_holding (read_page q (bits_of d.body))
  where
    by_holding : (o : Option Holding) → has_special (o >>= λ h. Some (record { tag = q.tag; holding = h })) ≡ false
    by_holding None = refl
    by_holding (Some h) = and_left (nat_eq q.tag 10) (list_any is_special h.items) (ap (λ (t : ℕ). nat_eq t 10) (tagged q refl) ∙ other)

-- a descriptor with another tag has no audio_type
pub other-tag : (pages : List Page) (d : TaggedBody) → (d.tag == 10) ≡ false → has_special (read_typed pages d) ≡ false
unfolding read_typed
other-tag pages d other = by_page d (find (λ q. nat_eq d.tag q.tag) pages) other (tag_found d.tag pages)
