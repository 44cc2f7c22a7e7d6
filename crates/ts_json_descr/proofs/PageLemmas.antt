-- What every page of a descriptor has.
use Rattle.std.proofs.Common.{◌≡◌, ℕ, Bool, true, false, List, [], ◌∷◌, ◌++◌, map, refl, ap, subst}
use Rattle.std.specs.Prelude.{◌&&◌, not, nat_eq, bytes_eq, is_none, drop, slice_get, if◌then◌else◌, Option, Some, None, IsTrue}
use Rattle.std.specs.List.{find, list_all}
use Rattle.std.proofs.lemmas.Bool.{eqb-true}
use Rattle.std.proofs.lemmas.Option.{same_Some}
use Rattle.ts_fields.specs.Bodies.{Page, page_exact}
use Rattle.ts_fields.specs.Layout as layout
use Rattle.ts_fields.specs.Layout.{Row, Held}
use Rattle.ts_fields.specs.Spelling.{holds}
use Rattle.ts_groups.specs.Groups.{Group, grouped_exact, grouped_sound}
use Rattle.ts_item_forms.specs.ItemForms.{Form, formed_exact, formed_sound}
use Rattle.ts_shown_pages.specs.Extensions.{extension_groups_of, extension_named, extension_of, extensions}
use Rattle.ts_shown_pages.specs.Pages.{form_of, groups_of, pages, page_of, page_named, second_quarter, third_quarter, last_quarter}
use Rattle.ts_jtree.specs.Shown.{are_within, value_within}
use Rattle.ts_json_descr.specs.DescrElements.{generic_name}
use Rattle.ts_json_descr.specs.DescrReading.{form_good, groups_sound}
use Rattle.ts_json_descr.proofs.GroupLemmas.{every, plain, show_again}
use Rattle.ts_json_descr.proofs.StepLemmas.{both, not_true}

plain_one : (range : Option (ℕ × ℕ)) (value : Option Held) → is_none range ≡ true → value_within range value ≡ true
plain_one (Some x) value is = cc
plain_one None None is = refl
plain_one None (Some (layout.number n)) is = refl
plain_one None (Some (layout.bytes b)) is = refl

-- any values are in them
pub plain_within : (rs : List Row) (values : List Held) → plain rs ≡ true → are_within rs values ≡ true
unfolding are_within
plain_within [] values is = refl
plain_within (r ∷ rs) values is =
    let parts = both (is_none r.range) (plain rs) is in
    rw (plain_one r.range (slice_get values 0) parts.0, plain_within rs (drop (holds r.kind) values) parts.1) refl

abbrev pub items_show : Option (List ℕ × List Row) → Bool
items_show None = true
items_show (Some i) = show_again i.1

-- groups of fields that can be shown and read again behind those of their page, whichever are there
abbrev pub groups_good : Page → Option (List Group) → Bool
groups_good p None = true
groups_good p (Some groups) = grouped_sound p groups && (grouped_exact p groups && show_again (p.head ++ every groups))

-- a form of items that can be read and written, shown and read again, whichever fields an item has
abbrev pub form_shown : Page → Option Form → Bool
form_shown p None = true
form_shown p (Some f) = (formed_sound p f && formed_exact p f) && (show_again (f.head ++ every f.groups) && items_show f.inner)

-- a page with such groups whose descriptors can be shown and read again
abbrev is_shown : Page → Option (List Group) → Bool
is_shown p groups = show_again p.head && (items_show p.items && (page_exact p && groups_good p groups))

pub record Shown (p : Page) (groups : Option (List Group)) : Type 0 where
  pub head : show_again p.head ≡ true
  pub items : items_show p.items ≡ true
  pub exact : page_exact p ≡ true
  pub grouped : groups_good p groups ≡ true

shown_is : (p : Page) (groups : Option (List Group)) → is_shown p groups ≡ true → Shown p groups
shown_is p groups is =
    let one = both (show_again p.head) (items_show p.items && (page_exact p && groups_good p groups)) is in
    let two = both (items_show p.items) (page_exact p && groups_good p groups) one.1 in
    let three = both (page_exact p) (groups_good p groups) two.1 in
    record { head = one.0; items = two.0; exact = three.0; grouped = three.1 }

-- such a page, by a name that is not the generic one
abbrev is_good : (ℕ → Option (List Group)) → Page → Bool
is_good groups p = not (bytes_eq p.name generic_name) && is_shown p (groups p.tag)

-- what each page of a list has
abbrev AllOf : (Page → Type 0) → List Page → Type 0
AllOf P [] = Unit {0}
AllOf P (p ∷ ps) = P p × AllOf P ps

-- where two look-ups give the same pages, they give the same one for each
each_same : (f g : Page → Option Page) (ps : List Page) → map f ps ≡ map g ps → AllOf (λ p. f p ≡ g p) ps
each_same f g [] is = tt
each_same f g (p ∷ ps) is =
    let first : Some (f p) ≡ Some (g p) = ap (λ l. slice_get l 0) is in
    (same_Some _ _ first, each_same f g ps (ap (drop 1) is))

first_found : (P : Page → Type 0) (test : Page → Bool) (q p : Page) (b : Bool) (rest : Option Page) → test q ≡ b
    → (if b then Some q else rest) ≡ Some p → P q → (rest ≡ Some p → P p × (test p ≡ true)) → P p × (test p ≡ true)
first_found P test q p true rest at found here later =
    subst (λ x. P x × (test x ≡ true)) (same_Some _ _ found) (here, at)
first_found P test q p false rest at found here later = later found

-- what each page of a list has, the one that is found has, and it passes the test
found_in : (P : Page → Type 0) (test : Page → Bool) (ps : List Page) (p : Page) → AllOf P ps → find test ps ≡ Some p
    → P p × (test p ≡ true)
found_in P test [] p all found = cc
found_in P test (q ∷ ps) p all found =
    first_found P test q p (test q) (find test ps) refl found all.0 (found_in P test ps p all.1)

-- ---- the pages by tags

pub record Good (p : Page) : Type 0 where
  pub named : page_named p.name ≡ Some p
  pub own : bytes_eq p.name generic_name ≡ false
  pub shown : Shown p (groups_of p.tag)
  pub formed : form_shown p (form_of p.tag) ≡ true

-- the form of the items of a page, by its tag
abbrev is_formed : Page → Bool
is_formed p = form_shown p (form_of p.tag)

good_each : (ps : List Page) → list_all (is_good groups_of) ps ≡ true → list_all is_formed ps ≡ true
    → AllOf (λ p. page_named p.name ≡ Some p) ps → AllOf Good ps
good_each [] is formed named = tt
good_each (p ∷ ps) is formed named =
    let parts = both (is_good groups_of p) (list_all (is_good groups_of) ps) is in
    let forms = both (is_formed p) (list_all is_formed ps) formed in
    let one = both (not (bytes_eq p.name generic_name)) (is_shown p (groups_of p.tag)) parts.0 in
    (record { named = named.0; own = not_true _ one.0; shown = shown_is p (groups_of p.tag) one.1; formed = forms.0 }, good_each ps parts.1 forms.1 named.1)

all_good : AllOf Good pages
unfolding second_quarter third_quarter last_quarter
all_good = good_each pages refl refl (each_same (λ p. page_named p.name) (λ p. Some p) pages refl)

pub page_good : (tag : ℕ) (p : Page) → page_of tag ≡ Some p → Good p × (tag ≡ p.tag)
page_good tag p found =
    let it = found_in Good (λ q. nat_eq tag q.tag) pages p all_good found in
    (it.0, eqb-true tag p.tag it.1)

-- ---- the pages by the tags of extensions

-- no other page has the name of one
pub record GoodExtension (p : Page) : Type 0 where
  pub apart : page_named p.name ≡ None
  pub named : extension_named p.name ≡ Some p
  pub own : bytes_eq p.name generic_name ≡ false
  pub shown : Shown p (extension_groups_of p.tag)

extension_each : (ps : List Page) → list_all (is_good extension_groups_of) ps ≡ true
    → AllOf (λ p. page_named p.name ≡ None) ps → AllOf (λ p. extension_named p.name ≡ Some p) ps → AllOf GoodExtension ps
extension_each [] is apart named = tt
extension_each (p ∷ ps) is apart named =
    let parts = both (is_good extension_groups_of p) (list_all (is_good extension_groups_of) ps) is in
    let one = both (not (bytes_eq p.name generic_name)) (is_shown p (extension_groups_of p.tag)) parts.0 in (
      record { apart = apart.0; named = named.0; own = not_true _ one.0; shown = shown_is p (extension_groups_of p.tag) one.1 },
      extension_each ps parts.1 apart.1 named.1,
    )

all_extensions : AllOf GoodExtension extensions
unfolding extensions second_quarter third_quarter last_quarter
all_extensions =
    extension_each extensions refl
    (each_same (λ p. page_named p.name) (λ p. None) extensions refl)
    (each_same (λ p. extension_named p.name) (λ p. Some p) extensions refl)

pub extension_good : (tag : ℕ) (p : Page) → extension_of tag ≡ Some p → GoodExtension p × (tag ≡ p.tag)
extension_good tag p found =
    let it = found_in GoodExtension (λ q. nat_eq tag q.tag) extensions p all_extensions found in
    (it.0, eqb-true tag p.tag it.1)

-- ---- the groups of a page that was found can be read and written

sound_by : (p : Page) (groups : Option (List Group)) → Shown p groups → IsTrue (groups_sound p groups)
sound_by p None is = refl
sound_by p (Some groups) is = (both (grouped_sound p groups) _ is.grouped).0

pub groups_by_tag : (tag : ℕ) (p : Page) → page_of tag ≡ Some p → IsTrue (groups_sound p (groups_of p.tag))
groups_by_tag tag p found = let it = page_good tag p found in sound_by p (groups_of p.tag) it.0.shown

-- so can the form of its items
good_by : (p : Page) (form : Option Form) → form_shown p form ≡ true → IsTrue (form_good p form)
good_by p None is = refl
good_by p (Some f) is = (both (formed_sound p f && formed_exact p f) _ is).0

pub form_by_tag : (tag : ℕ) (p : Page) → page_of tag ≡ Some p → IsTrue (form_good p (form_of p.tag))
form_by_tag tag p found = let it = page_good tag p found in good_by p (form_of p.tag) it.0.formed

pub form_by_name : (name : List ℕ) (p : Page) → page_named name ≡ Some p → IsTrue (form_good p (form_of p.tag))
form_by_name name p found =
    let it = found_in Good (λ q. bytes_eq name q.name) pages p all_good found in
    good_by p (form_of p.tag) it.0.formed

pub groups_by_name : (name : List ℕ) (p : Page) → page_named name ≡ Some p → IsTrue (groups_sound p (groups_of p.tag))
groups_by_name name p found =
    let it = found_in Good (λ q. bytes_eq name q.name) pages p all_good found in
    sound_by p (groups_of p.tag) it.0.shown

pub extension_groups_by_tag : (tag : ℕ) (p : Page) → extension_of tag ≡ Some p
    → IsTrue (groups_sound p (extension_groups_of p.tag))
extension_groups_by_tag tag p found =
    let it = extension_good tag p found in sound_by p (extension_groups_of p.tag) it.0.shown

pub extension_groups_by_name : (name : List ℕ) (p : Page) → extension_named name ≡ Some p
    → IsTrue (groups_sound p (extension_groups_of p.tag))
extension_groups_by_name name p found =
    let it = found_in GoodExtension (λ q. bytes_eq name q.name) extensions p all_extensions found in
    sound_by p (extension_groups_of p.tag) it.0.shown
