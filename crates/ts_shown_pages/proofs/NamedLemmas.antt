-- The first page with a name, among the pages of a row of tags.
use Rattle.std.proofs.Common.{◌≡◌, ◌<◌, ◌+◌, ◌≤◌, ◌∷◌, ℕ, suc, List, Bool, true, false, refl, sym, drop, length, get_or, drop-cons, add-one}
use Rattle.std.proofs.lemmas.List.{at_drop_all}
use Rattle.std.specs.Prelude.{Option, Some, None, bytes_eq, map}
use Rattle.std.specs.List.{filter_map, find}
use Rattle.ts_fields.specs.Bodies.{Page}
use Rattle.ts_shown_pages.specs.Extensions.{extensions, extension_of, extension_named}
use Rattle.ts_shown_pages.specs.Pages.{pages, page_of, page_named, second_quarter, third_quarter, last_quarter}

-- the first page with the name among those that these tags have by some list
unfoldable pub first_named : (ℕ → Option Page) → List ℕ → List ℕ → Option Page
first_named of name tags = find (λ p. bytes_eq name p.name) (filter_map of tags)

none_at : (f : ℕ → Option Page) (test : Page → Bool) (tag : ℕ) (more : List ℕ) → f tag ≡ None
    → find test (filter_map f more) ≡ find test (filter_map f (tag ∷ more))
none_at f test tag more none = rw none refl

other_at : (f : ℕ → Option Page) (test : Page → Bool) (tag : ℕ) (more : List ℕ) (p : Page) → f tag ≡ Some p
    → test p ≡ false → find test (filter_map f more) ≡ find test (filter_map f (tag ∷ more))
other_at f test tag more p some not = rw (some, not) refl

meant_at : (f : ℕ → Option Page) (test : Page → Bool) (tag : ℕ) (more : List ℕ) (p : Page) → f tag ≡ Some p
    → test p ≡ true → Some p ≡ find test (filter_map f (tag ∷ more))
meant_at f test tag more p some so = rw (some, so) refl

-- a tag without a page is passed over
pub without_page : (of : ℕ → Option Page) (name tags : List ℕ) (i : ℕ) → i < length tags → None ≡ of (get_or tags i 0)
    → first_named of name (drop (i + 1) tags) ≡ first_named of name (drop i tags)
unfolding first_named
without_page of name tags i within none =
    rw (add-one, drop-cons tags i 0)
    (none_at of (λ p. bytes_eq name p.name) (get_or tags i 0) (drop (suc i) tags) (sym none))

-- so is a page of another name
pub other_page : (of : ℕ → Option Page) (name tags : List ℕ) (i : ℕ) (p : Page) → i < length tags → Some p ≡ of (get_or tags i 0)
    → bytes_eq name p.name ≡ false → first_named of name (drop (i + 1) tags) ≡ first_named of name (drop i tags)
unfolding first_named
other_page of name tags i p within some not =
    rw (add-one, drop-cons tags i 0)
    (other_at of (λ p. bytes_eq name p.name) (get_or tags i 0) (drop (suc i) tags) p (sym some) not)

-- the page of the name is the one to be found
pub meant_page : (of : ℕ → Option Page) (name tags : List ℕ) (i : ℕ) (p : Page) → i < length tags → Some p ≡ of (get_or tags i 0)
    → bytes_eq name p.name ≡ true → Some p ≡ first_named of name (drop i tags)
unfolding first_named
meant_page of name tags i p within some so =
    rw (drop-cons tags i 0)
    (meant_at of (λ p. bytes_eq name p.name) (get_or tags i 0) (drop (suc i) tags) p (sym some) so)

-- where no tag is left, no page has the name
pub none_left : (of : ℕ → Option Page) (name tags : List ℕ) (i : ℕ) → length tags ≤ i → None ≡ first_named of name (drop i tags)
unfolding first_named
none_left of name tags i past = sym (at_drop_all (first_named of name) tags i past)

-- among the tags of all pages it is the page of the name
pub all_named : (name : List ℕ) → first_named page_of name (map (λ p. p.tag) pages) ≡ page_named name
unfolding first_named second_quarter third_quarter last_quarter
all_named name = refl

pub all_extensions : (name : List ℕ) → first_named extension_of name (map (λ p. p.tag) extensions) ≡ extension_named name
unfolding first_named extensions
all_extensions name = refl
