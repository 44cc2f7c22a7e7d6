-- What was read of a file through a source that finds packets.
use Rattle.std.proofs.Common.{◌≡◌, ℕ, ◌-◌, ◌*◌, Bool, true, List, [], ◌++◌, Option, None, Some, length, take, refl, ap, sym, ◌∙◌, subst, arith}
use Rattle.std.specs.Option.{option_map}
use Rattle.ts_outside.specs.Told.{before}
use Rattle.ts_outside.specs.Source.{SourceView, Origin}
use Rattle.packet_forms.specs.declared.forms.Form.{Form}
use Rattle.packet_forms.specs.Stripped.{unit}
use Rattle.packet_forms.specs.FormView.{came}
use Rattle.packet_forms.proofs.Strips.{same-form}
use Rattle.packet_search.specs.Search.{search}
use Rattle.search_source.specs.declared.gap.Gap.{Gap}
use Rattle.search_source.specs.declared.finder.Finder.{Finder}
use Rattle.search_source.specs.Coming.{ungiven, found_in, coming_from, coming, hand_of}
use Rattle.search_source.specs.SearchView.{SearchView, FoundThrough, FoundOf}
use Rattle.search_source.proofs.Hands.{coming-new, none-begun}

-- before the first read all that is found in the file comes
pub first-coming : (finder : Finder) (form : Form) (left : Option (List ℕ)) → finder.form ≡ form → finder.due ≡ 0 → finder.tail ≡ 0 → finder.near ≡ true → finder.left ≡ 0 → finder.number ≡ 0
    → finder.noted ≡ None → hand_of finder ≡ [] → option_map (coming finder) left ≡ option_map (found_in form) left
unfolding search
first-coming finder form None f d t n l m o h = refl
first-coming finder form (Some bytes) f d t n l m o h =
    ap Some
    (sym (coming-new finder form 0 0 true 0 0 None [] bytes f d t n l m o h)
    ∙ ap (ungiven [] []) (none-begun form 0 0 true 0 0 bytes refl refl))

found-by : (form : Form) (due tail : ℕ) (near : Bool) (left_out number : ℕ) (noted : List Gap) (hand file given : List ℕ) (gaps : List Gap) (left : Option (List ℕ)) → Some file ≡ before (came (Some file) left) left
    → Some (found_in form file) ≡ option_map (ungiven given gaps) (option_map (λ rest. ungiven [] noted (coming_from form due tail near left_out number (hand ++ rest))) left)
    → FoundOf form file given gaps left
found-by form due tail near left_out number noted hand file given gaps None behind told = absurd cc
found-by form due tail near left_out number noted hand file given gaps (Some rest) behind told =
    record {
      raw = take (length file - length rest) file;
      rest = rest;
      due = due;
      tail = tail;
      near = near;
      left_out = left_out;
      number = number;
      noted = noted;
      hand = hand;
      left_is = refl;
      file_is = cc;
      found_is = cc;
    }

pub same-units : (form other : Form) → 6 * unit form ≡ 6 * unit other → form ≡ other
same-units form other e = let same : unit form ≡ unit other = omega arith in same-form form other same

pub found-of : (form : Form) (file given : List ℕ) (gaps : List Gap) (old new : SearchView) (inner : SourceView) → old.coming ≡ Some (found_in form file)
    → old.origin ≡ record { unit = 6 * unit form; bytes = Some file } → old.coming ≡ option_map (ungiven given gaps) new.coming → old.origin ≡ new.origin → FoundThrough new inner
    → FoundOf form file given gaps inner.left
found-of form file given gaps old new inner found origin moved same through =
    let units : 6 * unit form ≡ 6 * unit through.form = sym (ap (λ (o : Origin). o.unit) origin) ∙ ap (λ (o : Origin). o.unit) same ∙ through.unit_is in
    let told : new.origin.bytes ≡ Some file = sym (ap (λ (o : Origin). o.bytes) same) ∙ ap (λ (o : Origin). o.bytes) origin in
    let form_is : through.form ≡ form = sym (same-units form through.form units) in
    found-by form through.due through.tail through.near through.left through.number through.noted through.hand file given gaps inner.left
    (subst (λ (all : Option (List ℕ)). all ≡ before (came all inner.left) inner.left) told through.behind)
    (subst (λ (f : Form). Some (found_in form file) ≡ option_map (ungiven given gaps) (option_map (λ rest. ungiven [] through.noted (coming_from f through.due through.tail through.near through.left through.number (through.hand ++ rest))) inner.left)) form_is
    (sym found ∙ moved ∙ ap (option_map (ungiven given gaps)) through.coming))
