-- A source that leaves out some bytes of another one: how contracts see it, and how the two are related. This project's
-- own rule.
use Rattle.std.specs.Prelude.{ℕ, ◌≡◌, ◌-◌, ◌%◌, List, [], length, take, Option, Some}
use Rattle.std.specs.Option.{option_map}
use Rattle.ts_outside.specs.Told.{before}
use Rattle.ts_outside.specs.Source.{SourceView}
use Rattle.packet_forms.specs.declared.forms.Form.{Form}
use Rattle.packet_forms.specs.Stripped.{unit, stripped_from}

-- what contracts see of it: `first` is the other source as it was when it was taken, `now` as it is, and `at` bytes of
-- a unit came before the next one
abbrev pub form_view : Form → ℕ → SourceView → SourceView → SourceView
form_view form at first now =
    record {
      left = option_map (stripped_from form at) now.left;
      faults = now.faults;
      origin = record { unit = unit form; bytes = first.left };
    }

-- the bytes that came of all of them, where these are left; none where they are not known
abbrev pub came : Option (List ℕ) → Option (List ℕ) → List ℕ
came (Some all) (Some left) = take (length all - length left) all
came _ _ = []

-- the number of bytes of a unit that came of all of them, where these are left; where they are not known, `at`
abbrev pub place_behind : Form → ℕ → Option (List ℕ) → Option (List ℕ) → ℕ
place_behind form at (Some all) (Some left) = (length all - length left) % unit form
place_behind form at _ _ = at

-- the one source has the packets of the other: the bytes that the other had to come when it was taken are
-- those that came from it and those that are left, and the place in the unit is where these begin
pub record ReadsThrough (outer inner : SourceView) : Type 0 where
  pub form : Form
  pub at : ℕ
  pub unit_is : outer.origin.unit ≡ unit form
  pub left : outer.left ≡ option_map (stripped_from form at) inner.left
  pub faults : outer.faults ≡ inner.faults
  pub behind : outer.origin.bytes ≡ before (came outer.origin.bytes inner.left) inner.left
  pub place : at ≡ place_behind form at outer.origin.bytes inner.left
