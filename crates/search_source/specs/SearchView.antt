-- A source of the packets that are found in another one: how contracts see it, and how the two are related. This
-- project's own rule.
use Rattle.std.specs.Prelude.{ℕ, ◌≡◌, ◌+◌, ◌^◌, ◌≤◌, Bool, if◌then◌else◌, List, ◌++◌, length, Option, None, Some, IfSome, [], option_to_list}
use Rattle.std.specs.Option.{option_map}
use Rattle.ts_outside.specs.Told.{before}
use Rattle.ts_outside.specs.Count.{raised}
use Rattle.ts_outside.specs.Source.{Origin, SourceView, unread, read_failed}
use Rattle.packet_forms.specs.declared.forms.Form.{Form}
use Rattle.packet_forms.specs.FormView.{came}
use Rattle.packet_search.specs.Rule.{deciding_bytes}
use Rattle.search_source.specs.Gaps.{counted}
use Rattle.search_source.specs.declared.gap.Gap.{Gap}
use Rattle.search_source.specs.declared.finder.Finder.{Finder}
use Rattle.search_source.specs.Coming.{Coming, ungiven, found_in, coming, coming_from, hand_of}

-- what contracts see of it: what comes of the other source's bytes, known or not, the count of its faults, and where its
-- bytes are from
pub record SearchView : Type 0 where
  pub coming : Option Coming
  pub faults : ℕ
  pub origin : Origin

-- what is seen of it as of any source
abbrev pub plain : SearchView → SourceView
plain view = record { left = option_map (λ (c : Coming). c.bytes) view.coming; faults = view.faults; origin = view.origin }

-- as it was before these bytes were given, and these gaps taken
abbrev pub unsearched : List ℕ → List Gap → SearchView → SearchView
unsearched bytes gaps view = record { coming = option_map (ungiven bytes gaps) view.coming; faults = view.faults; origin = view.origin }

-- after a call that failed
abbrev pub search_failed : SearchView → SearchView
search_failed view = record { coming = view.coming; faults = raised view.faults; origin = view.origin }

-- `first` is the other source as it was when it was taken, `now` as it is; the length that tells its form is that of six
-- units, by which no source of units at their places is named
abbrev pub search_view : Finder → SourceView → SourceView → SearchView
search_view finder first now =
    record {
      coming = option_map (coming finder) now.left;
      faults = now.faults;
      origin = record { unit = deciding_bytes finder.form; bytes = first.left };
    }

-- nothing comes any more, and what is left out behind the last packet is what the finder says; where it is known
abbrev pub IsAtEnd : Finder → Option Coming → Type 0
IsAtEnd finder coming = IfSome coming (λ c. c ≡ record { bytes = []; gaps = option_to_list finder.noted; packets = counted finder.number; behind = counted finder.left })

-- after so many reads so many bytes are left at most, where they are known
abbrev pub IsWithin : Option (List ℕ) → ℕ → Bool → Type 0
IsWithin None reads ended = Unit {0}
IsWithin (Some left) reads ended = reads + length left ≤ 2 ^ 63 + (if ended then 1 else 0)

-- all but what is in hand is as before
pub record SameBut (old new : Finder) : Type 0 where
  pub form : new.form ≡ old.form
  pub due : new.due ≡ old.due
  pub tail : new.tail ≡ old.tail
  pub near : new.near ≡ old.near
  pub left : new.left ≡ old.left
  pub number : new.number ≡ old.number
  pub noted : new.noted ≡ old.noted

-- so many more bytes are in hand, and they were read from the source; where there are none, it has none left
pub record TakesIn (first now : SourceView) (old new : Finder) (count : ℕ) : Type 0 where
  pub bytes : List ℕ
  pub length_is : length bytes ≡ count
  pub hand : hand_of new ≡ hand_of old ++ bytes
  pub same : SameBut old new
  pub source : first ≡ unread bytes now
  pub at_end : count ≡ 0 → IfSome first.left (λ left. left ≡ [])

-- the read failed, and the bytes in hand are as before
pub record FailsToTake (first now : SourceView) (old new : Finder) : Type 0 where
  pub hand : hand_of new ≡ hand_of old
  pub same : SameBut old new
  pub source : now ≡ read_failed first

-- the one source has the packets that are found in the other: the bytes that the other had to come when it was taken are
-- those that came from it and those that are left, and what still comes is what comes of some in hand and those
pub record FoundThrough (outer : SearchView) (inner : SourceView) : Type 0 where
  pub form : Form
  pub due : ℕ
  pub tail : ℕ
  pub near : Bool
  pub left : ℕ
  pub number : ℕ
  pub noted : List Gap
  pub hand : List ℕ
  pub unit_is : outer.origin.unit ≡ deciding_bytes form
  pub coming : outer.coming ≡ option_map (λ rest. ungiven [] noted (coming_from form due tail near left number (hand ++ rest))) inner.left
  pub faults : outer.faults ≡ inner.faults
  pub behind : outer.origin.bytes ≡ before (came outer.origin.bytes inner.left) inner.left

-- what was read of a file of which these bytes of packets were given, these gaps taken, and so much is left: its first
-- bytes. What was given and taken is the first part of all that comes of the file; the rest comes of what is left of it,
-- behind bytes that were read and not decided yet
pub record FoundOf (form : Form) (file given : List ℕ) (gaps : List Gap) (left : Option (List ℕ)) : Type 0 where
  pub raw : List ℕ
  pub rest : List ℕ
  pub due : ℕ
  pub tail : ℕ
  pub near : Bool
  pub left_out : ℕ
  pub number : ℕ
  pub noted : List Gap
  pub hand : List ℕ
  pub left_is : left ≡ Some rest
  pub file_is : file ≡ raw ++ rest
  pub found_is : found_in form file ≡ ungiven given gaps (ungiven [] noted (coming_from form due tail near left_out number (hand ++ rest)))
