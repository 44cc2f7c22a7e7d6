-- The descriptors that `pmt` takes out of a PMT and puts in.
-- ISO/IEC 13818-1, 2.4.4.8: a program has descriptors, and so has each component. 2.6.18: an ISO_639_language_descriptor
-- has items of four bytes, a code of three and an audio_type. What is changed, and in which order, is this project's own
-- rule.
use Rattle.std.specs.Prelude.{ℕ, ◌==◌, ◌%◌, ◌&&◌, List, [], ◌∷◌, ◌++◌, Bool, drop, filter, find, fold, length, map, nat_eq, not, option_map, Option, Some, None, Result, Ok, Err, if◌then◌else◌}
use Rattle.std.specs.List.{list_any}
use Rattle.ts_bits.specs.DescriptorLoop.{descriptors_of}
use Rattle.ts_bits.specs.TaggedBody.{TaggedBody}
use Rattle.ts_pages.specs.MpegPages.{language}
use Rattle.ts_table_rows.specs.TableValues.{ItemHolding}
use Rattle.plugin_options.specs.NumberSet.{has_number}
use Rattle.plug_psi.specs.NumbersHeld.{component_pid}
use Rattle.plug_edit.specs.CatEdit.{with_ca}
use Rattle.plug_edit.specs.Changing.{changed_first, changed_one}
use Rattle.plug_edit.specs.declared.pmt_changes.PmtChanges.{PmtChanges}

-- descriptors without those that have one of the tags
abbrev pub without_tags : List (ℕ × ℕ) → List TaggedBody → List TaggedBody
without_tags tags descriptors = filter (λ d. not (has_number tags d.tag)) descriptors

-- the descriptors that were read; none where one passes the end
abbrev pub descriptors_read : Result (List TaggedBody) ℕ → List TaggedBody
descriptors_read (Ok descriptors) = descriptors
descriptors_read (Err offset) = []

-- descriptors, and behind them those of a row of bytes
abbrev pub with_more : List ℕ → List TaggedBody → List TaggedBody
with_more bytes descriptors = descriptors ++ descriptors_read (descriptors_of bytes)

-- ---- the program

-- the descriptors of the program: some are left out, CA descriptors come last, then others; none if a CA descriptor would
-- exceed 255 bytes
abbrev pub changed_program : PmtChanges → List TaggedBody → Option (List TaggedBody)
changed_program changes descriptors =
    option_map (with_more changes.add_descriptor)
    (with_ca (Some (without_tags changes.remove_descriptor descriptors)) changes.add_ca)

-- ---- the components

-- a pair has this PID and this tag
abbrev pub is_named : ℕ → ℕ → ℕ × ℕ → Bool
is_named pid tag pair = nat_eq pair.0 pid && nat_eq pair.1 tag

-- the descriptors of a component on a PID, without those whose tags are paired with it
abbrev pub without_named : List (ℕ × ℕ) → ℕ → List TaggedBody → List TaggedBody
without_named pairs pid descriptors = filter (λ d. not (list_any (is_named pid d.tag) pairs)) descriptors

-- a component without these descriptors
abbrev pub component_without : List (ℕ × ℕ) → ItemHolding → ItemHolding
component_without pairs component = record component {
  descriptors = without_named pairs (component_pid component) component.descriptors;
}

-- an ISO_639_language_descriptor: its tag, and whole items
abbrev pub is_language : TaggedBody → Bool
is_language d = nat_eq d.tag language.tag && (length d.body % 4 == 0)

-- what stands behind the first code of a body; an audio_type of 0 where it has none
abbrev pub behind_code : List ℕ → List ℕ
behind_code body = if length body == 0 then 0 ∷ [] else drop 3 body

-- the descriptor with another first code
abbrev pub language_with : List ℕ → List ℕ → TaggedBody
language_with code body = record { tag = language.tag; body = code ++ behind_code body }

-- the body of a descriptor; none where there is none
abbrev pub body_of : Option TaggedBody → List ℕ
body_of None = []
body_of (Some d) = d.body

-- descriptors with one in place of the first ISO_639_language_descriptor, or last where there is none
abbrev pub with_language : List TaggedBody → TaggedBody → List TaggedBody
with_language descriptors changed = changed_first is_language (λ _. changed) changed descriptors

-- the first ISO_639_language_descriptor gets the code in its first item, or a new one with the code comes last
abbrev pub spoken : List ℕ → List TaggedBody → List TaggedBody
spoken code descriptors =
    with_language descriptors (language_with code (body_of (find is_language descriptors)))

-- a component whose descriptors are changed
abbrev pub described_as : (List TaggedBody → List TaggedBody) → ItemHolding → ItemHolding
described_as change component = record component { descriptors = change component.descriptors }

-- the first component on a PID with its descriptors changed; where none is on it, all stay
abbrev pub first_on : ℕ → (List TaggedBody → List TaggedBody) → List ItemHolding → List ItemHolding
first_on pid change components =
    changed_one (λ component. nat_eq (component_pid component) pid) (described_as change) components

-- the first component on a PID gets a language
abbrev pub with_code : List ItemHolding → ℕ × List ℕ → List ItemHolding
with_code components given = first_on given.0 (spoken given.1) components

-- the first component on a PID gets descriptors, which come last
abbrev pub with_descriptors : List ItemHolding → ℕ × List ℕ → List ItemHolding
with_descriptors components given = first_on given.0 (with_more given.1) components

-- the components: descriptors are left out, then languages are set, then descriptors come last
abbrev pub changed_components : PmtChanges → List ItemHolding → List ItemHolding
changed_components changes components =
    fold with_descriptors
    (fold with_code (map (component_without changes.remove_pid_descriptor) components) changes.language)
    changes.add_pid_descriptor
