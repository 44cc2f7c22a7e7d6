-- The edit of a CAT.
-- ISO/IEC 13818-1, 2.4.4.6 and 2.6.16: a CA_descriptor has a CA_system_id, a CA_PID and private bytes. The edit is this
-- project's own rule: CA descriptors are removed by CA system or by PID, then others are added last, without private bytes,
-- then the version is set. A descriptor that is not of the standard's grammar is no CA descriptor.
use Rattle.std.specs.Prelude.{ℕ, ◌||◌, List, [], ◌∷◌, ◌++◌, Bool, false, filter, nat_eq, not, Option, Some, None, option_map, if◌then◌else◌}
use Rattle.ts_bits.specs.TaggedBody.{TaggedBody}
use Rattle.ts_fields.specs.Layout.{number, bytes}
use Rattle.ts_pages.specs.MpegPages.{ca}
use Rattle.ts_descr.specs.Descriptors.{Typed, fields_alone, read_typed}
use Rattle.ts_descr_mpeg.specs.MpegDescrs.{mpeg_pages}
use Rattle.ts_table_rows.specs.TableValues.{TableHolding}
use Rattle.plugin_options.specs.NumberSet.{has_number}
use Rattle.plug_psi.specs.NumbersHeld.{number_at}
use Rattle.plug_edit.specs.Versions.{edited_version}
use Rattle.plug_psi.specs.WrittenDescriptor.{written}
use Rattle.plug_edit.specs.declared.cat_conf.EditCatConf.{EditCatConf}

-- a CA descriptor that has one of the systems, or one of the PIDs
abbrev pub is_listed : EditCatConf → Option Typed → Bool
is_listed conf None = false
is_listed conf (Some typed) =
    if nat_eq typed.tag ca.tag
    then has_number conf.remove_casid (number_at typed.holding.head 0) || has_number conf.remove_pid (number_at typed.holding.head 1)
    else false

-- the descriptors that are not removed
abbrev pub without_ca : EditCatConf → List TaggedBody → List TaggedBody
without_ca conf descriptors = filter (λ d. not (is_listed conf (read_typed mpeg_pages d))) descriptors

-- the CA descriptor of a CA system and a PID
abbrev pub added_ca : ℕ × ℕ → Option TaggedBody
added_ca pair = written ca (fields_alone (number pair.0 ∷ number pair.1 ∷ bytes [] ∷ []))

-- a descriptor after others; none if there is no descriptor
abbrev pub behind : List TaggedBody → Option TaggedBody → Option (List TaggedBody)
behind descriptors None = None
behind descriptors (Some d) = Some (descriptors ++ d ∷ [])

-- the CA descriptors of pairs are added last, one after another; none if one has no descriptor
unfoldable pub with_ca : Option (List TaggedBody) → List (ℕ × ℕ) → Option (List TaggedBody)
with_ca None pairs = None
with_ca (Some descriptors) [] = Some descriptors
with_ca (Some descriptors) (pair ∷ pairs) = with_ca (behind descriptors (added_ca pair)) pairs

-- a CAT with these descriptors and its version after the edit
abbrev pub cat_with : EditCatConf → TableHolding → List TaggedBody → TableHolding
cat_with conf table descriptors = record {
  head = record table.head { version = edited_version conf.new_version conf.increment_version table.head.version };
  body = record table.body { descriptors = descriptors };
}

-- a CAT after the edit; none if a descriptor would exceed 255 bytes
abbrev pub edited_cat : EditCatConf → TableHolding → Option TableHolding
edited_cat conf table =
    option_map (cat_with conf table) (with_ca (Some (without_ca conf table.body.descriptors)) conf.add_ca)
