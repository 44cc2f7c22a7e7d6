-- The edit of a NIT.
-- ETSI EN 300 468, 5.2.1 and 6.2.27: a network has descriptors, of which the network_name_descriptor has its name, and
-- transport streams. The edit is this project's own rule: streams are removed, then network_id, the name and the version
-- are set. A new network_name_descriptor replaces the first one, or is added last.
use Rattle.std.specs.Prelude.{ℕ, Bool, false, List, [], ◌∷◌, filter, nat_eq, not, Option, Some, None, option_map, unwrap_or}
use Rattle.ts_bits.specs.TaggedBody.{TaggedBody}
use Rattle.ts_fields.specs.Layout.{bytes}
use Rattle.ts_fields.specs.Texts.{text_bytes}
use Rattle.ts_pages.specs.DvbPages.{network_name}
use Rattle.ts_descr.specs.Descriptors.{Typed, fields_alone, read_typed}
use Rattle.ts_descr_dvb.specs.DvbDescrs.{dvb_pages}
use Rattle.ts_table_rows.specs.TableValues.{ItemHolding, TableHolding}
use Rattle.plugin_options.specs.NumberSet.{has_number}
use Rattle.plug_edit.specs.Changing.{changed_first}
use Rattle.plug_psi.specs.NumbersHeld.{number_at}
use Rattle.plug_edit.specs.Versions.{edited_version}
use Rattle.plug_psi.specs.WrittenDescriptor.{written}
use Rattle.plug_edit.specs.declared.nit_conf.EditNitConf.{EditNitConf}

-- streams without those that are listed
abbrev pub without_streams : List (ℕ × ℕ) → List ItemHolding → List ItemHolding
without_streams listed streams = filter (λ stream. not (has_number listed (number_at stream.values 0))) streams

-- a descriptor is a network_name_descriptor
abbrev pub is_name : Option Typed → Bool
is_name None = false
is_name (Some typed) = nat_eq typed.tag network_name.tag

-- the bytes of a descriptor read as a network_name_descriptor
abbrev pub is_name_descriptor : TaggedBody → Bool
is_name_descriptor d = is_name (read_typed dvb_pages d)

-- the network_name_descriptor of a text
abbrev pub name_descriptor : List ℕ → Option TaggedBody
name_descriptor text = written network_name (fields_alone (bytes (text_bytes text) ∷ []))

-- the descriptors with one that replaces the first network_name_descriptor, or comes last
abbrev pub with_name : List TaggedBody → TaggedBody → List TaggedBody
with_name descriptors name = changed_first is_name_descriptor (λ _. name) name descriptors

-- the descriptors with the name, if one is given; none if its descriptor would exceed 255 bytes
abbrev pub named : Option (List ℕ) → List TaggedBody → Option (List TaggedBody)
named None descriptors = Some descriptors
named (Some text) descriptors = option_map (with_name descriptors) (name_descriptor text)

-- a NIT with these descriptors after the edit
abbrev pub nit_with : EditNitConf → TableHolding → List TaggedBody → TableHolding
nit_with conf table descriptors = record {
  head = record table.head {
    extension = unwrap_or conf.network_id table.head.extension;
    version = edited_version conf.new_version conf.increment_version table.head.version;
  };
  body = record {
    values = table.body.values;
    descriptors = descriptors;
    items = without_streams conf.remove_ts table.body.items;
  };
}

-- a NIT after the edit; none if a descriptor would exceed 255 bytes
abbrev pub edited_nit : EditNitConf → TableHolding → Option TableHolding
edited_nit conf table = option_map (nit_with conf table) (named conf.network_name table.body.descriptors)
