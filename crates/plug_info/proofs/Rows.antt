-- Worked rows of the names of networks and bouquets, computed on the definitions.
use Rattle.std.proofs.Common.{◌≡◌, ℕ, List, [], ◌∷◌, codes, true, refl, None, Some}
use Rattle.ts_bits.specs.TaggedBody.{TaggedBody}
use Rattle.ts_table_rows.specs.TableValues.{TableHolding}
use Rattle.plug_info_texts.specs.NamedTexts.{named_json, named_text}
use Rattle.plug_info_state.specs.NitInForce.{of_actual_network}
use Rattle.plug_info.specs.NetworkNames.{bouquet_lines, bouquet_objects, network_json, network_lines}

-- a table with descriptors of its own
abbrev table : ℕ → ℕ → List TaggedBody → TableHolding
table table_id id ds = record {
  head = record { table_id = table_id; extension = id; version = 0; current = true; numbers = None };
  body = record { values = []; descriptors = ds; items = [] };
}

abbrev named : ℕ → List ℕ → TaggedBody
named tag name = record { tag = tag; body = name }

-- of two names the first counts, and a descriptor with another tag is none
network-row : network_lines (Some (table 0x40 3 (named 0x47 (codes "no") ∷ named 0x40 (codes "Net") ∷ named 0x40 (codes "late") ∷ [])))
    ≡ named_text (codes "network") 3 (Some (codes "Net")) ∷ []
network-row = refl

-- a bouquet without a name, and no table
bouquet-row : bouquet_lines (Some (table 0x4A 700 [])) ≡ named_text (codes "bouquet") 700 None ∷ []
bouquet-row = refl

none-row : network_lines None ≡ []
none-row = refl

-- the NIT of another network is not in force
other-row : of_actual_network (Some (table 0x41 3 [])) ≡ None
other-row = refl

-- their objects
bouquet-json : bouquet_objects (Some (table 0x4A 700 (named 0x47 (codes "Film") ∷ []))) ≡ named_json 700 (Some (codes "Film")) ∷ []
bouquet-json = refl

network-none : network_json None ≡ codes "null"
network-none = refl
