-- The names of the network and of bouquets. ETSI EN 300 468, 6.2.27 and 6.2.4: a network_name_descriptor, tag 0x40, among a
-- NIT's own descriptors, and a bouquet_name_descriptor, tag 0x47, among a BAT's, have the name as their whole body. That
-- the first one counts, and that bouquets are in the order of their numbers, is this project's own rule.
use Rattle.std.specs.Prelude.{ℕ, List, [], ◌∷◌, ◌++◌, Option, None, Some, codes}
use Rattle.std.specs.List.{flat_map}
use Rattle.ts_table_rows.specs.TableValues.{TableHolding}
use Rattle.plugin_notes.specs.PidPackets.{numbers_below}
use Rattle.plug_info_texts.specs.InfoJson.{array}
use Rattle.plug_info_texts.specs.NamedTexts
use Rattle.plug_info_texts.specs.NamedTexts.{named_json, named_text}
use Rattle.plug_info_state.specs.BatsInForce.{bat_of}
use Rattle.plug_info_state.specs.NitInForce.{nit_of}
use Rattle.named_services.specs.SdtInForce.{body_with}

-- the line of a network or a bouquet, with this word and the name under this tag
abbrev pub named_line : List ℕ → ℕ → TableHolding → List ℕ
named_line word tag table = named_text word table.head.extension (body_with tag table.body.descriptors)

-- the line of the network of a NIT
abbrev pub network_lines : Option TableHolding → List (List ℕ)
network_lines None = []
network_lines (Some nit) = named_line (codes "network") 0x40 nit ∷ []

-- the line of the bouquet of a BAT
abbrev pub bouquet_lines : Option TableHolding → List (List ℕ)
bouquet_lines None = []
bouquet_lines (Some bat) = named_line (codes "bouquet") 0x47 bat ∷ []

-- the lines of all bouquets after some packets of any PID: a bouquet_id has 16 bits
abbrev pub bouquets_of : List (List ℕ) → List (List ℕ)
bouquets_of packets = flat_map (λ id. bouquet_lines (bat_of id packets)) (numbers_below 65536)

-- the lines of the network and of the bouquets
abbrev pub name_lines : List (List ℕ) → List (List ℕ)
name_lines packets = network_lines (nit_of packets) ++ bouquets_of packets

-- the object of a network or a bouquet, with the name under this tag
abbrev pub named_object : ℕ → TableHolding → List ℕ
named_object tag table = named_json table.head.extension (body_with tag table.body.descriptors)

-- the object of the network of a NIT, or `null`
abbrev pub network_json : Option TableHolding → List ℕ
network_json None = codes "null"
network_json (Some nit) = named_object 0x40 nit

-- the object of the bouquet of a BAT
abbrev pub bouquet_objects : Option TableHolding → List (List ℕ)
bouquet_objects None = []
bouquet_objects (Some bat) = named_object 0x47 bat ∷ []

-- the objects of all bouquets after some packets of any PID
abbrev pub objects_of : List (List ℕ) → List (List ℕ)
objects_of packets = flat_map (λ id. bouquet_objects (bat_of id packets)) (numbers_below 65536)

-- the keys of the network and of the bouquets
abbrev pub names_json : List (List ℕ) → List ℕ
names_json packets = NamedTexts.names_json (network_json (nit_of packets)) (array (objects_of packets))
