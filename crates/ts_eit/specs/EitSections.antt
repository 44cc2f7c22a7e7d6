-- The EIT sections of a service of this transport stream.
-- ETSI EN 300 468, 5.2.4: table_id 0x4E is an EIT of the present and the following events of this transport stream, 0x50 to 0x5F
-- of its schedule, and the table_id_extension is the service_id.
use Rattle.std.specs.Prelude.{ℕ, ◌||◌, ◌&&◌, List, nat_eq, nat_le, Bool}
use Rattle.ts_section.specs.SectionFields.{extension_of, is_long, table_id_of}

-- a table_id of the EITs of this transport stream
abbrev pub is_eit_id : ℕ → Bool
is_eit_id id = nat_eq id 0x4E || (nat_le 0x50 id && nat_le id 0x5F)

-- an EIT section of a service
abbrev pub is_of_service : ℕ → List ℕ → Bool
is_of_service service s = is_long s && (is_eit_id (table_id_of s) && nat_eq (extension_of s) service)
