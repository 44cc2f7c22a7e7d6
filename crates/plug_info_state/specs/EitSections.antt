-- The EIT sections of a service. ETSI EN 300 468, 5.1.3 and 5.2.4: EITs are on PID 18; a section with table_id 0x4E is of
-- the present and the following event of a service of the actual transport stream, one with 0x50 to 0x5F of its
-- schedule, and the service_id is its table_id_extension. That sections are counted, each as often as it comes, is this
-- project's own rule.
use Rattle.std.specs.Prelude.{ℕ, ◌==◌, Bool, ◌&&◌, List, count_by, min, nat_le}
use Rattle.ts_demux.specs.SectionsOfPid.{sections_of_pid}
use Rattle.ts_section.specs.SectionFields.{extension_of, is_long, table_id_of}
use Rattle.plug_info_texts.specs.declared.eit_numbers.EitNumbers.{EitNumbers}

-- the table_id of the present and the following event
abbrev pub is_present : ℕ → Bool
is_present table_id = table_id == 0x4E

-- the table_ids of the schedule
abbrev pub is_schedule : ℕ → Bool
is_schedule table_id = nat_le 0x50 table_id && nat_le table_id 0x5F

-- the section has the long form, a table_id of this kind, and this number of a service
abbrev pub is_of : (ℕ → Bool) → ℕ → List ℕ → Bool
is_of kind id section = is_long section && (kind (table_id_of section) && (extension_of section == id))

-- a count as it is shown: one that would pass 64 bits stands still at their end
abbrev pub up_to_end : ℕ → ℕ
up_to_end n = min n 18446744073709551615

-- how many of some sections are of each kind
abbrev pub eit_in : ℕ → List (List ℕ) → EitNumbers
eit_in id sections = record {
  present = up_to_end (count_by (is_of is_present id) sections);
  schedule = up_to_end (count_by (is_of is_schedule id) sections);
}

-- the same of a service after some packets of any PID
unfoldable pub eit_of : ℕ → List (List ℕ) → EitNumbers
eit_of id packets = eit_in id (sections_of_pid 18 packets)
