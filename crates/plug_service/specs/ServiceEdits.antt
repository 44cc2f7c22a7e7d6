-- What is made of the tables if services are kept or removed.
-- ISO/IEC 13818-1, 2.4.4.3 and 2.4.4.8, and ETSI EN 300 468, 5.2.2 to 5.2.4. The edits are this project's own rule: the entries of
-- other services, or those of the services, are removed, and the rest of the table stays.
use Rattle.std.specs.Prelude.{ℕ, ◌&&◌, ◌||◌, Bool, false, List, [], ◌∷◌, filter, nat_eq, not, Option, Some, None, if◌then◌else◌}
use Rattle.std.specs.List.{list_any}
use Rattle.ts_section.specs.SectionFields.{head_of}
use Rattle.ts_section.specs.declared.long_head.LongHead.{LongHead}
use Rattle.ts_table_rows.specs.RunReading.{read_run}
use Rattle.ts_table_rows.specs.TableValues.{ItemHolding, TableHolding}
use Rattle.ts_psi.specs.PsiPages.{pat_page, pmt_page}
use Rattle.ts_psi.specs.PatTables.{is_network, read_pat}
use Rattle.ts_table_pages.specs.SiPages.{bat_page, nit_page, sdt_page}
use Rattle.ts_eit.specs.EitSections.{is_of_service}
use Rattle.section_flow.specs.Flow.{Edit}
use Rattle.plug_psi.specs.CurrentTables.{current_in}
use Rattle.plug_psi.specs.Edits.{Change, same, away}
use Rattle.plug_psi.specs.InUse.{EditAsMet}
use Rattle.plug_psi.specs.NumbersHeld.{number_at}
use Rattle.plug_psi.specs.TableChange.{changed_current, of_id}
use Rattle.service_items.specs.ServiceItems.{edited_items}
pub use Rattle.service_items.specs.StreamTables.{is_bat, stream_of}
use Rattle.named_services.specs.ServiceLists.{is_one}
use Rattle.named_services.specs.declared.service_word.ServiceWord.{ServiceWord}
use Rattle.plug_service.specs.Present.{hides, present_after}
use Rattle.plug_service.specs.declared.kept.Kept.{Kept}
use Rattle.plug_service.specs.declared.present.Present.{Present}
use Rattle.plug_service.specs.declared.way.Way.{Way}
use Rattle.plug_service.specs.declared.way.Way.TheVariants.{Keep, Remove}

-- whether the entries with a number stay
abbrev pub stays : Way → List ℕ → ℕ → Bool
stays (Keep kept) services id = is_one services id
stays (Remove everywhere) services id = not (is_one services id)

-- an entry of a PAT stays: the network entry, and those of services that stay
abbrev pub entry_stays : Way → List ℕ → ItemHolding → Bool
entry_stays way services entry = is_network entry || stays way services (number_at entry.values 0)

-- a service of an SDT stays
abbrev pub service_stays : Way → List ℕ → ItemHolding → Bool
service_stays way services item = stays way services (number_at item.values 0)

-- a table with the items that stay
abbrev pub with_items : (ItemHolding → Bool) → TableHolding → TableHolding
with_items test table = record table { body = record table.body { items = filter test table.body.items } }

-- what is made of a PAT
abbrev pub pat_change : Way → List ℕ → List (List ℕ) → Change
pat_change way services run =
    changed_current pat_page (λ table. Some (with_items (entry_stays way services) table)) (current_in (read_pat run))

-- whether a section has the head of a current SDT of the actual transport stream
abbrev pub is_head_of_sdt : Option LongHead → Bool
is_head_of_sdt None = false
is_head_of_sdt (Some head) = nat_eq head.table_id 0x42 && head.current

-- whether a table is a current one with the table_id of the SDT of the actual transport stream, whether it reads or not
abbrev pub is_current_sdt : List (List ℕ) → Bool
is_current_sdt [] = false
is_current_sdt (section ∷ sections) = is_head_of_sdt (head_of section)

-- what is made of an SDT of the actual transport stream
abbrev pub edited_sdt : Way → List ℕ → List (List ℕ) → Change
edited_sdt way services run =
    changed_current sdt_page (of_id 0x42 (λ table. Some (with_items (service_stays way services) table)))
    (current_in (read_run sdt_page run))

-- what is made of another table on PID 17 if services are kept: BATs are carried as they are, where they are kept too
abbrev pub other_change : Kept → List (List ℕ) → Change
other_change kept run = if kept.bat && is_bat run then same else away

-- what is made of a NIT of the actual network, and of a BAT, if services are removed everywhere: they lose their items in the
-- transport stream of this number, if there is one
abbrev pub nit_change : List ℕ → Option ℕ → List (List ℕ) → Change
nit_change services stream run =
    changed_current nit_page (of_id 0x40 (edited_items services None stream)) (current_in (read_run nit_page run))

abbrev pub bat_change : List ℕ → Option ℕ → List (List ℕ) → Change
bat_change services stream run = changed_current bat_page (edited_items services None stream) (current_in (read_run bat_page run))

-- What is made of a table on PID 17. If services are kept, current SDTs of the actual transport stream are carried, and no
-- other table that is not kept beside them. If services are removed everywhere, BATs lose them too.
abbrev pub sdt_change : Way → List ℕ → Option ℕ → List (List ℕ) → Change
sdt_change (Keep kept) services stream run = if is_current_sdt run then edited_sdt (Keep kept) services run else other_change kept run
sdt_change (Remove everywhere) services stream run =
    if everywhere && is_bat run then bat_change services stream run else edited_sdt (Remove everywhere) services run

-- a change, or, where it is not known yet which services are kept, none of the tables is carried
abbrev pub known_change : Bool → Change → Change
known_change hidden change = if hidden then away else change

-- what is made of tables by what is in force
abbrev pub pat_by : Present → List (List ℕ) → Change
pat_by present run = known_change (hides present.way present.unknown) (pat_change present.way present.services run)

abbrev pub sdt_by : Present → List (List ℕ) → Change
sdt_by present run = known_change (hides present.way present.unknown) (sdt_change present.way present.services present.stream run)

abbrev pub nit_by : Present → List (List ℕ) → Change
nit_by present run = nit_change present.services present.stream run

-- the same after packets of any PID
abbrev pub pat_edit : Way → List ServiceWord → EditAsMet
pat_edit way words met = pat_by (present_after way words met)

abbrev pub sdt_edit : Way → List ServiceWord → EditAsMet
sdt_edit way words met = sdt_by (present_after way words met)

abbrev pub nit_edit : Way → List ServiceWord → EditAsMet
nit_edit way words met = nit_by (present_after way words met)

-- whether a section is an EIT section of one of the services
abbrev pub is_of_one : List ℕ → List ℕ → Bool
is_of_one services section = list_any (λ service. is_of_service service section) services

-- what becomes of a section on PID 18 if EIT sections are kept: those of the services are given as they are, and no other
abbrev pub kept_eit : List ℕ → List ℕ → Option (List ℕ)
kept_eit services section = if is_of_one services section then Some section else None

-- and if services are removed everywhere: those of the services go, and all others are given as they are
abbrev pub others_eit : List ℕ → List ℕ → Option (List ℕ)
others_eit services section = if is_of_one services section then None else Some section

-- what becomes of a section on PID 18, where EIT sections are edited
abbrev pub eit_change : Way → List ℕ → List ℕ → Option (List ℕ)
eit_change (Keep kept) services section = kept_eit services section
eit_change (Remove everywhere) services section = others_eit services section

-- the same by what is in force
abbrev pub eit_by : Present → List ℕ → Option (List ℕ)
eit_by present section = eit_change present.way present.services section

-- and after packets of any PID
abbrev pub eit_edit : Way → List ServiceWord → Edit
eit_edit way words packets = eit_by (present_after way words packets)

-- a PMT that is there is carried as it is, if it is that of one of the services, and nothing else
abbrev pub carried_if_one : List ℕ → Option TableHolding → Change
carried_if_one services None = away
carried_if_one services (Some pmt) = if is_one services pmt.head.extension then same else away

-- what is made of a table on the PID of a PMT: current PMTs of the services are carried as they are, if they read, and no
-- other table; services on one PID have their PMTs there together
abbrev pub pmt_change : List ℕ → List (List ℕ) → Change
pmt_change services run = carried_if_one services (current_in (read_run pmt_page run))

-- the same by what is in force, and after packets of any PID
abbrev pub pmt_by : Present → List (List ℕ) → Change
pmt_by present run = pmt_change present.services run

abbrev pub pmt_edit : Way → List ServiceWord → EditAsMet
pmt_edit way words met = pmt_by (present_after way words met)
