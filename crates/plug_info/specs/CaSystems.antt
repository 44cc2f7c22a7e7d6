-- The conditional access systems that descriptors name. ISO/IEC 13818-1, 2.6.16: a CA_descriptor, tag 0x09, has a
-- CA_system_id and a CA_PID: in a PMT that of ECMs, in a CAT (2.4.4.6) that of EMMs. A descriptor that is not of the
-- standard's grammar is no CA_descriptor.
use Rattle.std.specs.Prelude.{ℕ, ◌==◌, List, [], ◌∷◌, ◌++◌, fold, nat_eq, Option, Some, None, if◌then◌else◌}
use Rattle.std.specs.List.{flat_map, list_any}
use Rattle.ts_bits.specs.TaggedBody.{TaggedBody}
use Rattle.ts_descr.specs.Descriptors.{Typed, read_typed}
use Rattle.ts_descr_mpeg.specs.MpegDescrs.{mpeg_pages}
use Rattle.ts_table_rows.specs.TableValues.{TableHolding}
use Rattle.plug_psi.specs.NumbersHeld.{number_at}
use Rattle.plug_psi.specs.CatInForce.{cat_of}
use Rattle.plug_psi.specs.InForce.{pat_of, pmt_of, services_in}
use Rattle.plug_info.specs.declared.ca_system.CaSystem.{CaSystem}

-- the system in what was read of a descriptor, if it is a CA_descriptor
abbrev pub system_in : Option Typed → List CaSystem
system_in None = []
system_in (Some typed) =
    if nat_eq typed.tag 0x09 then record { id = number_at typed.holding.head 0; pid = number_at typed.holding.head 1 } ∷ [] else []

-- the system of a descriptor, if it is a CA_descriptor
abbrev pub system_of : TaggedBody → List CaSystem
system_of descriptor = system_in (read_typed mpeg_pages descriptor)

-- the systems of descriptors, in their order
abbrev pub systems_of : List TaggedBody → List CaSystem
systems_of descriptors = flat_map system_of descriptors

-- the systems of a PMT, those of the program first
abbrev pub pmt_systems : Option TableHolding → List CaSystem
pmt_systems None = []
pmt_systems (Some pmt) = systems_of pmt.body.descriptors ++ flat_map (λ x. systems_of x.descriptors) pmt.body.items

-- the systems of the PMTs in force after some packets of any PID
abbrev pub ecm_systems : List (List ℕ) → List CaSystem
ecm_systems packets = flat_map (λ service. pmt_systems (pmt_of service.0 packets)) (services_in (pat_of packets))

-- the systems of a CAT
abbrev pub cat_systems : Option TableHolding → List CaSystem
cat_systems None = []
cat_systems (Some cat) = systems_of cat.body.descriptors

-- the systems of the CAT in force
abbrev pub emm_systems : List (List ℕ) → List CaSystem
emm_systems packets = cat_systems (cat_of packets)

-- numbers with one more, unless it is among them
abbrev pub with_id : List ℕ → ℕ → List ℕ
with_id ids id = if list_any (λ held. held == id) ids then ids else ids ++ id ∷ []

-- the CA_system_ids of systems, of equal ones the first
abbrev pub ids_of : List CaSystem → List ℕ
ids_of systems = fold (λ ids system. with_id ids system.id) [] systems

-- the CA_system_ids of descriptors, of equal ones the first
abbrev pub system_ids : List TaggedBody → List ℕ
system_ids descriptors = ids_of (systems_of descriptors)

-- the descriptors of the program in a PMT
abbrev pub program_descriptors : Option TableHolding → List TaggedBody
program_descriptors None = []
program_descriptors (Some pmt) = pmt.body.descriptors
