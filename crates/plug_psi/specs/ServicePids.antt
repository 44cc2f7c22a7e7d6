-- The PIDs of a service, as its PMT names them.
-- ISO/IEC 13818-1, 2.4.4.8 and 2.6.16: a PMT has the PCR_PID, 8191 where there is no PCR, and the PID of each component;
-- a CA_descriptor, tag 0x09, of the program or of a component has the CA_PID. A descriptor that is not of the standard's
-- grammar is no CA_descriptor. That these PIDs together are those of the service is this project's own rule.
use Rattle.std.specs.Prelude.{ℕ, ◌==◌, Bool, List, [], ◌∷◌, ◌++◌, nat_eq, Option, Some, None, if◌then◌else◌}
use Rattle.std.specs.List.{flat_map, list_any}
use Rattle.ts_bits.specs.TaggedBody.{TaggedBody}
use Rattle.ts_packet.specs.declared.numbers.TheConstants.{NULL_PID}
use Rattle.ts_descr.specs.Descriptors.{Typed, read_typed}
use Rattle.ts_descr_mpeg.specs.MpegDescrs.{mpeg_pages}
use Rattle.ts_table_rows.specs.TableValues.{ItemHolding, TableHolding}
use Rattle.plug_psi.specs.NumbersHeld.{component_pid, number_at}

-- the CA_PID in what was read of a descriptor, if it is a CA_descriptor
abbrev pub ca_pid_in : Option Typed → List ℕ
ca_pid_in None = []
ca_pid_in (Some typed) = if nat_eq typed.tag 0x09 then number_at typed.holding.head 1 ∷ [] else []

-- the CA_PID of a descriptor, if it is a CA_descriptor
abbrev pub ca_pid_of : TaggedBody → List ℕ
ca_pid_of descriptor = ca_pid_in (read_typed mpeg_pages descriptor)

-- the CA_PIDs of descriptors
abbrev pub ca_pids : List TaggedBody → List ℕ
ca_pids descriptors = flat_map ca_pid_of descriptors

-- the PCR_PID, if there is a PCR
abbrev pub pcr_pids : ℕ → List ℕ
pcr_pids pid = if nat_eq pid NULL_PID then [] else pid ∷ []

-- the PID of a component, and the CA_PIDs of its descriptors
abbrev pub component_pids : ItemHolding → List ℕ
component_pids component = component_pid component ∷ ca_pids component.descriptors

-- the PIDs of a PMT
abbrev pub pids_in : TableHolding → List ℕ
pids_in pmt =
    pcr_pids (number_at pmt.body.values 0)
    ++ (ca_pids pmt.body.descriptors ++ flat_map component_pids pmt.body.items)

-- the PIDs of a PMT, if there is one
abbrev pub pids_of : Option TableHolding → List ℕ
pids_of None = []
pids_of (Some pmt) = pids_in pmt

-- whether a PID is in a list of PIDs
abbrev pub has_pid : List ℕ → ℕ → Bool
has_pid pids pid = list_any (λ p. p == pid) pids
