-- Whether one of the services is there, so that there is something to keep or to remove.
-- This project's own rule, over the PAT and the PMTs in force (ISO/IEC 13818-1, 2.4.4.3 and 2.4.4.8).
use Rattle.std.specs.Prelude.{ℕ, ◌&&◌, Bool, List, [], ◌∷◌, ◌++◌, Option, is_some}
use Rattle.std.specs.List.{list_any}
use Rattle.ts_packet.specs.declared.cell.Cell.{Cell}
use Rattle.ts_packet.specs.Cells.{live_packets}
use Rattle.ts_table_rows.specs.TableValues.{TableHolding}
use Rattle.plug_psi.specs.InForce.{pat_of, pid_for, pmt_of}
use Rattle.named_services.specs.NamedServices.{services_after}
use Rattle.named_services.specs.declared.service_word.ServiceWord.{ServiceWord}
use Rattle.plug_service.specs.declared.way.Way.{Way}
use Rattle.plug_service.specs.declared.way.Way.TheVariants.{Keep, Remove}

-- a service is there if this PAT, and as its PMT this one, if any, are in force: the PAT has an entry of it, and if it is
-- kept, there is such a PMT
abbrev pub is_there : Way → ℕ → Option TableHolding → Option TableHolding → Bool
is_there (Keep kept) service pat pmt = is_some (pid_for pat service) && is_some pmt
is_there (Remove everywhere) service pat pmt = is_some (pid_for pat service)

-- one of the services is there if this PAT and these PMTs are in force
abbrev pub is_any_there : Way → List ℕ → Option TableHolding → (ℕ → Option TableHolding) → Bool
is_any_there way services pat pmts = list_any (λ service. is_there way service pat (pmts service)) services

-- one of them is there after these packets of any PID
abbrev pub is_there_after : Way → List ServiceWord → List (List ℕ) → Bool
is_there_after way words packets = is_any_there way (services_after words packets) (pat_of packets) (λ service. pmt_of service packets)

-- one of them is there with a packet, after these cells
abbrev pub finds_service : Way → List ServiceWord → List Cell → List ℕ → ℕ → Bool
finds_service way words history packet labels = is_there_after way words (live_packets history ++ packet ∷ [])
