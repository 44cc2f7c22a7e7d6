-- What the SDT says of the access to a service and of its state. ETSI EN 300 468, 5.2.3: after the service_id and the
-- two EIT flags an entry has the running_status and the free_CA_mode.
use Rattle.std.specs.Prelude.{ℕ, List, [], ◌∷◌, Option, None, Some, if◌then◌else◌}
use Rattle.ts_table_rows.specs.BodyReading.{first_number}
use Rattle.ts_table_rows.specs.TableValues.{ItemHolding, TableHolding}
use Rattle.plug_psi.specs.NumbersHeld.{number_at}
use Rattle.named_services.specs.SdtInForce.{is_number, items_in}

-- free_CA_mode and running_status of the first entry with this service_id
abbrev pub status_in : ℕ → List ItemHolding → Option (ℕ × ℕ)
status_in id [] = None
status_in id (x ∷ xs) =
    if is_number id (first_number x.values) then Some (number_at x.values 4, number_at x.values 3) else status_in id xs

-- those of a service in an SDT
abbrev pub service_status : Option TableHolding → ℕ → Option (ℕ × ℕ)
service_status sdt id = status_in id (items_in sdt)
