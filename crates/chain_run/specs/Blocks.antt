-- The buffer of a chain in one thread. This project's own rule.
use Rattle.std.specs.Prelude.{◌≡◌, refl, List, [], length, Bool, true, false, Option, None, Some}
use Rattle.std.specs.Coded.{Coded, code_by, coded×, coded_list, coded_bool}
use Rattle.ts_packet.specs.Cells.{CellValue}
use Rattle.ts_packet.specs.contracts.cell.Cell as cell
use Rattle.cell_land.specs.Cells.{CellPiece}

-- the cells of all slots, or none while a stage has them
pub record CellSlots : Type 0 where
  pub items : List CellValue
  pub is_lent : Bool

abbrev pub slots_code : Coded CellSlots
slots_code = code_by (List CellValue × Bool) (coded× (coded_list cell.the_row.coded) coded_bool)
    (λ s. (s.items, s.is_lent)) (λ p. record { items = p.0; is_lent = p.1 }) (λ _. refl)

abbrev pub slots_of : Option CellPiece → CellSlots
slots_of None = record { items = []; is_lent = true }
slots_of (Some window) = record { items = window.cells; is_lent = false }

-- a window of all slots
abbrev pub IsWhole : CellPiece → Type 0
IsWhole window = (window.start ≡ 0) × (length window.cells ≡ window.land.count)
