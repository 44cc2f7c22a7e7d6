-- How a list of cells is written, and where a failing write cuts it. This project's own rule.
use Rattle.std.specs.Prelude.{◌≡◌, ◌⊎◌, ◌<◌, ℕ, List, ◌++◌, length, take, drop, true}
use Rattle.std.specs.List.{All}
use Rattle.cell_rows.specs.declared.mark.Mark.{Mark}
use Rattle.ts_packet.specs.declared.cell.Cell.{Cell}
use Rattle.ts_outside.specs.Sink.{SinkView, took}
use Rattle.chain_model.specs.Written.{written, IsPartOfFirst}
use Rattle.stage_run.specs.declared.output_part.OutputPart.{OutputPart}
use Rattle.stage_run.specs.declared.output_part.OutputPart.TheVariants.{Stream, Discard}
use Rattle.stage_run.specs.OutputStands.{failed_after}

-- the first bytes that cells write, so many of them, are those of all cells before a place and a part of the packet there
pub record StandsAt (cells : List Cell) (bytes place : ℕ) : Type 0 where
  pub part : List ℕ
  pub taken : take bytes (written cells) ≡ written (take place cells) ++ part
  pub cut : IsPartOfFirst (drop place cells) part

-- the sink took what the cells before a place write, and a call failed in the packet there
pub record CutsAt (old new : SinkView) (cells : List Cell) (place : ℕ) : Type 0 where
  pub part : List ℕ
  pub taken : new ≡ failed_after old (take place cells) part
  pub cut : IsPartOfFirst (drop place cells) part

-- the sink took what all cells write, or a write failed in the packet of the cell at the place
abbrev pub WritesCells : SinkView → SinkView → List Cell → ℕ → Type 0
WritesCells old new cells place =
    ((place ≡ length cells) × (new ≡ took old (written cells)))
    ⊎ ((place < length cells) × CutsAt old new cells place)

-- no plugin dropped the packet
abbrev pub IsLiveMark : Mark → Type 0
IsLiveMark mark = mark.is_live ≡ true

-- none of these packets was dropped
abbrev pub AreLive : List Mark → Type 0
AreLive marks = All IsLiveMark marks

-- an output wrote cells; what goes nowhere is always written
abbrev pub PartWrites : {K : Type 0} → (K → SinkView) → OutputPart K → OutputPart K → List Cell → ℕ → Type 0
PartWrites seen (Stream old) (Stream new) cells place = WritesCells (seen old) (seen new) cells place
PartWrites seen Discard Discard cells place = place ≡ length cells
PartWrites seen _ _ cells place = ⊥
