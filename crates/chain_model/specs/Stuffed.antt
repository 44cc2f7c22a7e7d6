-- The list that the input hands to the chain: its packets with null packets put in, all without labels.
-- This project's own rule.
use Rattle.std.specs.Prelude.{ℕ, ◌+◌, ◌%◌, ◌==◌, nat_le, List, [], ◌∷◌, ◌++◌, length, take, replicate, if◌then◌else◌, Some}
use Rattle.ts_packet.specs.declared.cell.Cell.{Cell}
use Rattle.ts_packet.specs.Cells.{Live}
use Rattle.ts_packet.specs.Labels.{no_labels}
use Rattle.ts_packet.specs.Packet.{null_packet}
use Rattle.chain_model.specs.declared.positions.TheConstants.{POSITION_LIMIT}
use Rattle.chain_model.specs.declared.input_end.InputEnd.{InputEnd}
use Rattle.chain_model.specs.declared.input_end.InputEnd.TheVariants.{End, TooLong}
use Rattle.chain_model.specs.Apply.{StageList, input_over}
use Rattle.chain_model.specs.InputList.{InputList}

-- how many null packets come before the input's, after its end, and after each `every`-th of its packets
pub record Stuffing : Type 0 where
  pub start : ℕ
  pub stop : ℕ
  pub null : ℕ
  pub every : ℕ

-- no null packets at all
abbrev pub no_stuffing : Stuffing
no_stuffing = record { start = 0; stop = 0; null = 0; every = 1 }

abbrev pub null_cells : ℕ → List Cell
null_cells n = replicate n (Live null_packet no_labels)

-- the null packets after the `n`-th packet of the input, counted from 1
abbrev pub nulls_after : Stuffing → ℕ → List Cell
nulls_after stuffing n = if n % stuffing.every == 0 then null_cells stuffing.null else []

-- the packets of the input that follow `n` others, each with its null packets after it
abbrev pub stuffed_after : Stuffing → ℕ → List (List ℕ) → List Cell
stuffed_after stuffing n [] = []
stuffed_after stuffing n (packet ∷ packets) =
    Live packet no_labels ∷ (nulls_after stuffing (n + 1) ++ stuffed_after stuffing (n + 1) packets)

-- the null packets after the end: after a plain end alone
abbrev pub stop_nulls : Stuffing → InputEnd → List Cell
stop_nulls stuffing (End left) = null_cells stuffing.stop
stop_nulls stuffing _ = []

-- positions are below the limit: a list that would have a position there ends before it
abbrev pub within_limit : List Cell → InputEnd → StageList
within_limit cells how =
    if nat_le (length cells) POSITION_LIMIT
    then record { cells = cells; ended = Some (input_over how) }
    else record { cells = take POSITION_LIMIT cells; ended = Some (input_over TooLong) }

-- the list of the input with its stuffing
abbrev pub stuffed : Stuffing → InputList → StageList
stuffed stuffing input = within_limit
    (null_cells stuffing.start ++ (stuffed_after stuffing 0 input.packets ++ stop_nulls stuffing input.ended))
    input.ended
