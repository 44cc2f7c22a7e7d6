-- Worked rows, computed on the definitions.
use Rattle.std.proofs.Common.{◌≡◌, ℕ, List, [], ◌∷◌, ◌++◌, replicate, refl}
use Rattle.std.specs.Prelude.{codes}
use Rattle.std.specs.Fmt.{digits}
use Rattle.ts_packet.specs.declared.cell.Cell.{Cell}
use Rattle.ts_packet.specs.Cells.{Live}
use Rattle.ts_packet.specs.Labels.{no_labels}
use Rattle.chain_model.specs.declared.input_end.InputEnd.TheVariants.{End, ReadFault}
use Rattle.chain_plays.specs.declared.played.PlayEnd.TheVariants.{Input}
use Rattle.switch_top.specs.Lines.{play_line, switch_end_line}
use Rattle.chain_plays.specs.PlayList.{play_of}
use Rattle.switch_top.specs.Switched.{switched, PlayList, switched_report}

abbrev packet : ℕ → List ℕ
packet n = 71 ∷ replicate 187 n

abbrev of_file : ℕ → List ℕ → PlayList
of_file input bytes = record { input = input; list = play_of bytes }

-- packets as a file's list has them
abbrev live_cells : List (List ℕ) → List Cell
live_cells [] = []
live_cells (row ∷ rows) = Live row no_labels ∷ live_cells rows

abbrev line : List ℕ → List ℕ
line text = text ++ 10 ∷ []

-- two files, the whole row twice
twice-cells : switched (of_file 1 (packet 1 ++ packet 2) ∷ of_file 2 (packet 3) ∷ of_file 1 (packet 1 ++ packet 2) ∷ of_file 2 (packet 3) ∷ []) ≡ live_cells (packet 1 ∷ packet 2 ∷ packet 3 ∷ packet 1 ∷ packet 2 ∷ packet 3 ∷ [])
twice-cells = refl

twice-report : switched_report (of_file 1 (packet 1 ++ packet 2) ∷ of_file 2 (packet 3) ∷ of_file 1 (packet 1 ++ packet 2) ∷ of_file 2 (packet 3) ∷ [])
    ≡ line (codes "input 1: 2 packets") ++ (line (codes "input 2: 1 packets") ++ (line (codes "input 1: 2 packets") ++ (line (codes "input 2: 1 packets") ++ line (codes "end: input after 6 packets"))))
unfolding digits
twice-report = refl

-- byte 188 of the first file is 0x46: what comes after it is not played
lost-cells : switched (of_file 1 (packet 1 ++ 70 ∷ replicate 187 2) ∷ of_file 2 (packet 3) ∷ []) ≡ live_cells (packet 1 ∷ [])
lost-cells = refl

lost-report : switched_report (of_file 1 (packet 1 ++ 70 ∷ replicate 187 2) ∷ of_file 2 (packet 3) ∷ [])
    ≡ line (codes "input 1: 1 packets") ++ line (codes "end: lost sync at packet 1 of input 1 after 1 packets")
unfolding digits
lost-report = refl

-- bytes are left after the last packet
left-report : switched_report (of_file 1 (packet 1 ++ 71 ∷ 1 ∷ 2 ∷ []) ∷ of_file 2 [] ∷ [])
    ≡ line (codes "input 1: 1 packets, 3 bytes left out") ++ (line (codes "input 2: 0 packets") ++ line (codes "end: input after 1 packets"))
unfolding digits
left-report = refl

-- the second file could not be opened
refused-report : play_line 1 2 (Input (End 0)) ++ (play_line 2 0 (Input ReadFault) ++ switch_end_line 2 (Input ReadFault) 2)
    ≡ line (codes "input 1: 2 packets") ++ (line (codes "input 2: 0 packets") ++ line (codes "end: read fault in input 2 after 2 packets"))
unfolding digits
refused-report = refl
