-- The switched list: the plays one after another, up to the first that does not end plainly, and what is reported of them.
-- This project's own rule.
use Rattle.std.specs.Prelude.{ℕ, List, [], ◌∷◌, ◌++◌, length, map, Bool, true, false, if◌then◌else◌, Option, Some}
use Rattle.std.specs.List.{flat_map}
use Rattle.ts_packet.specs.declared.cell.Cell.{Cell}
use Rattle.ts_outside.specs.Desk.{file_of}
use Rattle.chain_model.specs.declared.input_end.InputEnd.TheVariants.{End}
use Rattle.chain_model.specs.Apply.{StageList, OwnEnd, input_over}
use Rattle.chain_plays.specs.declared.played.PlayEnd.{PlayEnd}
use Rattle.chain_plays.specs.declared.played.PlayEnd.TheVariants.{Input, WriteFault}
use Rattle.switch_top.specs.PlayNames.{PlayName}
use Rattle.switch_top.specs.PlayLists.{list_of}
use Rattle.switch_top.specs.Lines.{play_line, switch_end_line}

-- a play: the number of its input, counted from 1, and the list of its file's packets
pub record PlayList : Type 0 where
  pub input : ℕ
  pub list : StageList

-- the plays of these names, over the bytes of files, in which packets are found again or are at their places
abbrev pub lists_of : Bool → List (List ℕ × List ℕ) → List PlayName → List PlayList
lists_of resync files names = map (λ (p : PlayName). record { input = p.input; list = list_of resync (file_of files p.name) }) names

-- the list ends plainly
abbrev pub is_plain : Option OwnEnd → Bool
is_plain (Some (input_over (End left))) = true
is_plain _ = false

-- those that are played: up to the first that does not end plainly, with it
abbrev pub played : List PlayList → List PlayList
played [] = []
played (play ∷ plays) = play ∷ (if is_plain play.list.ended then played plays else [])

-- their packets, joined
abbrev pub switched : List PlayList → List Cell
switched plays = flat_map (λ (play : PlayList). play.list.cells) (played plays)

-- how a list of a file's packets ends, as the end of a play; no other end is one of such a list
abbrev pub end_of_list : Option OwnEnd → PlayEnd
end_of_list (Some (input_over how)) = Input how
end_of_list _ = WriteFault

-- the line of a play that gives its whole list
abbrev pub line_of : PlayList → List ℕ
line_of play = play_line play.input (length play.list.cells) (end_of_list play.list.ended)

-- the last of some plays
abbrev pub last_of : PlayList → List PlayList → PlayList
last_of play [] = play
last_of play (next ∷ plays) = last_of next plays

-- the end line of plays: of the last one, and the number of all packets
abbrev pub end_of_plays : ℕ → List PlayList → List ℕ
end_of_plays count [] = []
end_of_plays count (play ∷ plays) = switch_end_line (last_of play plays).input (end_of_list (last_of play plays).list.ended) count

-- one line for each play that is played, and the end line
abbrev pub switched_report : List PlayList → List ℕ
switched_report plays = flat_map line_of (played plays) ++ end_of_plays (length (switched plays)) (played plays)
