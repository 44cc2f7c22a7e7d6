-- The list of a play: the packets at their places in its file, or those that are found again in it. This project's own rule.
use Rattle.std.specs.Prelude.{◌≡◌, ℕ, ◌*◌, ◌-◌, List, length, Bool, true, false, Option, None, Some, IfSome}
use Rattle.ts_outside.specs.Desk.{file_of}
use Rattle.packet_forms.specs.declared.forms.Form.TheVariants.{Ts}
use Rattle.packet_search.specs.Search.{search, packets_in}
use Rattle.chain_model.specs.declared.input_end.InputEnd.TheVariants.{End}
use Rattle.chain_model.specs.Apply.{StageList, OwnEnd, input_over}
use Rattle.chain_model.specs.Stuffed.{no_stuffing, stuffed}
use Rattle.chain_plays.specs.PlayList.{play_of}

-- how many bytes of a file are in no packet that is found in it
unfoldable pub left_out_of : List ℕ → ℕ
left_out_of bytes = length bytes - 188 * length (search Ts bytes).found

-- the packets that are found in a file, without labels; they end plainly, after so many bytes of the file as are left out
unfoldable pub found_play : List ℕ → StageList
found_play bytes = stuffed no_stuffing (record { packets = packets_in (search Ts bytes).found; ended = End (left_out_of bytes) })

-- the list of a play of these bytes, whose packets are found again or are at their places
abbrev pub list_of : Bool → List ℕ → StageList
list_of true bytes = found_play bytes
list_of false bytes = play_of bytes

-- a plain end is one after so many bytes that are left out
abbrev pub end_leaving : ℕ → Option OwnEnd → Option OwnEnd
end_leaving left (Some (input_over (End other))) = Some (input_over (End left))
end_leaving left ended = ended

-- the same list, with so many bytes left out
abbrev pub leaving : ℕ → StageList → StageList
leaving left list = record { cells = list.cells; ended = end_leaving left list.ended }

-- the list of a play of the file of this name. Where the files are not known it is that of some bytes: without the search
-- of some file of these bytes, and with it of bytes that are found in a file, of which any number are left out
abbrev pub IsListOf : Bool → Option (List (List ℕ × List ℕ)) → List ℕ → StageList → Type 0
IsListOf false files name list = (bytes : List ℕ) × IfSome files (λ files. bytes ≡ file_of files name) × (list ≡ play_of bytes)
IsListOf true None name list = (bytes : List ℕ) × (left : ℕ) × (list ≡ leaving left (play_of bytes))
IsListOf true (Some files) name list = list ≡ found_play (file_of files name)
