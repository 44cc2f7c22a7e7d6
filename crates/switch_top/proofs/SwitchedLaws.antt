-- Plays that were played to their ends are those of the switched list, and their lines are its report.
use Rattle.std.proofs.Common.{◌≡◌, ℕ, List, [], ◌∷◌, ◌++◌, length, Option, Some, refl, ap, sym, ◌∙◌, subst, append-nil, append_assoc}
use Rattle.std.specs.Prelude.{Bool, true, ◌&&◌, if◌then◌else◌}
use Rattle.std.specs.List.{flat_map, list_all}
use Rattle.ts_packet.specs.declared.cell.Cell.{Cell}
use Rattle.ts_outside.specs.Desk.{DeskView, file_of}
use Rattle.chain_model.specs.declared.input_end.InputEnd.{InputEnd}
use Rattle.chain_model.specs.declared.input_end.InputEnd.TheVariants.{End, Sync, ReadFault, TooLong}
use Rattle.chain_model.specs.Apply.{StageList, OwnEnd, input_over}
use Rattle.chain_model.specs.Each.{Each}
use Rattle.chain_plays.specs.declared.played.PlayEnd.TheVariants.{Input}
use Rattle.switch_top.specs.PlayNames.{PlayName}
use Rattle.switch_top.specs.PlayLists.{list_of, IsListOf}
use Rattle.switch_top.proofs.PlayListLemmas.{told-list}
use Rattle.switch_top.specs.Lines.{play_line, switch_end_line}
use Rattle.switch_top.specs.Switched.{PlayList, lists_of, is_plain, played, switched, end_of_list, line_of, last_of, end_of_plays, switched_report}
use Rattle.switch_top.specs.PlaysAfter.{Behind, IsAfter, names_of, cells_of, lines_of}
use Rattle.switch_top.proofs.SwitchLemmas.{flat-append}

-- the packets of plays, whether they are played or not
abbrev pub all-cells : List PlayList → List Cell
all-cells plays = flat_map (λ (p : PlayList). p.list.cells) plays

-- a play that ends plainly is played, and so are those after it
plain-on : (play : PlayList) (rest : List PlayList) (left : ℕ) → play.list.ended ≡ Some (input_over (End left)) → played (play ∷ rest) ≡ play ∷ played rest
plain-on play rest left e = subst (λ (o : Option OwnEnd). (play ∷ (if is_plain o then played rest else [])) ≡ play ∷ played rest) (sym e) refl

-- after the last one nothing is played
pub last-on : (play : PlayList) (later : List PlayList) (how : InputEnd) → play.list.ended ≡ Some (input_over how) → ((left : ℕ) → how ≡ End left → later ≡ []) → played (play ∷ later) ≡ play ∷ []
last-on play later how e none = subst (λ (o : Option OwnEnd). (play ∷ (if is_plain o then played later else [])) ≡ play ∷ []) (sym e) (by-how how none)
  where
    by-how : (how : InputEnd) → ((left : ℕ) → how ≡ End left → later ≡ []) → (play ∷ (if is_plain (Some (input_over how)) then played later else [])) ≡ play ∷ []
    by-how (End left) none = ap (λ l. play ∷ played l) (none left refl)
    by-how (Sync packet) none = refl
    by-how ReadFault none = refl
    by-how TooLong none = refl

module _ (resync : Bool) (start : DeskView) (files : List (List ℕ × List ℕ)) (told : start.files ≡ Some files) where
  pub list-told : (name : List ℕ) (list : StageList) → IsListOf resync start.files name list → list ≡ list_of resync (file_of files name)
  list-told name list is = told-list resync files name list (subst (λ (o : Option (List (List ℕ × List ℕ))). IsListOf resync o name list) told is)

  plain-file : (b : Behind) → IsAfter resync start b → (list_of resync (file_of files b.play.name)).ended ≡ Some (input_over (End b.left))
  plain-file b is = ap (λ (l : StageList). l.ended) (sym (list-told b.play.name b.list is.list_is)) ∙ is.plain

  both-true : (a b : Bool) → a ≡ true → b ≡ true → (a && b) ≡ true
  both-true a b first second = ap (λ x. x && b) first ∙ second

  -- all plays that are over end plainly
  pub behind-plain : (behind : List Behind) → Each (IsAfter resync start) behind → list_all (λ (p : PlayList). is_plain p.list.ended) (lists_of resync files (names_of behind)) ≡ true
  behind-plain [] all = refl
  behind-plain (b ∷ bs) all =
      both-true (is_plain (list_of resync (file_of files b.play.name)).ended) (list_all (λ (p : PlayList). is_plain p.list.ended) (lists_of resync files (names_of bs)))
      (ap is_plain (plain-file b all.0)) (behind-plain bs all.1)

  -- all plays that are over are played
  pub behind-on : (behind : List Behind) (rest : List PlayName) → Each (IsAfter resync start) behind → played (lists_of resync files (names_of behind ++ rest)) ≡ lists_of resync files (names_of behind) ++ played (lists_of resync files rest)
  behind-on [] rest all = refl
  behind-on (b ∷ bs) rest all =
      plain-on (record { input = b.play.input; list = list_of resync (file_of files b.play.name) }) (lists_of resync files (names_of bs ++ rest)) b.left (plain-file b all.0)
      ∙ ap (λ l. record { input = b.play.input; list = list_of resync (file_of files b.play.name) } ∷ l) (behind-on bs rest all.1)

  -- and their packets are those of their files
  pub behind-cells : (behind : List Behind) → Each (IsAfter resync start) behind → all-cells (lists_of resync files (names_of behind)) ≡ cells_of behind
  behind-cells [] all = refl
  behind-cells (b ∷ bs) all =
      ap (λ l. (list_of resync (file_of files b.play.name)).cells ++ l) (behind-cells bs all.1)
      ∙ ap (λ (l : StageList). l.cells ++ cells_of bs) (sym (list-told b.play.name b.list all.0.list_is))

  -- and so are their lines
  behind-line : (b : Behind) → IsAfter resync start b → line_of (record { input = b.play.input; list = list_of resync (file_of files b.play.name) }) ≡ play_line b.play.input (length b.list.cells) (Input (End b.left))
  behind-line b is =
      ap (λ (o : Option OwnEnd). play_line b.play.input (length (list_of resync (file_of files b.play.name)).cells) (end_of_list o)) (plain-file b is)
      ∙ ap (λ (l : StageList). play_line b.play.input (length l.cells) (Input (End b.left))) (sym (list-told b.play.name b.list is.list_is))

  pub behind-lines : (behind : List Behind) → Each (IsAfter resync start) behind → flat_map line_of (lists_of resync files (names_of behind)) ≡ lines_of behind
  behind-lines [] all = refl
  behind-lines (b ∷ bs) all =
      ap (λ l. line_of (record { input = b.play.input; list = list_of resync (file_of files b.play.name) }) ++ l) (behind-lines bs all.1)
      ∙ ap (λ l. l ++ lines_of bs) (behind-line b all.0)

  pub behind-played : (behind : List Behind) (rest : List PlayName) → Each (IsAfter resync start) behind → switched (lists_of resync files (names_of behind ++ rest)) ≡ cells_of behind ++ switched (lists_of resync files rest)
  behind-played behind rest all =
      ap all-cells (behind-on behind rest all)
      ∙ flat-append (λ (p : PlayList). p.list.cells) (lists_of resync files (names_of behind)) (played (lists_of resync files rest))
      ∙ ap (λ l. l ++ switched (lists_of resync files rest)) (behind-cells behind all)

last-append : (play : PlayList) (plays : List PlayList) (last : PlayList) → last_of play (plays ++ last ∷ []) ≡ last
last-append play [] last = refl
last-append play (next ∷ plays) last = last-append next plays last

end-append : (count : ℕ) (plays : List PlayList) (last : PlayList) → end_of_plays count (plays ++ last ∷ []) ≡ switch_end_line last.input (end_of_list last.list.ended) count
end-append count [] last = refl
end-append count (play ∷ plays) last = ap (λ (l : PlayList). switch_end_line l.input (end_of_list l.list.ended) count) (last-append play plays last)

-- the report of plays of which so many are over and one is the last
pub report-of : (behind : List PlayList) (last : PlayList) (plays : List PlayList) → played plays ≡ behind ++ last ∷ []
    → switched_report plays ≡ flat_map line_of behind ++ (line_of last ++ switch_end_line last.input (end_of_list last.list.ended) (length (switched plays)))
report-of behind last plays is =
    ap (λ l. flat_map line_of l ++ end_of_plays (length (switched plays)) l) is
    ∙ ap (λ l. l ++ end_of_plays (length (switched plays)) (behind ++ last ∷ [])) (flat-append line_of behind (last ∷ []) ∙ ap (λ l. flat_map line_of behind ++ l) (append-nil (line_of last)))
    ∙ append_assoc (flat_map line_of behind) (line_of last) (end_of_plays (length (switched plays)) (behind ++ last ∷ []))
    ∙ ap (λ l. flat_map line_of behind ++ (line_of last ++ l)) (end-append (length (switched plays)) behind last)
