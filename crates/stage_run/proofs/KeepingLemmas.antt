-- What an input gives and reports, as a stage's list says.
use Rattle.std.proofs.Common.{◌≡◌, ℕ, ◌+◌, ◌^◌, ◌<◌, ◌≤◌, List, [], ◌++◌, length, refl, ap, sym, ◌∙◌, arith, append_assoc, append-nil, length-append, subst, take_at, Option, Some}
use Rattle.std.proofs.lemmas.List.{length-replicate}
use Rattle.ts_packet.specs.Packet.{null_packet}
use Rattle.ts_packet.specs.declared.cell.Cell.{Cell}
use Rattle.ts_packet.specs.Cells.{Live}
use Rattle.ts_packet.specs.Labels.{no_labels}
use Rattle.chain_model.specs.declared.input_end.InputEnd.{InputEnd}
use Rattle.chain_model.specs.declared.input_end.InputEnd.TheVariants.{End, Sync, ReadFault, TooLong}
use Rattle.chain_model.specs.Prefix.{IsPrefix}
use Rattle.chain_model.specs.Apply.{StageList, input_over, last_passed}
use Rattle.chain_model.specs.Stuffed.{null_cells, within_limit}
use Rattle.chain_model.specs.Stuffed as model
use Rattle.chain_core.specs.declared.stage_end.StageEnd.{StageEnd}
use Rattle.chain_core.specs.declared.stage_end.StageEnd.TheVariants.{Input, Last, Stop, Refuse, WriteFault, NoMemory, Followed}
use Rattle.chain_core.specs.Keeps.{IsEndOf, EndsAs, KeepsList}
use Rattle.stage_run.specs.PartLists.{PartLists}
use Rattle.stage_run.specs.InputStands.{FitsTold, stuffed_so_far}
use Rattle.stage_run.proofs.ContinuesLemmas.{Continues, EndsWith, within_limit-short, within_limit-long, within_limit-ends, within_limit-prefix}

-- more cells would come than there are positions, where this is reported
abbrev pub IsLonger : Option StageEnd → ℕ → ℕ → Type 0
IsLonger (Some (Input TooLong)) nulls rest = 0 < nulls + rest
IsLonger _ nulls rest = Unit {0}

module _ (stuffing : model.Stuffing) (rows : List (List ℕ)) (ended : Option InputEnd) (Ready : Type 0) (input : StageList) (nulls : ℕ) (lists : PartLists)
    (continues : Continues stuffing rows ended Ready input)
    (cells : lists.given ++ null_cells nulls ≡ stuffed_so_far stuffing rows ended)
    (fits : length lists.given ≤ 2 ^ 60) where
  -- the list after what was given
  all_is : input ≡ within_limit (lists.given ++ (null_cells nulls ++ continues.rest)) continues.how
  all_is =
      continues.is
      ∙ ap (λ (l : List Cell). within_limit (l ++ continues.rest) continues.how) (sym cells)
      ∙ ap (λ (l : List Cell). within_limit l continues.how) (append_assoc lists.given (null_cells nulls) continues.rest)

  gives_prefix : IsPrefix lists.given input.cells
  gives_prefix =
      subst (λ (l : StageList). IsPrefix lists.given l.cells) (sym all_is)
      (within_limit-prefix lists.given (null_cells nulls ++ continues.rest) continues.how fits)

  -- nothing is left
  ends_plainly : (how : InputEnd) → nulls ≡ 0 → continues.rest ≡ [] → continues.how ≡ how → IsEndOf input lists.given (input_over how)
  ends_plainly how no_nulls no_rest is =
      let left : null_cells nulls ++ continues.rest ≡ [] =
      ap (λ (n : ℕ). null_cells n ++ continues.rest) no_nulls ∙ no_rest in
      let whole : input ≡ record { cells = lists.given; ended = Some (input_over how) } =
      all_is
      ∙ ap (λ (l : List Cell). within_limit (lists.given ++ l) continues.how) left
      ∙ ap (λ (l : List Cell). within_limit l continues.how) (append-nil lists.given)
      ∙ ap (λ (e : InputEnd). within_limit lists.given e) is
      ∙ within_limit-short lists.given how fits in
      record { ended = ap (λ (l : StageList). l.ended) whole; whole = sym (ap (λ (l : StageList). l.cells) whole) }

  -- no position is left
  ends_too_long : length lists.given ≡ 2 ^ 60 → 0 < nulls + length continues.rest → IsEndOf input lists.given (input_over TooLong)
  ends_too_long full longer =
      let more : List Cell = null_cells nulls ++ continues.rest in
      let some : 0 < length more = omega (arith, length-append (null_cells nulls) continues.rest, length-replicate nulls (Live null_packet no_labels)) in
      let long : 2 ^ 60 < length (lists.given ++ more) = omega (arith, length-append lists.given more) in
      let whole : input ≡ record { cells = lists.given; ended = Some (input_over TooLong) } =
      all_is
      ∙ within_limit-long (lists.given ++ more) continues.how long
      ∙ ap (λ (l : List Cell). let s : StageList = record { cells = l; ended = Some (input_over TooLong) } in s) (take_at lists.given more (2 ^ 60) full) in
      record { ended = ap (λ (l : StageList). l.ended) whole; whole = sym (ap (λ (l : StageList). l.cells) whole) }

  ends_as : (plugins : ℕ) (told : Option StageEnd) → FitsTold ended nulls lists told → IsLonger told nulls (length continues.rest)
      → (end : StageEnd) → told ≡ Some end → EndsAs plugins 0 input lists.given end
  ends_as plugins told fit longer (Input (End left)) is =
      let now : (ended ≡ Some (End left)) × (nulls ≡ 0) = subst (λ (t : Option StageEnd). FitsTold ended nulls lists t) is fit in
      let found : EndsWith (Some (End left)) continues.rest continues.how = subst (λ (e : Option InputEnd). EndsWith e continues.rest continues.how) now.0 continues.ends in
      ends_plainly (End left) now.1 found.0 found.1
  ends_as plugins told fit longer (Input (Sync packet)) is =
      let now : (ended ≡ Some (Sync packet)) × (nulls ≡ 0) = subst (λ (t : Option StageEnd). FitsTold ended nulls lists t) is fit in
      let found : EndsWith (Some (Sync packet)) continues.rest continues.how = subst (λ (e : Option InputEnd). EndsWith e continues.rest continues.how) now.0 continues.ends in
      ends_plainly (Sync packet) now.1 found.0 found.1
  ends_as plugins told fit longer (Input ReadFault) is = refl
  ends_as plugins told fit longer (Input TooLong) is =
      let now = subst (λ (t : Option StageEnd). FitsTold ended nulls lists t) is fit in
      ends_too_long now.0 (subst (λ (t : Option StageEnd). IsLonger t nulls (length continues.rest)) is longer)
  ends_as plugins told fit longer Last is = absurd (subst (λ (t : Option StageEnd). FitsTold ended nulls lists t) is fit)
  ends_as plugins told fit longer Stop is = absurd (subst (λ (t : Option StageEnd). FitsTold ended nulls lists t) is fit)
  ends_as plugins told fit longer (Refuse reason) is = absurd (subst (λ (t : Option StageEnd). FitsTold ended nulls lists t) is fit)
  ends_as plugins told fit longer WriteFault is = absurd (subst (λ (t : Option StageEnd). FitsTold ended nulls lists t) is fit)
  ends_as plugins told fit longer NoMemory is = tt
  ends_as plugins told fit longer Followed is = tt

  pub keeps_list : (plugins : ℕ) (told : Option StageEnd) → FitsTold ended nulls lists told → IsLonger told nulls (length continues.rest)
      → KeepsList plugins 0 input lists.given told
  keeps_list plugins told fit longer = record {
    gives = gives_prefix;
    ends = ends_as plugins told fit longer;
    last_at_once = λ last.
        let ends = within_limit-ends (lists.given ++ (null_cells nulls ++ continues.rest)) continues.how in
        let is : input.ended ≡ Some (input_over ends.0) = ap (λ (l : StageList). l.ended) all_is ∙ ends.1 in
        let not : Some last_passed ≡ Some (input_over ends.0) = sym last.ended ∙ is in
        cc;
  }
