-- A plugin in the middle of a list: what was made, and then what the rule makes of the rest.
use Rattle.std.proofs.Common.{◌≡◌, ℕ, ◌+◌, ◌<◌, List, [], ◌∷◌, ◌++◌, length, take, drop, get_or, set, ap, sym, subst, ◌∙◌, ◌⊎◌, inl, inr, append_assoc, append-nil, add-zero, drop-drop, arith, None, Some, ◌≤◌}
use Rattle.std.proofs.lemmas.List.{drop_all, drop_more, set-get_or, take_more, take_more_set, take-set, get_or-drop, drop-set-lt, get_or_default}
use Rattle.ts_packet.specs.Cells.{Dropped}
use Rattle.ts_packet.specs.declared.cell.Cell.{Cell}
use Rattle.plugin_trait.specs.declared.outcome.Outcome.{Outcome}
use Rattle.plugin_trait.specs.declared.outcome.Outcome.TheVariants.{Pass, Drop}
use Rattle.plugin_trait.specs.Steps.{StepTells, met_after}
use Rattle.chain_model.specs.PluginRule.{PluginRule}
use Rattle.chain_model.specs.Apply.{StageList, OwnEnd, CellOutcome, goes_on, ends_after, ends_before, last_passed, became, onto, apply_after}

-- the list that begins with what was made already
abbrev pub behind : List Cell → StageList → StageList
behind made rest = record { cells = made ++ rest.cells; ended = rest.ended }

-- a cell with which the list goes on may be counted to what was made
pub behind-goes : (made : List Cell) (left : Cell) (rest : StageList) → behind made (onto (goes_on left) rest) ≡ behind (made ++ left ∷ []) rest
behind-goes made left rest =
    ap (λ (cells : List Cell). let s : StageList = record { cells = cells; ended = rest.ended } in s) (sym (append_assoc made (left ∷ []) rest.cells))

-- the history with one more cell of the list
pub met-more : (history given : List Cell) (i : ℕ) (cell : Cell) → i < length given → get_or given i cell ≡ cell
    → history ++ take (i + 1) given ≡ (history ++ take i given) ++ cell ∷ []
met-more history given i cell within is =
    ap (λ (cells : List Cell). history ++ cells) (take_more given i cell within ∙ ap (λ (x : Cell). take i given ++ x ∷ []) is)
    ∙ sym (append_assoc history (take i given) (cell ∷ []))

-- the rule goes through the rest of the list by its first cell
pub apply_after-drop : (rule : PluginRule) (history given : List Cell) (i : ℕ) (cell : Cell) → i < length given → get_or given i cell ≡ cell
    → apply_after rule history (drop i given) ≡ onto (became rule history cell) (apply_after rule (history ++ cell ∷ []) (drop (i + 1) given))
apply_after-drop rule history given i cell within is =
    ap (apply_after rule history) (drop_more given i cell within ∙ ap (λ (x : Cell). x ∷ drop (i + 1) given) is)

module _ (rule : PluginRule) (history given made : List Cell) (i : ℕ) (cell : Cell) (all : StageList)
    (within : i < length given) (is : get_or given i cell ≡ cell)
    (half : all ≡ behind (take i made) (apply_after rule (history ++ take i given) (drop i given))) where
  -- what is known of the whole list where the outcome of its next cell is known
  pub half_known : (action : CellOutcome) → became rule (history ++ take i given) cell ≡ action
      → all ≡ behind (take i made) (onto action (apply_after rule (history ++ take (i + 1) given) (drop (i + 1) given)))
  half_known action e =
      half
      ∙ ap (behind (take i made)) (apply_after-drop rule (history ++ take i given) given i cell within is)
      ∙ ap (λ (f : CellOutcome). behind (take i made) (onto f (apply_after rule ((history ++ take i given) ++ cell ∷ []) (drop (i + 1) given)))) e
      ∙ ap (λ (h : List Cell). behind (take i made) (onto action (apply_after rule h (drop (i + 1) given)))) (sym (met-more history given i cell within is))

  -- the list goes on
  pub half_goes_on : (left : Cell) → i < length made → became rule (history ++ take i given) cell ≡ goes_on left
      → all ≡ behind (take (i + 1) (set made i left)) (apply_after rule (history ++ take (i + 1) given) (drop (i + 1) given))
  half_goes_on left room e =
      half_known (goes_on left) e
      ∙ behind-goes (take i made) left (apply_after rule (history ++ take (i + 1) given) (drop (i + 1) given))
      ∙ ap (λ (m : List Cell). behind m (apply_after rule (history ++ take (i + 1) given) (drop (i + 1) given))) (sym (take_more_set made i left room))

  -- the list ends after the cell
  pub half_ends_after : (left : Cell) → i < length made → became rule (history ++ take i given) cell ≡ ends_after left
      → (take (i + 1) (set made i left) ≡ all.cells) × (all.ended ≡ Some last_passed)
  half_ends_after left room e =
      let known = half_known (ends_after left) e in
      (take_more_set made i left room ∙ sym (ap (λ (s : StageList). s.cells) known), ap (λ (s : StageList). s.ended) known)

  -- the list ends before the cell
  pub half_ends_before : (how : OwnEnd) (left : Cell) → became rule (history ++ take i given) cell ≡ ends_before how
      → (take i (set made i left) ≡ all.cells) × (all.ended ≡ Some how)
  half_ends_before how left e =
      let known = half_known (ends_before how) e in
      (take-set made i left ∙ (sym (append-nil (take i made)) ∙ sym (ap (λ (s : StageList). s.cells) known)), ap (λ (s : StageList). s.ended) known)

-- an outcome with which the list goes on gives the cell that goes on
pub tells_goes_on : (rule : PluginRule) (history : List Cell) (cell left : Cell) (outcome : Outcome)
    → (outcome ≡ Pass) ⊎ (outcome ≡ Drop) → StepTells rule history cell outcome left → became rule history cell ≡ goes_on left
tells_goes_on rule history cell left outcome one told =
    elim one [
      | inl e ↦ (subst (λ (o : Outcome). StepTells rule history cell o left) e told).0
      | inr e ↦ (subst (λ (o : Outcome). StepTells rule history cell o left) e told).0
    ]

-- and the cell was met
pub met_goes_on : (history : List Cell) (cell : Cell) (outcome : Outcome)
    → (outcome ≡ Pass) ⊎ (outcome ≡ Drop) → met_after outcome history cell ≡ history ++ cell ∷ []
met_goes_on history cell outcome one =
    elim one [ inl e ↦ ap (λ (o : Outcome). met_after o history cell) e | inr e ↦ ap (λ (o : Outcome). met_after o history cell) e ]

-- the same element is at a place of two lists that agree from there on
pub same_at : (xs ys : List Cell) (i : ℕ) (d : Cell) → drop i xs ≡ drop i ys → get_or xs i d ≡ get_or ys i d
same_at xs ys i d same =
    ap (λ (n : ℕ). get_or xs n d) (sym (add-zero i)) ∙ (sym (get_or-drop i xs 0 d) ∙ (ap (λ (zs : List Cell). get_or zs 0 d) same ∙ (get_or-drop i ys 0 d ∙ ap (λ (n : ℕ). get_or ys n d) (add-zero i))))

-- and after that place, whatever is written there
pub same_after : (xs ys : List Cell) (i : ℕ) (left : Cell) → drop i xs ≡ drop i ys → drop (i + 1) (set xs i left) ≡ drop (i + 1) ys
same_after xs ys i left same =
    drop-set-lt (i + 1) xs i left (omega arith) ∙ (sym (drop-drop 1 i xs) ∙ (ap (drop 1) same ∙ drop-drop 1 i ys))

-- and from that place on nothing is changed where what was there is put back
pub left_as_it_was : (xs ys : List Cell) (i : ℕ) (d left : Cell) → left ≡ get_or xs i d → drop i xs ≡ drop i ys → drop i (set xs i left) ≡ drop i ys
left_as_it_was xs ys i d left back same = ap (λ (x : Cell). drop i (set xs i x)) back ∙ (ap (drop i) (set-get_or xs i d) ∙ same)

-- a list that was gone through to its end
pub half_through : (rule : PluginRule) (history given made : List Cell) (i : ℕ) (all : StageList) → length given ≤ i → length made ≡ length given → i ≤ length given
    → all ≡ behind (take i made) (apply_after rule (history ++ take i given) (drop i given))
    → (take (length made) made ≡ all.cells) × (all.ended ≡ None)
half_through rule history given made i all past same within half =
    let known = half ∙ ap (λ (rest : List Cell). behind (take i made) (apply_after rule (history ++ take i given) rest)) (drop_all i given past) in
    let whole : take (length made) made ≡ take i made = ap (λ (n : ℕ). take n made) (omega arith) in
    (whole ∙ sym (ap (λ (s : StageList). s.cells) known ∙ append-nil (take i made)), ap (λ (s : StageList). s.ended) known)

-- the cell in a slot, read in the one list, is that of the other
pub reads : (xs ys : List Cell) (i : ℕ) → i < length ys → drop i xs ≡ drop i ys → get_or ys i (get_or xs i Dropped) ≡ get_or xs i Dropped
reads xs ys i within same = get_or_default ys i (get_or xs i Dropped) Dropped within ∙ sym (same_at xs ys i Dropped same)
