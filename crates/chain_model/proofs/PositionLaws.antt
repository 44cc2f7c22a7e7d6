-- What a rule that never ends its list makes of one, position by position.
use Rattle.std.proofs.Common.{◌≡◌, ℕ, zero, suc, ◌<◌, List, [], ◌∷◌, ◌++◌, length, take, get_or, None, refl, ap, sym, ◌∙◌, arith, append_assoc, append-nil}
use Rattle.ts_packet.specs.declared.cell.Cell.{Cell}
use Rattle.ts_packet.specs.Cells.{Live, Dropped}
use Rattle.chain_model.specs.PluginRule.{PluginRule, RuleOutcome, passes, drops, lasts, stops, refuses}
use Rattle.chain_model.specs.Apply.{StageList, CellOutcome, goes_on, outcome_of_live, became, onto, apply_after, apply}
use Rattle.chain_model.specs.NeverEnds.{GoesOn, NeverEnds}

-- the list goes on with a cell
abbrev GoesOnWith : CellOutcome → Type 0
GoesOnWith action = (cell : Cell) × (action ≡ goes_on cell)

live-goes_on : (outcome : RuleOutcome) (labels : ℕ) → GoesOn outcome → GoesOnWith (outcome_of_live outcome labels)
live-goes_on (passes packet) labels h = (Live packet labels, refl)
live-goes_on drops labels h = (Dropped, refl)
live-goes_on (lasts packet) labels h = absurd h
live-goes_on stops labels h = absurd h
live-goes_on (refuses reason) labels h = absurd h

cell-goes_on : (rule : PluginRule) → NeverEnds rule → (history : List Cell) (cell : Cell) → GoesOnWith (became rule history cell)
cell-goes_on rule h history (Live packet labels) = live-goes_on (rule.outcome_of history packet labels) (rule.labels_of history packet labels) (h.goes_on history packet labels)
cell-goes_on rule h history Dropped = (Dropped, refl)

-- the cell that is given for one, and with it the list of any cells after that one
record Given (rule : PluginRule) (history : List Cell) (x : Cell) : Type 0 where
  cell : Cell
  is : became rule history x ≡ goes_on cell
  whole : (xs : List Cell) → apply_after rule history (x ∷ xs) ≡ onto (goes_on cell) (apply_after rule (history ++ x ∷ []) xs)

given : (rule : PluginRule) → NeverEnds rule → (history : List Cell) (x : Cell) → Given rule history x
given rule h history x =
    let made = cell-goes_on rule h history x in
    record { cell = made.0; is = made.1; whole = λ xs. ap (λ (action : CellOutcome). onto action (apply_after rule (history ++ x ∷ []) xs)) made.1 }

after-ended : (rule : PluginRule) → NeverEnds rule → (history xs : List Cell) → (apply_after rule history xs).ended ≡ None
after-ended rule h history [] = refl
after-ended rule h history (x ∷ xs) =
    ap (λ (list : StageList). list.ended) ((given rule h history x).whole xs) ∙ after-ended rule h (history ++ x ∷ []) xs

pub position-ended : (rule : PluginRule) (cells : List Cell) → NeverEnds rule → (apply rule cells).ended ≡ None
position-ended rule cells h = after-ended rule h [] cells

after-count : (rule : PluginRule) → NeverEnds rule → (history xs : List Cell) → length (apply_after rule history xs).cells ≡ length xs
after-count rule h history [] = refl
after-count rule h history (x ∷ xs) =
    let e : length (apply_after rule (history ++ x ∷ []) xs).cells ≡ length xs = after-count rule h (history ++ x ∷ []) xs in
    ap (λ (list : StageList). length list.cells) ((given rule h history x).whole xs) ∙ ap suc e

pub position-count : (rule : PluginRule) (cells : List Cell) → NeverEnds rule → length (apply rule cells).cells ≡ length cells
position-count rule cells h = after-count rule h [] cells

after-behind : (rule : PluginRule) → NeverEnds rule → (history xs ys : List Cell) → (apply_after rule history (xs ++ ys)).cells ≡ (apply_after rule history xs).cells ++ (apply_after rule (history ++ xs) ys).cells
after-behind rule h history [] ys = ap (λ (w : List Cell). (apply_after rule w ys).cells) (sym (append-nil history))
after-behind rule h history (x ∷ xs) ys =
    let g = given rule h history x in
    ap (λ (list : StageList). list.cells) (g.whole (xs ++ ys))
    ∙ (ap (λ (made : List Cell). g.cell ∷ made) (after-behind rule h (history ++ x ∷ []) xs ys)
    ∙ (ap (λ (made : List Cell). made ++ (apply_after rule ((history ++ x ∷ []) ++ xs) ys).cells) (sym (ap (λ (list : StageList). list.cells) (g.whole xs)))
    ∙ ap (λ (w : List Cell). (apply_after rule history (x ∷ xs)).cells ++ (apply_after rule w ys).cells) (append_assoc history (x ∷ []) xs)))

pub position-behind : (rule : PluginRule) (first second : List Cell) → NeverEnds rule → (apply rule (first ++ second)).cells ≡ (apply rule first).cells ++ (apply_after rule first second).cells
position-behind rule first second h = after-behind rule h [] first second

after-cell : (rule : PluginRule) → NeverEnds rule → (history xs : List Cell) (p : ℕ) (default : Cell) → p < length xs → became rule (history ++ take p xs) (get_or xs p default) ≡ goes_on (get_or (apply_after rule history xs).cells p default)
after-cell rule h history [] p default lt = absurd (omega arith)
after-cell rule h history (x ∷ xs) zero default lt =
    let g = given rule h history x in
    ap (λ (w : List Cell). became rule w x) (append-nil history)
    ∙ (g.is ∙ ap (λ (list : StageList). goes_on (get_or list.cells 0 default)) (sym (g.whole xs)))
after-cell rule h history (x ∷ xs) (suc p) default lt =
    let g = given rule h history x in
    ap (λ (w : List Cell). became rule w (get_or xs p default)) (sym (append_assoc history (x ∷ []) (take p xs)))
    ∙ (after-cell rule h (history ++ x ∷ []) xs p default (omega arith)
    ∙ ap (λ (list : StageList). goes_on (get_or list.cells (suc p) default)) (sym (g.whole xs)))

pub position-cell : (rule : PluginRule) (cells : List Cell) (p : ℕ) (default : Cell) → NeverEnds rule → p < length cells → became rule (take p cells) (get_or cells p default) ≡ goes_on (get_or (apply rule cells).cells p default)
position-cell rule cells p default h lt = after-cell rule h [] cells p default lt
