use Rattle.std.proofs.Common.{◌≡◌, ◌+◌, ◌<◌, ℕ, List, [], ◌∷◌, ◌++◌, length, take, set, get_or, sym, ap, ◌∙◌, subst, arith, refl, zero, suc}
use Rattle.std.proofs.lemmas.List.{take_more, take_more_set, set-get_or}
use Rattle.ts_packet.specs.declared.cell.Cell.{Cell}
use Rattle.ts_packet.specs.Cells.{Live}
use Rattle.ts_packet.specs.Labels.{no_labels}
use Rattle.cell_rows.specs.Cells.{cells_of}
use Rattle.cell_rows.proofs.CellLemmas.{cells_long, cells_set}
use Rattle.stage_run.specs.Feeds.{live_cells}
use Rattle.stage_run.proofs.StreamLemmas.{live_cells-push}
use Rattle.stage_run.proofs.input_stage.mark_live.Goals as goal

pub loop-slot-preserved : goal.loop-slot-preserved
loop-slot-preserved c = λ packets long.
    let i = c.loop-slot.slot in let ms = c.loop-slot.marks in let m = c.live.result in let p = get_or packets i [] in
    let ml : length ms ≡ length packets = (let a = c.loop-slot.auto.marks in omega (arith, a, long)) in
    let inside : i < length packets = (let t = c.loop-slot-test.true in let r = c.requires in omega (arith, t, r, long)) in
    let cells = cells_of packets ms in
    let as_set : cells_of packets (set ms i m) ≡ set cells i (Live p no_labels) =
    ap (λ (l : List (List ℕ)). cells_of l (set ms i m)) (sym (set-get_or packets i [])) ∙ cells_set packets ms i p m ml ∙ ap (set cells i) (c.live.ensures.cell p) in
    ap (take (i + 1)) as_set ∙ take_more_set cells i (Live p no_labels) (let n = cells_long packets ms ml in omega (arith, n, inside))
    ∙ ap (λ (l : List Cell). l ++ Live p no_labels ∷ []) (c.loop-slot.invariant packets long)
    ∙ sym (live_cells-push (take i packets) p)
    ∙ ap live_cells (sym (take_more packets i p inside ∙ ap (λ (x : List ℕ). take i packets ++ x ∷ []) (get_same packets i)))
  where
    get_same : (l : List (List ℕ)) (i : ℕ) → get_or l i (get_or l i []) ≡ get_or l i []
    get_same [] i = refl
    get_same (x ∷ xs) zero = refl
    get_same (x ∷ xs) (suc i) = get_same xs i

pub returns-clause-live : goal.returns-clause-live
returns-clause-live c = λ packets long.
    let all : c.loop-slot.slot ≡ c.args.count = omega arith in
    subst (λ (n : ℕ). take n (cells_of packets c.loop-slot.marks) ≡ live_cells (take n packets)) all (c.loop-slot.invariant packets long)
