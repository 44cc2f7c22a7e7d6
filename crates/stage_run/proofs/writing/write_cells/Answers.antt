use Rattle.std.proofs.Common.{◌≡◌, ℕ, ◌-◌, List, length, take, drop, sym, ap, ◌∙◌, subst, arith, inl, length-drop}
use Rattle.ts_outside.specs.Sink.{took}
use Rattle.std.proofs.lemmas.List.{take_all}
use Rattle.ts_packet.specs.declared.cell.Cell.{Cell}
use Rattle.cell_rows.specs.declared.mark.Mark.{Mark}
use Rattle.cell_rows.specs.Cells.{cells_of}
use Rattle.cell_rows.proofs.CellLemmas.{cells_long, cells_drop}
use Rattle.chain_model.specs.Written.{written}
use Rattle.stage_run.specs.Writing.{StandsAt}
use Rattle.stage_run.proofs.WritingLemmas.{taken-more, cut-behind, written-take-least}
use Rattle.stage_run.proofs.writing.write_cells.Goals as goal

-- the cells of the rest of both rows are the rest of the cells
rest_is : (ps : List (List ℕ)) (ms : List Mark) (done : ℕ) → length ms ≡ length ps
    → cells_of (take (length ps - done) (drop done ps)) (take (length ms - done) (drop done ms)) ≡ drop done (cells_of ps ms)
rest_is ps ms done long =
    (λ k. cells_of (take_all (length ps - done) (drop done ps) (omega (arith, length-drop done ps)) k) (take_all (length ms - done) (drop done ms) (omega (arith, length-drop done ms)) k))
    ∙ sym (cells_drop done ps ms long)

pub loop-done-preserved : goal.loop-done-preserved
loop-done-preserved g c =
    let ps = c.args.packets.now in let ms = c.args.marks.now in let cells : List Cell = cells_of ps ms in
    let done : ℕ = c.loop-done.done in
    let n : ℕ = c.gather-gathered.result.cells in
    let rest = rest_is ps ms done c.requires.long in
    record {
      within = let few = c.gather-gathered.ensures.within in omega (arith, few, ap length (take_all (length ps - done) (drop done ps) (omega (arith, length-drop done ps))), length-drop done ps);
      size = let l = c.gather-gathered.ensures.long in l ∙ c.loop-done.invariant.size;
      taken = taken-more (g.K.Sink.seen c.args.sink.now) (g.K.Sink.seen c.loop-done.sink) (g.K.Sink.seen c.write_whole.new.sink) cells done n _
          c.loop-done.invariant.taken c.in-Ok.ensures.whole
          (c.gather-gathered.ensures.gathered ∙ ap (λ (l : List Cell). written (take n l)) rest);
    }

pub cell_of_byte-requires-clause-some : goal.cell_of_byte-requires-clause-some
cell_of_byte-requires-clause-some g c =
    let ps = c.args.packets.now in let ms = c.args.marks.now in let done = c.loop-done.done in
    let rest : List Cell = cells_of (take (length ps - done) (drop done ps)) (take (length ms - done) (drop done ms)) in
    let short = c.in-Err.ensures.short in
    omega (arith, short, ap length c.gather-gathered.ensures.gathered, written-take-least c.gather-gathered.result.cells rest)

pub returns-in-Err-clause-writes : goal.returns-in-Err-clause-writes
returns-in-Err-clause-writes g c =
    let ps = c.args.packets.now in let ms = c.args.marks.now in let cells : List Cell = cells_of ps ms in
    let done : ℕ = c.loop-done.done in
    let n : ℕ = c.gather-gathered.result.cells in
    let rest = rest_is ps ms done c.requires.long in
    cut-behind (g.K.Sink.seen c.args.sink.now) (g.K.Sink.seen c.loop-done.sink) (g.K.Sink.seen c.write_whole.new.sink) cells done n c.in-Err.cut.taken c.cell_of_byte.result _
    c.loop-done.invariant.taken c.in-Err.ensures.front
    (c.gather-gathered.ensures.gathered ∙ ap (λ (l : List Cell). written (take n l)) rest)
    c.in-Err.ensures.short
    (let w = c.cell_of_byte.ensures.within in let e = ap length (take_all (length ps - done) (drop done ps) (omega (arith, length-drop done ps))) in
    let a = length-drop done ps in let b = length-drop done cells in let d = cells_long ps ms c.requires.long in omega (arith, w, e, a, b, d))
    (subst (λ (l : List Cell). StandsAt l c.in-Err.cut.taken c.cell_of_byte.result) rest c.cell_of_byte.ensures.stands)

pub returns-clause-writes : goal.returns-clause-writes
returns-clause-writes g c =
    let ps = c.args.packets.now in let ms = c.args.marks.now in let cells : List Cell = cells_of ps ms in let n = cells_long ps ms c.requires.long in
    let w = c.loop-done.invariant.within in let t = c.loop-done-test.false in let all : c.loop-done.done ≡ length cells = omega (arith, n, w, t) in
    inl (all, c.loop-done.invariant.taken ∙ ap (λ (l : List Cell). took (g.K.Sink.seen c.args.sink.now) (written l)) (take_all c.loop-done.done cells (omega (arith, all))))
