use Rattle.std.proofs.Common.{◌≤◌, List, ℕ, length, take, sym, ap, ◌∙◌, subst, arith}
use Rattle.std.proofs.lemmas.List.{take_all}
use Rattle.ts_packet.specs.declared.cell.Cell.{Cell}
use Rattle.cell_rows.specs.Cells.{cells_of}
use Rattle.cell_rows.proofs.CellLemmas.{cells_take}
use Rattle.cell_land.proofs.CellLemmas.{as_piece}
use Rattle.ts_land.specs.Pieces.{Piece}
use Rattle.stage_run.specs.Writing.{AreLive, WritesCells}
use Rattle.stage_run.proofs.writing.write_first.Goals as goal

pub returns-then-all_live-clause-writes : goal.returns-then-all_live-clause-writes
returns-then-all_live-clause-writes g c =
    let a = c.apart-packets.ensures in let x = c.apart-packets.result in let w = c.write_window-done in let v = c.args.window in
    let seen = g.K.Sink.seen in let all : length v.cells ≤ c.args.len = (let n = ap (λ (l : List (List ℕ)). length l) c.as_slice-rows.ensures in let m = a.long.0 in omega (arith, n, m)) in
    subst (λ (l : List Cell). WritesCells (seen c.args.sink.now) (seen w.new.sink) l w.result.0) (a.cells ∙ sym (take_all c.args.len v.cells all))
    (w.ensures.writes x.1.cells (a.long.1 ∙ sym a.long.0) (subst AreLive c.as_slice-row_marks.ensures (c.all_live.ensures c.if-all_live.true)))

pub returns-then-all_live-clause-same : goal.returns-then-all_live-clause-same
returns-then-all_live-clause-same g c =
    let a = c.apart-packets.ensures in let x = c.apart-packets.result in let w = c.write_window-done in let v = c.args.window in let s = w.ensures.same in
    c.of.ensures ∙ as_piece w.result.1 x.1 v.land v.start v.cells (ap (λ (p : Piece (List ℕ)). p.land) s ∙ a.packets.0) a.marks.0 (ap (λ (p : Piece (List ℕ)). p.start) s ∙ a.packets.1)
    (ap (λ (p : Piece (List ℕ)). cells_of p.cells x.1.cells) s ∙ a.cells)

pub returns-then-all_live-clause-within : goal.returns-then-all_live-clause-within
returns-then-all_live-clause-within g c =
    let a = c.apart-packets.ensures in let w = c.write_window-done.ensures.within in
    let n = ap (λ (l : List (List ℕ)). length l) c.as_slice-rows.ensures in omega (arith, n, w)

pub returns-clause-writes : goal.returns-clause-writes
returns-clause-writes g c =
    let a = c.apart-packets.ensures in let x = c.apart-packets.result in let w = c.write_cells-done in let seen = g.K.Sink.seen in let len = c.args.len in
    subst (λ (l : List Cell). WritesCells (seen c.args.sink.now) (seen w.new.sink) l w.result)
    ((λ k. cells_of (take len (c.as_slice-rows.ensures k)) (take len (c.as_slice-row_marks.ensures k))) ∙ sym (cells_take len x.0.cells x.1.cells) ∙ ap (take len) a.cells)
    w.ensures.writes

pub returns-clause-same : goal.returns-clause-same
returns-clause-same g c =
    let a = c.apart-packets.ensures in let x = c.apart-packets.result in let v = c.args.window in
    c.of-2.ensures ∙ as_piece x.0 x.1 v.land v.start v.cells a.packets.0 a.marks.0 a.packets.1 a.cells
