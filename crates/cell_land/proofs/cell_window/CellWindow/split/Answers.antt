use Rattle.std.proofs.Common.{◌+◌, take, drop, sym, ap, ◌∙◌}
use Rattle.cell_rows.specs.Cells.{cells_of}
use Rattle.cell_rows.proofs.CellLemmas.{cells_take, cells_drop}
use Rattle.cell_land.proofs.CellLemmas.{as_piece}
use Rattle.cell_land.proofs.cell_window.CellWindow.split.Goals as goal

pub returns-clause-front : goal.returns-clause-front
returns-clause-front c =
    let a = c.apart-packets.ensures in let x = c.apart-packets.result in let p = c.split-front.ensures.front in let m = c.split-first.ensures.front in
    let w = c.args.self in let n = c.args.n in
    c.of.ensures ∙ as_piece c.split-front.result.0 c.split-first.result.0 w.land w.start (take n w.cells)
    (ap (λ w. w.land) p ∙ a.packets.0) (ap (λ w. w.land) m ∙ a.marks.0) (ap (λ w. w.start) p ∙ a.packets.1)
    ((λ k. cells_of (p k).cells (m k).cells) ∙ sym (cells_take n x.0.cells x.1.cells) ∙ ap (take n) a.cells)

pub returns-clause-back : goal.returns-clause-back
returns-clause-back c =
    let a = c.apart-packets.ensures in let x = c.apart-packets.result in let p = c.split-front.ensures.back in let m = c.split-first.ensures.back in
    let w = c.args.self in let n = c.args.n in
    c.of-2.ensures ∙ as_piece c.split-front.result.1 c.split-first.result.1 w.land (w.start + n) (drop n w.cells)
    (ap (λ w. w.land) p ∙ a.packets.0) (ap (λ w. w.land) m ∙ a.marks.0) (ap (λ w. w.start) p ∙ ap (λ s. s + n) a.packets.1)
    ((λ k. cells_of (p k).cells (m k).cells) ∙ sym (cells_drop n x.0.cells x.1.cells (a.long.1 ∙ sym a.long.0)) ∙ ap (drop n) a.cells)
