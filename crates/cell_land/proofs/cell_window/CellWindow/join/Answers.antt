use Rattle.std.proofs.Common.{◌++◌, sym, ap, ◌∙◌}
use Rattle.cell_rows.specs.Cells.{cells_of}
use Rattle.cell_rows.proofs.CellLemmas.{cells_append}
use Rattle.cell_land.proofs.CellLemmas.{as_piece}
use Rattle.cell_land.proofs.cell_window.CellWindow.join.Goals as goal

pub returns : goal.returns
returns c =
    let a = c.apart-packets.ensures in let b = c.apart-more.ensures in let p = c.join.ensures in let m = c.join-2.ensures in
    let x = c.apart-packets.result in let y = c.apart-more.result in
    let long = a.long.1 ∙ sym a.long.0 in
    c.of.ensures ∙ as_piece c.join.result c.join-2.result c.args.self.land c.args.self.start (c.args.self.cells ++ c.args.other.cells)
    (ap (λ w. w.land) p ∙ a.packets.0) (ap (λ w. w.land) m ∙ a.marks.0) (ap (λ w. w.start) p ∙ a.packets.1)
    ((λ k. cells_of (p k).cells (m k).cells) ∙ cells_append x.0.cells y.0.cells x.1.cells y.1.cells long ∙ (λ k. a.cells k ++ b.cells k))
