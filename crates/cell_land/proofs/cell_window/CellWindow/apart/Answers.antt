use Rattle.std.proofs.Common.{length, sym, ap, ◌∙◌}
use Rattle.cell_rows.proofs.CellLemmas.{cells_long}
use Rattle.cell_land.proofs.cell_window.CellWindow.apart.Goals as goal

pub returns-clause-long : goal.returns-clause-long
returns-clause-long c =
    let i = c.self.inside in let l = sym (cells_long i.packets.cells i.marks.cells c.self.invariant.1) ∙ ap (λ w. length w.cells) c.self.view_is in
    (l, c.self.invariant.1 ∙ l)
