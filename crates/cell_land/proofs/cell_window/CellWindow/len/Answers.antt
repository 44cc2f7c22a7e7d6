use Rattle.std.proofs.Common.{length, sym, ap, ◌∙◌}
use Rattle.cell_rows.proofs.CellLemmas.{cells_long}
use Rattle.cell_land.proofs.cell_window.CellWindow.len.Goals as goal

pub returns : goal.returns
returns c =
    let i = c.self.inside in c.len.ensures ∙ sym (cells_long i.packets.cells i.marks.cells c.self.invariant.1) ∙ ap (λ w. length w.cells) c.self.view_is
