use Rattle.std.proofs.Common.{ap, ◌∙◌}
use Rattle.cell_rows.specs.Cells.{cells_of}
use Rattle.cell_rows.proofs.CellLemmas.{cells_none}
use Rattle.cell_land.proofs.cell_window.cell_land.Goals as goal

pub returns-in-Ok : goal.returns-in-Ok
returns-in-Ok c =
    let p = c.in_ok-packets.ensures in let m = c.in-Ok.ensures in let e = c.of.ensures in (
      ap (λ w. w.start) e ∙ p.0,
      ap (λ w. w.cells) e ∙ (λ k. cells_of (p.1 k) (m.1 k)) ∙ cells_none c.args.n c.null.result c.dropped.result c.dropped.ensures.live,
      ap (λ w. w.land.count) e ∙ p.2,
    )
