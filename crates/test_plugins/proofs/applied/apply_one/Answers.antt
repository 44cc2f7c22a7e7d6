use Rattle.std.proofs.Common.{◌+◌, ◌++◌, take, arith, length-append, length-take-le}
use Rattle.cell_rows.specs.Cells.{cells_of}
use Rattle.cell_rows.proofs.CellLemmas.{cells_long}
use Rattle.test_plugins.proofs.applied.apply_one.Goals as goal

pub steps-applied-requires-clause-met : goal.steps-applied-requires-clause-met
steps-applied-requires-clause-met g c = record { history = c.requires.met.0; mark = 0; holds = c.requires.met.1; count = c.requires.met.2 }

pub returns-then-marks-offset0-clause-met : goal.returns-then-marks-offset0-clause-met
returns-then-marks-offset0-clause-met g c =
    let h = c.requires.met.0 in let s = c.steps-applied in let cells = cells_of c.match-live.packets c.match-live.marks in (
      h ++ take s.result.count cells,
      s.ensures.met h 0 c.requires.met.1 c.requires.met.2,
      (let a = length-append h (take s.result.count cells) in let n = c.requires.met.2 in let k = s.ensures.count in
          let b = length-take-le s.result.count cells (let l = cells_long c.match-live.packets c.match-live.marks (omega arith) in omega (arith, l, k)) in omega (arith, a, b, n)),
    )

pub returns-else-marks-offset0-clause-met : goal.returns-else-marks-offset0-clause-met
returns-else-marks-offset0-clause-met g c =
    let h = c.requires.met.0 in let s = c.steps-applied in let cells = cells_of c.match-live.packets c.match-live.marks in (
      h ++ take s.result.count cells,
      s.ensures.met h 0 c.requires.met.1 c.requires.met.2,
      (let a = length-append h (take s.result.count cells) in let n = c.requires.met.2 in let k = s.ensures.count in
          let b = length-take-le s.result.count cells (let l = cells_long c.match-live.packets c.match-live.marks (omega arith) in omega (arith, l, k)) in omega (arith, a, b, n)),
    )
