use Rattle.std.proofs.Common.{sym, ap, ◌∙◌, arith}
use Rattle.cell_land.specs.Cells.{CellPiece}
use Rattle.chain_run.proofs.cell_block.CellBlock.put_back.Goals as goal

pub join-requires-clause-land : goal.join-requires-clause-land
join-requires-clause-land c = let r = c.requires.in_a_row in r.land_behind ∙ sym r.land

pub join-requires-clause-beside : goal.join-requires-clause-beside
join-requires-clause-beside c = let r = c.requires.in_a_row in let a = r.third in let b = r.second in omega (arith, a, b)

pub join-all-requires-clause-land : goal.join-all-requires-clause-land
join-all-requires-clause-land c = ap (λ (p : CellPiece). p.land) c.join.ensures ∙ c.requires.in_a_row.land

pub join-all-requires-clause-beside : goal.join-all-requires-clause-beside
join-all-requires-clause-beside c =
    let r = c.requires.in_a_row in let a = ap (λ (p : CellPiece). p.start) c.join.ensures in let b = r.second in let f = r.first in omega (arith, a, b, f)
