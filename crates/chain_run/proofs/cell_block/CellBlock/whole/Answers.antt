use Rattle.std.proofs.Common.{sym, ap, subst, ◌∙◌}
use Rattle.std.specs.Option.{IfSome}
use Rattle.chain_run.specs.Blocks.{CellSlots, IsWhole, slots_of}
use Rattle.chain_run.proofs.cell_block.CellBlock.whole.Goals as goal

pub returns-clause-whole : goal.returns-clause-whole
returns-clause-whole c = subst (λ o. IfSome o IsWhole) c.in-Some.is c.self.invariant

pub returns-clause-cells : goal.returns-clause-cells
returns-clause-cells c = ap (λ (s : CellSlots). s.items) (ap slots_of (sym c.in-Some.is) ∙ c.self.view_is)
