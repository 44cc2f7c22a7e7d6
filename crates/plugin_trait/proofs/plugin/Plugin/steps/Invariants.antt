use Rattle.std.proofs.Common.{◌≡◌, ℕ, List, ◌++◌, length, take, drop, is_some}
use Rattle.ts_packet.specs.declared.cell.Cell.{Cell}
use Rattle.chain_model.specs.Apply.{apply_after}
use Rattle.cell_rows.specs.Cells.{cells_of}
use Rattle.chain_model.specs.Joint.{agreement_of}
use Rattle.plugin_trait.proofs.Going.{behind}
use Rattle.plugin_trait.specs.Driving.{made_so_far, TellsAgreement}
use Rattle.plugin_trait.specs.declared.list_end.ListEnd.TheVariants.{Through}
use Rattle.plugin_trait.proofs.plugin.Plugin.steps.Given as goal

abbrev pub invariant-loop-i : goal.invariant-loop-i
invariant-loop-i g l = record {
  met : (history : List Cell) (mark : ℕ) → g.Self.Plugin.stands_for l.fn.self history mark → length history ≡ l.at
      → g.Self.Plugin.stands_for l.self (history ++ take l.i (cells_of l.fn.packets l.fn.marks)) mark;
  made : (history : List Cell) (mark : ℕ) → g.Self.Plugin.stands_for l.fn.self history mark → length history ≡ l.at
      → apply_after (g.Self.Plugin.rule l.fn.self) history (cells_of l.fn.packets l.fn.marks)
      ≡ behind (take l.i (cells_of l.packets l.marks)) (apply_after (g.Self.Plugin.rule l.fn.self) (history ++ take l.i (cells_of l.fn.packets l.fn.marks)) (drop l.i (cells_of l.fn.packets l.fn.marks)));
  far : (history : List Cell) (mark : ℕ) → g.Self.Plugin.stands_for l.fn.self history mark → length history ≡ l.at
      → apply_after (g.Self.Plugin.rule l.fn.self) history (take l.i (cells_of l.fn.packets l.fn.marks)) ≡ made_so_far (take l.i (cells_of l.packets l.marks)) Through;
  rest : drop l.i (cells_of l.packets l.marks) ≡ drop l.i (cells_of l.fn.packets l.fn.marks);
  same_rule : g.Self.Plugin.rule l.self ≡ g.Self.Plugin.rule l.fn.self;
  same_preallocated : g.Self.Plugin.preallocated l.self ≡ g.Self.Plugin.preallocated l.fn.self;
  same_silent : g.Self.Plugin.silent l.self ≡ g.Self.Plugin.silent l.fn.self;
  agreed : (history : List Cell) (mark : ℕ) → g.Self.Plugin.stands_for l.fn.self history mark → length history ≡ l.at
      → l.fn.noted ≡ is_some (agreement_of (g.Self.Plugin.rule l.fn.self) history)
      → TellsAgreement (g.Self.Plugin.rule l.fn.self) (history ++ take l.i (cells_of l.fn.packets l.fn.marks)) l.at l.agreed l.noted;
}
