use Rattle.std.proofs.Common.{◌≡◌, ◌≤◌, ℕ, List, length}
use Rattle.ts_packet.specs.declared.cell.Cell.{Cell}
use Rattle.plug_every.specs.EveryStands.{NotesDue}
use Rattle.plug_every.proofs.GivenDue.{IsGiven}
use Rattle.plug_every.proofs.giving.give_more.Given as goal

abbrev pub invariant-loop-next : goal.invariant-loop-next
invariant-loop-next g l = record {
  given : (n : ℕ) (history : List Cell) (mark : ℕ) → NotesDue (g.P.Plugin.stands_for l.fn.plugin) n l.fn.due.items history mark
      → mark ≤ l.written → l.written ≤ length history
      → IsGiven (g.P.Plugin.rule l.fn.plugin) (g.P.Plugin.stands_for l.plugin) n l.counts l.due.items history mark l.written l.fn.lines.items l.lines.items;
  same_rule : g.P.Plugin.rule l.plugin ≡ g.P.Plugin.rule l.fn.plugin;
}

abbrev pub decreases-loop-next : goal.decreases-loop-next
decreases-loop-next g l = length l.due.items
