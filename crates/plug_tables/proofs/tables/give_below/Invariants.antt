use Rattle.std.proofs.Common.{◌≤◌, ◌+◌, length, nat_lt}
use Rattle.std.specs.List.{take_while}
use Rattle.std.specs.Prelude.{vec_capacity, vec_len}
use Rattle.plugin_trait.specs.declared.line.Line.{Line}
use Rattle.plug_tables.proofs.ToldLemmas.{Moved}
use Rattle.plug_tables.proofs.tables.give_below.Given as goal

abbrev pub invariant-loop-line : goal.invariant-loop-line
invariant-loop-line l = record {
  moved : Moved l.mark l.fn.told.items l.fn.lines.items l.told.items l.lines.items;
  room : vec_len l.lines + length (take_while (λ (x : Line). nat_lt x.at l.mark) l.told.items) ≤ vec_capacity l.lines;
}

abbrev pub decreases-loop-line : goal.decreases-loop-line
decreases-loop-line l = length l.told.items
