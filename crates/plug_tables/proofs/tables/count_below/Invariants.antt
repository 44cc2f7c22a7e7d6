use Rattle.std.proofs.Common.{◌≡◌, ◌≤◌, ◌+◌, ◌-◌, drop, length, nat_lt}
use Rattle.std.specs.List.{take_while}
use Rattle.plugin_trait.specs.declared.line.Line.{Line}
use Rattle.plug_tables.proofs.tables.count_below.Given as goal

abbrev pub invariant-loop-line : goal.invariant-loop-line
invariant-loop-line l = record {
  within : l.count ≤ length l.told.items;
  counted : l.count + length (take_while (λ (x : Line). nat_lt x.at l.mark) (drop l.count l.told.items)) ≡ length (take_while (λ (x : Line). nat_lt x.at l.mark) l.told.items);
}

abbrev pub decreases-loop-line : goal.decreases-loop-line
decreases-loop-line l = length l.told.items - l.count
