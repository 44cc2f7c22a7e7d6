use Rattle.std.proofs.Common.{◌≡◌, ◌-◌, ◌≤◌}
use Rattle.plug_eit.specs.TextCut.{end_from}
use Rattle.plug_eit.proofs.text_cut.end_from.Given as goal

abbrev pub invariant-loop : goal.invariant-loop
invariant-loop l = record {
  within : l.at ≤ l.fn.room;
  same : end_from (l.fn.room - l.counter) l.fn.text l.fn.room l.at ≡ end_from l.fn.room l.fn.text l.fn.room l.fn.first;
}
