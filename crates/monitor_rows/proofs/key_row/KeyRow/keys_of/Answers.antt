use Rattle.std.proofs.Common.{◌++◌, ◌∷◌, [], ◌∙◌, ap, sym, subst, List, arith}
use Rattle.std.specs.List.{All}
use Rattle.std.proofs.lemmas.List.{take_all}
use Rattle.ts_packet.specs.Cells.{Live, live_packets}
use Rattle.monitor_rows.specs.RowStands.{IsRowKey, numbers_in}
use Rattle.monitor_rows.specs.declared.row_key.RowKey.{RowKey}
use Rattle.monitor_rows.proofs.Rowing.{keys_more, named_at, numbers_more}
use Rattle.monitor_rows.proofs.key_row.KeyRow.keys_of.Goals as goal

pub loop-number-preserved : goal.loop-number-preserved
loop-number-preserved c = record {
  numbers =
      ap numbers_in c.in_ok-push.ensures.items
      ∙ numbers_more c.loop-number.keys.items c.key_of.result c.args.numbers.now c.loop-number.number-index c.loop-number-test.true
      c.loop-number.invariant.numbers c.key_of.ensures.number;
  each = λ rule history packet labels has here are.
      subst (λ (ks : List RowKey). All (λ (k : RowKey). IsRowKey rule history (history ++ Live packet labels ∷ []) k.number k.key) ks)
      (sym c.in_ok-push.ensures.items)
      (let named = named_at rule (live_packets history ++ packet ∷ []) c.args.numbers.now c.loop-number.number-index are c.loop-number-test.true in
      keys_more rule history (history ++ Live packet labels ∷ []) c.loop-number.keys.items c.key_of.result _
      (c.loop-number.invariant.each rule history packet labels has here are) c.key_of.ensures.number
      (c.key_of.ensures.stands rule history packet labels has here named.0 named.1));
}

pub returns-clause-numbers : goal.returns-clause-numbers
returns-clause-numbers c =
    c.loop-number.invariant.numbers ∙ take_all c.loop-number.number-index c.args.numbers.now (omega (arith, c.loop-number-test.false))
