use Rattle.std.proofs.Common.{◌≤◌, length, ap, sym, ◌∙◌, arith}
use Rattle.std.proofs.lemmas.List.{take_all}
use Rattle.monitor_rows.specs.RowStands.{numbers_in}
use Rattle.monitor_rows.proofs.Rowing.{agree_more}
use Rattle.monitor_rows.proofs.key_row.KeyRow.has_numbers.Goals as goal

pub loop-i-preserved : goal.loop-i-preserved
loop-i-preserved c =
    agree_more c.args.self.now.keys.items c.args.numbers.now c.loop-i.i c.index.result.now (omega arith) c.loop-i-test.true c.index.ensures
    (omega (arith, c.if-kept-number.false)) c.loop-i.invariant

pub returns : goal.returns
returns c = λ yes.
    let all_keys : length c.args.self.now.keys.items ≤ c.loop-i.i = omega arith in
    let all : length c.args.numbers.now ≤ c.loop-i.i = omega arith in
    sym (ap numbers_in (take_all c.loop-i.i c.args.self.now.keys.items all_keys)) ∙ (c.loop-i.invariant ∙ take_all c.loop-i.i c.args.numbers.now all)
