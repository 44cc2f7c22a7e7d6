use Rattle.std.proofs.Common.{◌++◌, ◌+◌, drop, map, ap, ◌∙◌, arith}
use Rattle.ts_fields.specs.Layout.{row, held}
use Rattle.ts_fields.specs.Spelling.{spell_rows}
use Rattle.ts_fields.proofs.ReadLemmas.{sound_more}
use Rattle.ts_fields.proofs.WriteLemmas.{spelled_more, spelled_done, held_at}
use Rattle.ts_fields.proofs.writer.write_rows.Goals as goal

pub loop-field-preserved : goal.loop-field-preserved
loop-field-preserved c =
    let found = held_at c.value_at.result c.args.values.now c.loop-field.next c.value_at.ensures in
    let step = spelled_more c.args.out.now c.loop-field.out c.field.new.self c.args.rows.now c.loop-field.field-index _ (map held c.args.values.now) c.loop-field.next _ c.loop-field-test.true found c.loop-field.invariant.written c.in_ok-field.ensures in
    record {
      sound = sound_more c.args.rows.now c.loop-field.field-index c.loop-field-test.true c.loop-field.invariant.sound;
      few = omega (arith, c.holds-next.ensures.few);
      written = ap (λ n. c.field.new.self ++ spell_rows (map row (drop (c.loop-field.field-index + 1) c.args.rows.now)) (drop (c.loop-field.next + n) (map held c.args.values.now))) c.holds-next.ensures.value ∙ step;
    }

pub returns : goal.returns
returns c = spelled_done c.args.out.now c.loop-field.out c.args.rows.now c.loop-field.field-index (map held c.args.values.now) c.loop-field.next c.loop-field-test.false c.loop-field.invariant.written
