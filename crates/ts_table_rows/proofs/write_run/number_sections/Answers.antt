use Rattle.std.proofs.Common.{◌++◌, length, ap, ◌∙◌, arith}
use Rattle.ts_section.specs.WrittenSection.{long_section}
use Rattle.ts_table_rows.specs.TablePages.{table_page}
use Rattle.ts_table_rows.specs.TableSections.{head_with, numbered}
use Rattle.ts_table_rows.proofs.NumberLemmas.{rows_in, numbers_go_on, numbers_end, number_room, head_parts, small_at, sections_made}
use Rattle.ts_table_rows.proofs.write_run.number_sections.Goals as goal

pub loop-body-init : goal.loop-body-init
loop-body-init c =
    let parts = head_parts (table_page c.args.layout.now) c.args.head c.requires.head in
    let room = number_room c.args.layout.now.keeps_numbers c.args.head.numbers (length c.args.bodies.now) parts.numbers c.requires.some c.requires.one in
    record {
      counted = omega (arith, c.from-number.ensures);
      room = omega (arith, room, c.first_and_last-first.ensures.first, c.first_and_last-first.ensures.last);
      written =
          ap (λ l. l ++ numbered (table_page c.args.layout.now) c.args.head c.first_and_last-first.result.1 c.from-number.result (rows_in c.args.bodies.now)) c.new-sections.ensures.items
          ∙ ap (λ n. numbered (table_page c.args.layout.now) c.args.head c.first_and_last-first.result.1 n (rows_in c.args.bodies.now)) c.from-number.ensures;
    }

pub one_section-requires : goal.one_section-requires
one_section-requires c =
    let parts = head_parts (table_page c.args.layout.now) c.args.head c.requires.head in
    record {
      valid_id = parts.valid_id;
      version = parts.version;
      number = omega (arith, c.loop-body.invariant.counted, c.loop-body.invariant.room);
      room = omega (arith, ap length c.deref.ensures.value, small_at c.args.bodies.now c.loop-body.body-index c.body-item.result c.requires.small c.loop-body-test.true c.body-item.is);
    }

pub loop-body-preserved : goal.loop-body-preserved
loop-body-preserved c = record {
  counted = omega (arith, c.loop-body.invariant.counted);
  room = c.loop-body.invariant.room;
  written =
      numbers_go_on (table_page c.args.layout.now) c.args.head c.first_and_last-first.result.1 c.loop-body.number c.loop-body.body-index c.loop-body.sections.items c.push.new.self.items c.in_ok-section.section c.args.bodies.now c.body-item.result _
      c.loop-body-test.true c.body-item.is c.in_ok-push.ensures.items
      (c.in_ok-section.ensures ∙ ap (long_section (head_with (table_page c.args.layout.now) c.args.head c.first_and_last-first.result.1 c.loop-body.number)) c.deref.ensures.value)
      c.loop-body.invariant.written;
}

pub returns : goal.returns
returns c =
    sections_made (table_page c.args.layout.now) c.args.head c.args.bodies.now c.first_and_last-first.result.0 c.first_and_last-first.result.1 c.loop-body.sections.items c.if-bodies-gt256.false c.first_and_last-first.ensures.first c.first_and_last-first.ensures.last
    (numbers_end (table_page c.args.layout.now) c.args.head c.first_and_last-first.result.1 c.loop-body.number c.loop-body.body-index c.loop-body.sections.items c.args.bodies.now _ c.loop-body-test.false c.loop-body.invariant.written)
