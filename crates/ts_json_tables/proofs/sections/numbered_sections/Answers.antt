use Rattle.std.proofs.Common.{◌∙◌, arith, ap, sym}
use Rattle.std.proofs.lemmas.Grind.{common_steps}
use Rattle.std.specs.Prelude.{Ok}
use Rattle.std.proofs.lemmas.List.{length-map}
use Rattle.ts_json_tables.specs.HeldTables.{long_held}
use Rattle.ts_json_tables.proofs.SectionLemmas.{long_facts, numbered_done, numbered_goes_on, numbered_whole, row_fits}
use Rattle.ts_json_tables.proofs.sections.numbered_sections.Goals as goal

pub overflow_cast-number : goal.overflow_cast-number
overflow_cast-number c =
    let facts = long_facts (long_held c.args.table.now) c.requires in
    let inside = rw c.deref-payload-items.ensures.value at c.loop-payload-test.true in
    omega (arith, facts.last, facts.counted, length-map c.args.table.now.payloads.items (λ p. p.items), c.loop-payload.invariant.same, inside, ap (λ n. n.0) c.first_and_last-first.ensures, ap (λ n. n.1) c.first_and_last-first.ensures)

pub section_with-requires-clause-valid_id : goal.section_with-requires-clause-valid_id
section_with-requires-clause-valid_id c = (long_facts (long_held c.args.table.now) c.requires).id

pub section_with-requires-clause-version : goal.section_with-requires-clause-version
section_with-requires-clause-version c = (long_facts (long_held c.args.table.now) c.requires).version

pub section_with-requires-clause-number : goal.section_with-requires-clause-number
section_with-requires-clause-number c =
    let facts = long_facts (long_held c.args.table.now) c.requires in
    let inside = rw c.deref-payload-items.ensures.value at c.loop-payload-test.true in
    omega (arith, facts.counted, length-map c.args.table.now.payloads.items (λ p. p.items), c.loop-payload.invariant.same, inside, ap (λ n. n.0) c.first_and_last-first.ensures, ap (λ n. n.1) c.first_and_last-first.ensures)

pub section_with-requires-clause-room : goal.section_with-requires-clause-room
section_with-requires-clause-room c =
    let facts = long_facts (long_held c.args.table.now) c.requires in
    rw c.deref.ensures.value (row_fits (λ p. p.items) c.args.table.now.payloads.items c.loop-payload.payload-index c.payload-item.result facts.bodies (rw c.deref-payload-items.ensures.value at c.loop-payload-test.true) (rw c.deref-payload-items.ensures.value at c.payload-item.is))

pub loop-payload-preserved : goal.loop-payload-preserved
loop-payload-preserved c = record {
  same = omega (arith, c.loop-payload.invariant.same);
  left =
      rw c.in_ok-push.ensures.items (numbered_goes_on (λ p. p.items) (long_held c.args.table.now) c.first_and_last-first.result.1 c.loop-payload.number c.loop-payload.sections.items c.in_ok-section.section c.args.table.now.payloads.items c.loop-payload.payload-index c.payload-item.result _ (rw c.deref-payload-items.ensures.value at c.loop-payload-test.true) (rw c.deref-payload-items.ensures.value at c.payload-item.is)
      (rw c.deref.ensures.value at c.in_ok-section.ensures) c.loop-payload.invariant.left);
}

pub returns : goal.returns
returns c =
    ap Ok (numbered_whole (long_held c.args.table.now) c.first_and_last-first.result c.first_and_last-first.ensures
    ∙ sym (numbered_done (λ p. p.items) (long_held c.args.table.now) c.first_and_last-first.result.1 c.loop-payload.number c.loop-payload.sections.items c.args.table.now.payloads.items c.loop-payload.payload-index _ (rw c.deref-payload-items.ensures.value at c.loop-payload-test.false) c.loop-payload.invariant.left))

pub overflow_add-number : goal.overflow_add-number
overflow_add-number c = grind (arith, common_steps)
