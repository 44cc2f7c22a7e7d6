use Rattle.std.proofs.Common.{[]}
use Rattle.ts_section.specs.SectionFields.{body_of}
use Rattle.ts_json_tables.proofs.MappedLemmas.{one_more}
use Rattle.ts_json_tables.proofs.runs.payloads_of.Goals as goal

pub loop-section-preserved : goal.loop-section-preserved
loop-section-preserved c =
    one_more (λ row. row.items) body_of [] c.loop-section.payloads.items _ _ c.args.sections.now c.loop-section.section-index c.section-item.result
    c.loop-section-test.true c.section-item.is c.in_ok-push.ensures.items c.in_ok-payload.ensures.same c.loop-section.invariant
