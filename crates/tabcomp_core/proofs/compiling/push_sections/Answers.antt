use Rattle.tabcomp_core.proofs.JoinLemmas.{section_more}
use Rattle.tabcomp_core.proofs.compiling.push_sections.Goals as goal

pub loop-section-preserved : goal.loop-section-preserved
loop-section-preserved c =
    section_more c.args.bytes.now.items c.loop-section.bytes.items c.extend_from_slice.new.self.items c.args.sections.now c.loop-section.section-index c.section-item.result c.bytes.result.now c.loop-section-test.true c.section-item.is c.bytes.ensures.same c.in_ok-extend_from_slice.ensures.items c.loop-section.invariant
