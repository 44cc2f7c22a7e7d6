use Rattle.std.proofs.Common.{◌∙◌, ap}
use Rattle.section_flow.specs.Flow.{is_altered}
use Rattle.section_flow.proofs.Taking.{altered-more, took-more}
use Rattle.section_flow.proofs.flow.take_ready.Goals as goal

pub loop-section-preserved : goal.loop-section-preserved
loop-section-preserved g c = record {
  took = took-more (g.E.SectionEdit.edited c.args.edit.now) c.args.demux.now c.loop-section.demux c.next_section.new.self
      c.args.packing.now c.loop-section.packing c.put.new.packing c.in-Some.section _
      c.in-Some.ensures.first c.in_ok-change.ensures c.in_ok-put.ensures c.loop-section.invariant.took;
  seen = altered-more (g.E.SectionEdit.edited c.args.edit.now) c.args.demux.now c.loop-section.demux c.next_section.new.self c.in-Some.section
      c.loop-section.altered c.alters.result c.or-altered.result c.in-Some.ensures.first (c.alters.ensures ∙ ap (is_altered c.in-Some.section) c.in_ok-change.ensures) c.or-altered.ensures c.loop-section.invariant.seen;
}
