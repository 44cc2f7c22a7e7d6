use Rattle.section_flow.proofs.FlowLemmas.{meets-altered, meets-replaced, meets-stands}
use Rattle.section_flow.proofs.flow.Flow.advance.Goals as goal

pub returns-clause-replaced : goal.returns-clause-replaced
returns-clause-replaced g c = λ pid wanted met has same.
    meets-replaced c.feed.new.self c.args.self.now.demux c.args.self.now.packing c.take_ready.new.packing c.put.new.self c.args.self.now.failed
    (g.E.SectionEdit.edited c.args.edit.now) c.args.packet.now c.in_ok-new.new c.in_ok-feed.field-0
    c.in_ok-feed.ensures.taken c.in_ok-self.ensures.packing c.in_ok-new.ensures pid wanted met has same

pub returns-clause-stands : goal.returns-clause-stands
returns-clause-stands g c = λ pid wanted met has same.
    meets-stands c.feed.new.self c.args.self.now.demux c.args.self.now.packing c.take_ready.new.packing c.put.new.self c.args.self.now.failed
    (g.E.SectionEdit.edited c.args.edit.now) c.args.packet.now c.in_ok-new.new c.in_ok-feed.field-0
    c.in_ok-feed.ensures.taken c.in_ok-self.ensures.packing c.in_ok-new.ensures pid wanted met has same
    c.take_ready.new.demux c.in_ok-self.ensures.demux

pub returns-clause-altered : goal.returns-clause-altered
returns-clause-altered g c = λ pid wanted met has same.
    meets-altered c.feed.new.self c.args.self.now.demux c.args.self.now.packing c.take_ready.new.packing c.put.new.self c.args.self.now.failed
    (g.E.SectionEdit.edited c.args.edit.now) c.args.packet.now c.in_ok-new.new c.in_ok-feed.field-0
    c.in_ok-feed.ensures.taken c.in_ok-self.ensures.packing c.in_ok-new.ensures pid wanted met has same
    _ c.in_ok-self.ensures.altered
