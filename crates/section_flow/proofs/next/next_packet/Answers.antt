use Rattle.std.proofs.Common.{sym, ◌∙◌, ap}
use Rattle.ts_packetize.specs.Packets.{packet_with}
use Rattle.ts_packetize.proofs.Laying.{step-alone, step-begins}
use Rattle.section_flow.proofs.next.next_packet.Goals as goal

pub returns-then-goes_on_alone-clause-packet : goal.returns-then-goes_on_alone-clause-packet
returns-then-goes_on_alone-clause-packet c =
    c.go_on.ensures.packet
    ∙ sym (ap (λ step. packet_with c.args.pid c.args.counter step.load) (step-alone c.args.rest.now.items c.args.sections.now.items (sym c.goes_on_alone.ensures.alone ∙ c.if-goes_on_alone.true)))

pub returns-then-goes_on_alone-clause-rest : goal.returns-then-goes_on_alone-clause-rest
returns-then-goes_on_alone-clause-rest c =
    c.go_on.ensures.rest
    ∙ sym (ap (λ step. step.rest) (step-alone c.args.rest.now.items c.args.sections.now.items (sym c.goes_on_alone.ensures.alone ∙ c.if-goes_on_alone.true)))

pub returns-then-goes_on_alone-clause-sections : goal.returns-then-goes_on_alone-clause-sections
returns-then-goes_on_alone-clause-sections c =
    sym (ap (λ step. step.sections) (step-alone c.args.rest.now.items c.args.sections.now.items (sym c.goes_on_alone.ensures.alone ∙ c.if-goes_on_alone.true)))

pub returns-clause-packet : goal.returns-clause-packet
returns-clause-packet c =
    c.in_ok-new.ensures.packet
    ∙ sym (ap (λ step. packet_with c.args.pid c.args.counter step.load) (step-begins c.args.rest.now.items c.args.sections.now.items (sym c.goes_on_alone.ensures.alone ∙ c.if-goes_on_alone.false)))

pub returns-clause-rest : goal.returns-clause-rest
returns-clause-rest c =
    c.in_ok-new.ensures.rest
    ∙ sym (ap (λ step. step.rest) (step-begins c.args.rest.now.items c.args.sections.now.items (sym c.goes_on_alone.ensures.alone ∙ c.if-goes_on_alone.false)))

pub returns-clause-sections : goal.returns-clause-sections
returns-clause-sections c =
    c.in_ok-new.ensures.sections
    ∙ sym (ap (λ step. step.sections) (step-begins c.args.rest.now.items c.args.sections.now.items (sym c.goes_on_alone.ensures.alone ∙ c.if-goes_on_alone.false)))
