use Rattle.std.proofs.Common.{sym, ◌∙◌, ap, arith, refl, []}
use Rattle.ts_demux.specs.SectionsOfPid.{sections_of_pid}
use Rattle.ts_packetize.proofs.Packeting.{packs-first, packs-more, packs-shorter, packs-done}
use Rattle.ts_packetize.proofs.Again.{sections_of_pid-packets_of}
use Rattle.ts_packetize.proofs.packing.packets.Goals as goal

pub loop-rest-init : goal.loop-rest-init
loop-rest-init c = packs-first c.args.pid c.args.sections.now c.new-packets.result.items [] c.new-packets.ensures.items refl

pub loop-rest-smaller : goal.loop-rest-smaller
loop-rest-smaller c =
    packs-shorter c.loop-rest.rest.now c.rest_after-behind.result.now c.loop-rest.waiting.now c.sections_after-waiting.result.now
    (sym c.is_done.ensures ∙ c.loop-rest-test.true) c.in_ok-next_packet.ensures.valid c.rest_after-behind.ensures c.sections_after-waiting.ensures

pub loop-rest-preserved : goal.loop-rest-preserved
loop-rest-preserved c =
    packs-more c.args.pid c.next_counter-counter.result c.args.sections.now c.loop-rest.packets.items c.push.new.self.items c.loop-rest.rest.now c.rest_after-behind.result.now c.in_ok-next_packet.field-0
    c.loop-rest.waiting.now c.sections_after-waiting.result.now c.loop-rest.invariant (sym c.is_done.ensures ∙ c.loop-rest-test.true) c.in_ok-next_packet.ensures.valid
    c.next_counter-counter.ensures.counter c.in_ok-next_packet.ensures.packet c.in_ok-push.ensures.items c.rest_after-behind.ensures c.sections_after-waiting.ensures

pub returns-clause-packed : goal.returns-clause-packed
returns-clause-packed c =
    c.of.ensures ∙ (packs-done c.args.pid c.args.sections.now c.loop-rest.packets.items c.loop-rest.rest.now c.loop-rest.waiting.now c.loop-rest.invariant (sym c.is_done.ensures ∙ c.loop-rest-test.false)).0

pub returns-clause-again : goal.returns-clause-again
returns-clause-again c =
    let done = packs-done c.args.pid c.args.sections.now c.loop-rest.packets.items c.loop-rest.rest.now c.loop-rest.waiting.now c.loop-rest.invariant (sym c.is_done.ensures ∙ c.loop-rest-test.false) in
    ap (sections_of_pid c.args.pid) (c.of.ensures ∙ done.0) ∙ sections_of_pid-packets_of c.args.pid c.args.sections.now (omega arith) done.1
