use Rattle.std.proofs.Common.{◌≡◌, ◌+◌, ◌-◌, length, sym, ◌∙◌, ap, arith, subst}
use Rattle.monitor_crcs.proofs.Feeding.{takes_in-uncounted, takes_in-counted, takes-packet, seen}
use Rattle.monitor_crcs.specs.ReaderState.{ReaderState, TakesIn}
use Rattle.ts_demux.specs.CountedPackets.{counts, part_of_packet}
use Rattle.monitor_crcs.specs.Reader.{Takes}
use Rattle.monitor_crcs.proofs.wrong_crcs.WrongCrcs.advance.Goals as goal

pub returns-then-not-counts-clause-taken : goal.returns-then-not-counts-clause-taken
returns-then-not-counts-clause-taken c =
    takes_in-uncounted c.args.self.now c.args.packet.now
    (ap (λ v. counts v.pid c.args.packet.now) (sym c.self.view_is) ∙ sym c.counts.ensures ∙ c.if-not-counts.true)

pub returns-in-Ok-clause-taken : goal.returns-in-Ok-clause-taken
returns-in-Ok-clause-taken c =
    let takes : Takes c.self.inside.reader c.take_part-taken.new.self (part_of_packet c.args.packet.now) c.self.inside.waiting.items c.take_part-taken.new.waiting.items =
    takes-packet c.self.inside.reader c.take_part-taken.new.self c.args.packet.now c.counter.result c.unit_start.result c.payload.result.now c.self.inside.waiting.items c.take_part-taken.new.waiting.items
    c.counter.ensures.field c.unit_start.ensures c.payload.ensures.bytes c.in-Ok.ensures.told in
    let grown : length c.take_part-taken.new.waiting.items ≡ length c.self.inside.waiting.items + (c.len.result - c.len-before.result) = omega (arith, takes.grows) in
    subst (λ old. TakesIn old (seen c.self.inside.pid c.take_part-taken.new.self c.take_part-taken.new.waiting.items c.self.inside.failed) c.args.packet.now (c.len.result - c.len-before.result)) c.self.view_is
    (takes_in-counted c.self.inside.pid c.self.inside.failed c.self.inside.reader c.take_part-taken.new.self c.self.inside.waiting.items c.take_part-taken.new.waiting.items c.args.packet.now (c.len.result - c.len-before.result)
    (ap (λ (v : ReaderState). v.failed) c.self.view_is ∙ c.requires) (sym c.counts.ensures ∙ c.if-not-counts.false) takes c.in-Ok.ensures.rest grown)
