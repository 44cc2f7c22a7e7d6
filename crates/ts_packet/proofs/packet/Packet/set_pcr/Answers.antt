-- What the six bytes set, and that the packet then reads as the value.
use Rattle.std.proofs.Common.{◌≡◌, true, ap, ◌∙◌}
use Rattle.ts_packet.specs.Payload.{with_piece}
use Rattle.ts_packet.specs.Pcr.{has_pcr_of, with_pcr}
use Rattle.ts_packet.proofs.Clocks.{with_pcr-sets, pcr_of-set}
use Rattle.ts_packet.proofs.packet.Packet.set_pcr.Goals as goal
use Rattle.ts_packet.proofs.packet.Packet.set_pcr.Goals.{After-write_bytes}

is_new : (c : After-write_bytes) → c.write_bytes.new.self ≡ with_pcr c.args.self.now c.args.value
unfolding with_pcr
is_new c = c.write_bytes.ensures.row ∙ ap (with_piece c.args.self.now 6) c.clock_bytes.ensures

pub returns-clause-written : goal.returns-clause-written
returns-clause-written c = rw (is_new c) (with_pcr-sets c.args.self.now c.args.value c.has_pcr.ensures.packet.whole c.requires)

pub returns-clause-reads_back : goal.returns-clause-reads_back
returns-clause-reads_back c =
    let has : has_pcr_of c.args.self.now ≡ true = cc in
    pcr_of-set c.args.self.now c.write_bytes.new.self c.args.value (returns-clause-written c) has
