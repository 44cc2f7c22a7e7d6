use Rattle.std.proofs.Common.{ℕ, not, ◌==◌, ap, arith}
use Rattle.ts_packet.specs.Cells.{live_packets}
use Rattle.plug_info_state.proofs.CountLemmas.{counted_live, has_room}
use Rattle.plug_info_state.proofs.ExtentLemmas.{extent_live}
use Rattle.plug_info_state.proofs.TrackLemmas.{tracks_live}
use Rattle.plug_info_state.proofs.tracker.Tracker.take_packet.Goals as goal

pub add-requires-clause-room : goal.add-requires-clause-room
add-requires-clause-room c = has_room c.args.self.now.counts c.requires.cells c.requires.tracks.counted c.requires.few

pub with-self-requires : goal.with-self-requires
with-self-requires c = omega (arith, c.requires.count, c.requires.few)

pub returns : goal.returns
returns c = λ cells w count labels.
    tracks_live _ cells c.args.packet.now labels
    (c.meet_counter-is_fault.ensures.met cells w.remembers labels)
    (counted_live c.args.self.now.counts c.add.new.self cells c.args.packet.now labels w.counted c.pid.result _ c.meet_counter-is_fault.result c.error_indicator.result
    c.pid.ensures.field (ap (λ (n : ℕ). not (n == 0)) c.scrambling-is_scrambled.ensures.field) (c.meet_counter-is_fault.ensures.fault cells w.remembers count) c.error_indicator.ensures
    c.add.ensures.packets c.add.ensures.scrambled c.add.ensures.faults c.add.ensures.errored)
    (c.in_ok-meet.ensures cells w.spans_are count labels)
    (extent_live cells c.args.packet.now labels c.args.at c.args.self.now.extent c.with-self.result w.extent_is count c.with-self.ensures)
    (c.in_ok-feed-2.ensures (live_packets cells) w.has_sdt)
    (c.in_ok-feed-3.ensures (live_packets cells) w.has_others)
    (c.in_ok-feed.ensures.stands (live_packets cells) w.fed)
