use Rattle.std.proofs.Common.{ℕ, length, take, drop, ap, sym, ◌∙◌, arith}
use Rattle.std.proofs.lemmas.List.{with_items_is}
use Rattle.std.specs.Vec.{with_items}
use Rattle.stage_run.proofs.FillLemmas.{fills, as_asked, as_reads, rows_taken}
use Rattle.stage_run.proofs.packet_stream.PacketStream.read_packets.Goals as goal

pub returns-clause-fills : goal.returns-clause-fills
returns-clause-fills g c =
    let w = c.read_in_place-window in let f = c.to_front.new.self in let m = c.to_front.ensures.moves in let v = f.room.bytes in
    let lv = c.as_mut_slice.ensures.len in let lr = w.ensures.room in let k = w.result.count in let cells = w.result.window.cells in
    let items = with_items_is v w.new.room (lr ∙ lv) in
    let front = c.to_front.ensures.front in
    let hand_new = ap (λ (n : ℕ). take w.result.have (drop n (with_items v w.new.room).items)) front ∙ ap (take w.result.have) items in
    let before = sym m.hand ∙ ap (λ (n : ℕ). take f.have (drop n v.items)) front ∙ ap (take f.have) (sym c.as_mut_slice.ensures.value) in
    let have = m.have in
    fills g.S.Source.seen c.args.self.now _ (length c.args.window.cells) (take k cells) c.requires.room
    (let a = w.ensures.within.1 in omega (arith, a, front, lr, lv)) w.result.read (as_asked f.have c.args.self.now.have (length c.args.window.cells) w.result.read have w.ensures.asked) (rows_taken k cells w.ensures.packets)
    (as_reads _ _ _ _ _ _ _ _ _ (ap g.S.Source.seen (sym m.source)) before hand_new w.ensures.reads)
