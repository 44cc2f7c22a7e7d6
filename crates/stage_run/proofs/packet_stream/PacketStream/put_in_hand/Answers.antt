use Rattle.std.proofs.Common.{◌≡◌, ℕ, ◌+◌, ◌<◌, List, ◌++◌, length, take, ◌∙◌, sym, ap, subst, arith}
use Rattle.std.proofs.lemmas.List.{take_more_set}
use Rattle.ts_packet.specs.declared.cell.Cell.{Cell}
use Rattle.stage_run.specs.Feeds.{StreamPutsAll}
use Rattle.cell_rows.specs.Cells.{cell_of, cells_of}
use Rattle.cell_rows.proofs.CellLemmas.{cells_long, cells_set}
use Rattle.stage_run.proofs.StreamLemmas.{StreamPutsAll-none, StreamPutsAll-push}
use Rattle.stage_run.proofs.packet_stream.PacketStream.put_in_hand.Goals as goal

pub loop-done-init : goal.loop-done-init
loop-done-init g c = record {
  room = c.requires.room;
  packets = omega arith;
  puts = λ first read rows stands. StreamPutsAll-none g.S.Source.seen c.args.self.now first read rows stands;
}

pub loop-done-preserved : goal.loop-done-preserved
loop-done-preserved g c =
    let seen = g.S.Source.seen in
    let done : ℕ = c.loop-done.done in
    let ps = c.loop-done.packets in
    let ms = c.loop-done.marks in
    let p = c.next_packet.new.packet in
    let m = c.next_packet.new.mark in
    let long : length ms ≡ length ps = let a = c.loop-done.auto.packets in let b = c.loop-done.auto.marks in let o = c.requires.long in omega (arith, a, b, o) in
    let inside : done < length (cells_of ps ms) = let n = cells_long ps ms long in let t = c.loop-done-test.true in let a = c.loop-done.auto.packets in omega (arith, n, t, a) in
    record {
      room = c.next_packet.ensures.room;
      packets = c.next_packet.ensures.packets ∙ ap (λ (n : ℕ). n + 1) c.loop-done.invariant.packets ∙ omega arith;
      puts = λ first read rows stands.
          let puts = c.loop-done.invariant.puts first read rows stands in
          subst (λ (l : List Cell). StreamPutsAll seen c.next_packet.new.self first read rows l)
          (sym (ap (take (done + 1)) (cells_set ps ms done p m long) ∙ take_more_set (cells_of ps ms) done (cell_of p m) inside))
          (StreamPutsAll-push seen c.loop-done.self c.next_packet.new.self first read rows (take done (cells_of ps ms)) (cell_of p m) puts
          (c.next_packet.ensures.puts first read (rows ++ puts.put) puts.stands));
    }

pub returns-clause-puts : goal.returns-clause-puts
returns-clause-puts g c = λ first read rows stands.
    let all : c.loop-done.done ≡ length c.loop-done.packets = omega arith in
    subst (λ (n : ℕ). StreamPutsAll g.S.Source.seen c.loop-done.self first read rows (take n (cells_of c.loop-done.packets c.loop-done.marks))) all
    (c.loop-done.invariant.puts first read rows stands)
