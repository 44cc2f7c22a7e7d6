use Rattle.std.proofs.Common.{◌+◌, length, take, ap, sym, ◌∙◌, subst, arith, length-take-le}
use Rattle.stage_run.specs.declared.packet_stream.PacketsRead.{PacketsRead}
use Rattle.stage_run.specs.Feeds.{StreamReads}
use Rattle.stage_run.proofs.FillLemmas.{stream-none, stream-reads, rows_taken}
use Rattle.stage_run.proofs.packet_stream.PacketStream.fill_window.Goals as goal

pub returns-clause-reads : goal.returns-clause-reads
returns-clause-reads g c = λ first read rows stands.
    subst (λ (r : PacketsRead). StreamReads g.S.Source.seen c.args.self.now (length c.args.window.cells) first read rows (take r.count r.window.cells) r.ended) (sym c.nothing_read.ensures)
    (stream-none g.S.Source.seen c.args.self.now (length c.args.window.cells) first read rows stands)

pub returns-then-wants_read-clause-reads : goal.returns-then-wants_read-clause-reads
returns-then-wants_read-clause-reads g c = λ first read rows stands.
    let r = c.read_packets-window in let k = r.result.1 in let cells = r.result.0.cells in
    let taken = length-take-le k cells (let a = r.ensures.within in let b = r.ensures.long in omega (arith, a, b)) in
    subst (λ e. StreamReads g.S.Source.seen r.new.self (length c.args.window.cells) first read rows (take k cells) e) (sym c.end_of_read.ensures)
    (stream-reads g.S.Source.seen c.args.self.now r.new.self (length c.args.window.cells) (take k cells) (rows_taken k cells r.ensures.rows)
    (r.ensures.packets ∙ ap (λ n. c.args.self.now.packets + n) (sym taken)) r.ensures.room c.requires.room (c.wants_read.ensures.unfinished c.if-wants_read.true) first read rows stands r.result.2 r.ensures.fills)
