use Rattle.std.specs.Prelude.{is_err}
use Rattle.tabcomp_top.proofs.PutLemmas.{closes-short}
use Rattle.tabcomp_top.proofs.putting.write_and_close.Goals as goal

pub returns-in-Err : goal.returns-in-Err
returns-in-Err g c = λ name fresh.
    closes-short (is_err c.close_out-closed.result) (g.D.Desk.seen c.args.desk.now) (g.D.Desk.seen c.close_out-closed.new.self)
    (g.D.Out.Sink.seen c.args.output) (g.D.Out.Sink.seen c.write_whole-written.new.sink) name c.args.bytes.now c.in-Err.field-0.taken
    fresh c.in-Err.ensures.short c.in-Err.ensures.front c.close_out-closed.ensures
