use Rattle.std.proofs.Common.{◌∙◌, ap, sym}
use Rattle.ts_outside.specs.Desk.{DeskView}
use Rattle.tabcomp_top.specs.Putting.{new_sink}
use Rattle.tabcomp_top.proofs.PutLemmas.{puts-short}
use Rattle.tabcomp_top.proofs.putting.put.Goals as goal

pub returns-in-Err : goal.returns-in-Err
returns-in-Err g c =
    puts-short c.args.name.now c.args.bytes.now (g.D.Desk.seen c.args.desk.now) (g.D.Desk.seen c.open_out.new.self) (g.D.Desk.seen c.write_and_close.new.desk)
    c.in-Ok.ensures.asked
    (c.in-Err.ensures c.args.name.now
    (c.in-Ok.ensures.sink ∙ ap (λ (d : DeskView). new_sink d c.args.name.now) (sym c.in-Ok.ensures.asked)))
