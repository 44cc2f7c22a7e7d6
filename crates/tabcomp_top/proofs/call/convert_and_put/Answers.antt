use Rattle.std.proofs.Common.{Ok, ap, sym, ◌∙◌}
use Rattle.tabcomp_top.specs.TabWords.{meant}
use Rattle.tabcomp_top.proofs.CallLemmas.{does-put, does-refuse}
use Rattle.tabcomp_top.proofs.call.convert_and_put.Goals as goal

pub returns-in-Ok : goal.returns-in-Ok
returns-in-Ok g c = λ old read asked.
    does-put (meant c.args.job) old (g.D.Desk.seen c.args.desk.now) (g.D.Desk.seen c.put.new.desk) c.args.bytes.now c.deref.result.now c.put.result
    read asked (c.in-Ok.ensures ∙ ap Ok (sym c.deref.ensures.value)) c.put.ensures

pub returns-in-Err : goal.returns-in-Err
returns-in-Err g c = λ old read asked.
    does-refuse (meant c.args.job) old (g.D.Desk.seen c.args.desk.now) c.args.bytes.now c.in-Err.status read asked c.in-Err.ensures
