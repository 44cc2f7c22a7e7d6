use Rattle.std.proofs.Common.{sym, ◌∙◌, ap, subst}
use Rattle.switch_top.specs.SwitchEnds.{SwitchRan}
use Rattle.switch_top.specs.OutputKept.{closed_as, ClosesWell}
use Rattle.switch_top.proofs.EndLemmas.{switch-ran}
use Rattle.switch_top.proofs.ending.finish_over.Goals as goal

pub returns : goal.returns
returns g c = λ resync core inputs names start first name buffer ran is same.
    subst (λ b. SwitchRan resync b names name start (g.D.Desk.seen c.report_plays.new.desk) c.report_plays.result) same (switch-ran _ core inputs names start first name c.args.over (g.D.Desk.seen c.args.desk.now) (g.D.Desk.seen c.close_output.new.desk) (g.D.Desk.seen c.report_plays.new.desk) c.is_err-failed.result c.report_plays.result ran is (subst (ClosesWell c.args.over.output) (sym c.is_err-failed.ensures.value) c.close_output.ensures.well)
    (c.close_output.ensures.closed ∙ ap (closed_as g.D.Out.Sink.seen (g.D.Desk.seen c.args.desk.now) c.args.over.output) (sym c.is_err-failed.ensures.value)) c.report_plays.ensures)
