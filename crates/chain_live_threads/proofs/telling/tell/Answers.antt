use Rattle.std.proofs.Common.{sym, ◌∙◌, arith}
use Rattle.stage_run.specs.Seeing.{seeing}
use Rattle.chain_tells.specs.Printing.{PrintsLines}
use Rattle.chain_tells.specs.Waiting.{waiting}
use Rattle.chain_tells.proofs.LiveLemmas.{when-ok, when-err}
use Rattle.chain_live_threads.proofs.ToldLemmas.{beside-all}
use Rattle.chain_live_threads.proofs.WentLemmas.{went_same, went-kept, went-silent, went-told, row-may}
use Rattle.chain_live_threads.proofs.telling.tell.Goals as goal

pub returns-in_default-clause-went : goal.returns-in_default-clause-went
returns-in_default-clause-went g c = went_same (seeing g.S.Source.seen g.K.Sink.seen g.P.Plugin.rule g.P.Plugin.stands_for g.P.Plugin.preallocated) c.args.ring.now (PrintsLines g.D.Desk.seen (g.L.LineTexts.text_of c.args.texts.now)) (c.args.telling.now.printing, c.args.desk.now) c.args.telling.now.told c.args.row.now

pub returns-in_default-clause-same : goal.returns-in_default-clause-same
returns-in_default-clause-same g c = beside-all c.args.row.now

pub take_after-requires-clause-serves : goal.take_after-requires-clause-serves
take_after-requires-clause-serves g c = row-may (seeing g.S.Source.seen g.K.Sink.seen g.P.Plugin.rule g.P.Plugin.stands_for g.P.Plugin.preallocated) c.args.ring.now c.args.telling.now.told c.args.row.now c.requires.ready

pub take_after-requires-clause-plugin : goal.take_after-requires-clause-plugin
take_after-requires-clause-plugin g c = omega (arith, c.in-Some.ensures.some)

pub returns-then-is_err-clause-went : goal.returns-then-is_err-clause-went
returns-then-is_err-clause-went g c =
    went-kept (seeing g.S.Source.seen g.K.Sink.seen g.P.Plugin.rule g.P.Plugin.stands_for g.P.Plugin.preallocated) c.run_laws.ensures c.args.ring.now (PrintsLines g.D.Desk.seen (g.L.LineTexts.text_of c.args.texts.now)) c.args.telling.now.told c.args.row.now c.take_after.new.row c.take_after.ensures.same (c.args.telling.now.printing, c.args.desk.now)
    (λ begun base table s. when-err c.take_after.result _ (sym c.is_err.ensures.value ∙ c.if-is_err.true) (c.take_after.ensures.keeps begun base table s))

pub returns-then-is_empty-clause-went : goal.returns-then-is_empty-clause-went
returns-then-is_empty-clause-went g c =
    went-silent (seeing g.S.Source.seen g.K.Sink.seen g.P.Plugin.rule g.P.Plugin.stands_for g.P.Plugin.preallocated) c.run_laws.ensures c.args.ring.now (PrintsLines g.D.Desk.seen (g.L.LineTexts.text_of c.args.texts.now)) c.args.telling.now.told c.args.row.now c.take_after.new.row c.take_after.ensures.same c.in-Some.ensures.some c.in-Some.written c.in-Some.ensures.know
    (waiting c.take_after.new.lines)
    (λ begun base table s. when-ok c.take_after.result _ (sym c.is_err.ensures.value ∙ c.if-is_err.false) (c.take_after.ensures.gave begun base table s))
    (c.args.telling.now.printing, c.args.desk.now) (c.is_empty.ensures.yes c.if-is_empty.true)

pub returns-clause-went : goal.returns-clause-went
returns-clause-went g c =
    went-told (seeing g.S.Source.seen g.K.Sink.seen g.P.Plugin.rule g.P.Plugin.stands_for g.P.Plugin.preallocated) c.run_laws.ensures c.args.ring.now (PrintsLines g.D.Desk.seen (g.L.LineTexts.text_of c.args.texts.now)) c.args.telling.now.told c.args.row.now c.take_after.new.row c.take_after.ensures.same c.in-Some.ensures.some c.in-Some.written c.in-Some.ensures.know
    (waiting c.take_after.new.lines)
    (λ begun base table s. when-ok c.take_after.result _ (sym c.is_err.ensures.value ∙ c.if-is_err.false) (c.take_after.ensures.gave begun base table s))
    (c.args.telling.now.printing, c.args.desk.now) (c.print_lines.new.printing, c.print_lines.new.desk) (c.is_empty.ensures.no c.if-is_empty.false) c.print_lines.ensures.prints
