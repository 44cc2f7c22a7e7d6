use Rattle.std.proofs.Common.{sym, ap, subst, refl, Some}
use Rattle.stage_run.specs.Seeing.{seeing}
use Rattle.stage_run.specs.declared.stage_part.StagePart.{StagePart}
use Rattle.stage_run.specs.declared.stage_part.StagePart.TheVariants.{Input, Plugin, Output}
use Rattle.stage_run.specs.declared.stuffing.Stuffing.{Stuffing}
use Rattle.stage_run.specs.InputStands.{stuffing_of}
use Rattle.stage_run.specs.Works.{PartWork}
use Rattle.stage_run.proofs.stage_part.StagePart.work.Goals as goal

pub returns-in-Input-clause-work : goal.returns-in-Input-clause-work
returns-in-Input-clause-work g c =
    subst (λ (p : StagePart g.row.S.Denot g.row.K.Denot g.row.P.Denot). PartWork (seeing g.S.Source.seen g.K.Sink.seen g.P.Plugin.rule g.P.Plugin.stands_for g.P.Plugin.preallocated) p
    (Input c.work.new.self) c.args.at c.args.news.now c.args.window.cells c.work.result.1.cells c.work.result.0)
    (sym c.in-Input.is)
    (record {
      same_kind = refl;
      same_rule = refl;
      same_preallocated = refl;
      same_stuffing = ap (λ (s : Stuffing). Some (stuffing_of s)) c.work.ensures.same_stuffing;
      stage = c.work.ensures.work;
    })

pub returns-in-Plugin-clause-work : goal.returns-in-Plugin-clause-work
returns-in-Plugin-clause-work g c =
    subst (λ (p : StagePart g.row.S.Denot g.row.K.Denot g.row.P.Denot). PartWork (seeing g.S.Source.seen g.K.Sink.seen g.P.Plugin.rule g.P.Plugin.stands_for g.P.Plugin.preallocated) p
    (Plugin c.work_on.new.self) c.args.at c.args.news.now c.args.window.cells c.work_on.result.1.cells c.work_on.result.0)
    (sym c.in-Plugin.is)
    (record {
      same_kind = refl;
      same_rule = c.work_on.ensures.same_rule;
      same_preallocated = c.work_on.ensures.same_preallocated;
      same_stuffing = refl;
      stage = c.work_on.ensures.work;
    })

pub returns-in-Output-clause-work : goal.returns-in-Output-clause-work
returns-in-Output-clause-work g c =
    subst (λ (p : StagePart g.row.S.Denot g.row.K.Denot g.row.P.Denot). PartWork (seeing g.S.Source.seen g.K.Sink.seen g.P.Plugin.rule g.P.Plugin.stands_for g.P.Plugin.preallocated) p
    (Output c.work-in-Output.new.self) c.args.at c.args.news.now c.args.window.cells c.work-in-Output.result.1.cells c.work-in-Output.result.0)
    (sym c.in-Output.is)
    (record {
      same_kind = refl;
      same_rule = refl;
      same_preallocated = refl;
      same_stuffing = refl;
      stage = c.work-in-Output.ensures.work;
    })
