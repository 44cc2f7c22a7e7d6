use Rattle.std.proofs.Common.{[], sym, ap, subst, refl, Some}
use Rattle.stage_run.specs.Seeing.{seeing}
use Rattle.stage_run.specs.declared.stage_part.StagePart.{StagePart}
use Rattle.stage_run.specs.declared.stage_part.StagePart.TheVariants.{Input, Plugin, Output}
use Rattle.stage_run.specs.declared.plugin_stage.PluginStage.{PluginStage}
use Rattle.stage_run.specs.declared.stuffing.Stuffing.{Stuffing}
use Rattle.stage_run.specs.InputStands.{stuffing_of}
use Rattle.stage_run.specs.Works.{PartWork}
use Rattle.stage_run.proofs.stage_part.StagePart.work_on_none.Goals as goal

pub returns-in-Input : goal.returns-in-Input
returns-in-Input g c =
    subst (λ (p : StagePart g.row.S.Denot g.row.K.Denot g.row.P.Denot). PartWork (seeing g.S.Source.seen g.K.Sink.seen g.P.Plugin.rule g.P.Plugin.stands_for g.P.Plugin.preallocated) p
    (Input c.work_on_none.new.self) c.args.at c.args.news.now [] [] c.work_on_none.result)
    (sym c.in-Input.is)
    (record {
      same_kind = refl;
      same_rule = refl;
      same_preallocated = refl;
      same_stuffing = ap (λ (s : Stuffing). Some (stuffing_of s)) c.work_on_none.ensures.same_stuffing;
      stage = c.work_on_none.ensures.work;
    })

pub returns-in-Plugin : goal.returns-in-Plugin
returns-in-Plugin g c =
    subst (λ (p : StagePart g.row.S.Denot g.row.K.Denot g.row.P.Denot). PartWork (seeing g.S.Source.seen g.K.Sink.seen g.P.Plugin.rule g.P.Plugin.stands_for g.P.Plugin.preallocated) p
    (Plugin c.work_on_none-in-Plugin.new.self) c.args.at c.args.news.now [] [] c.work_on_none-in-Plugin.result)
    (sym c.in-Plugin.is)
    (record {
      same_kind = refl;
      same_rule = ap (λ (s : PluginStage g.row.P.Denot). g.P.Plugin.rule s.heard.plugin) c.work_on_none-in-Plugin.ensures.same_plugin;
      same_preallocated = ap (λ (s : PluginStage g.row.P.Denot). g.P.Plugin.preallocated s.heard.plugin) c.work_on_none-in-Plugin.ensures.same_plugin;
      same_stuffing = refl;
      stage = c.work_on_none-in-Plugin.ensures.work;
    })

pub returns-in-Output : goal.returns-in-Output
returns-in-Output g c =
    subst (λ (p : StagePart g.row.S.Denot g.row.K.Denot g.row.P.Denot). PartWork (seeing g.S.Source.seen g.K.Sink.seen g.P.Plugin.rule g.P.Plugin.stands_for g.P.Plugin.preallocated) p
    (Output c.work_on_none-in-Output.new.self) c.args.at c.args.news.now [] [] c.work_on_none-in-Output.result)
    (sym c.in-Output.is)
    (record {
      same_kind = refl;
      same_rule = refl;
      same_preallocated = refl;
      same_stuffing = refl;
      stage = c.work_on_none-in-Output.ensures;
    })
