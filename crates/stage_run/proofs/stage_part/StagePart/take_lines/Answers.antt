use Rattle.std.proofs.Common.{◌≡◌, Option, refl, ap, sym, subst}
use Rattle.chain_core.specs.declared.stage_end.StageEnd.{StageEnd}
use Rattle.plugin_trait.specs.PlacedLines.{placed_between}
use Rattle.plugin_trait.specs.Steps.{IsPreallocatedFor}
use Rattle.stage_run.specs.Seeing.{seeing}
use Rattle.stage_run.specs.declared.stage_part.StagePart.{StagePart}
use Rattle.stage_run.specs.declared.stage_part.StagePart.TheVariants.{Plugin}
use Rattle.stage_run.specs.PartLists.{PartLists, lines_taken}
use Rattle.stage_run.specs.PartStands.{PartStands, rule_of}
use Rattle.stage_run.specs.Noting.{Noted}
use Rattle.stage_run.proofs.stage_part.StagePart.take_lines.Goals as goal

pub returns-clause-noted : goal.returns-clause-noted
returns-clause-noted g c =
    subst (λ (p : StagePart g.row.S.Denot g.row.K.Denot g.row.P.Denot). Noted (seeing g.S.Source.seen g.K.Sink.seen g.P.Plugin.rule g.P.Plugin.stands_for g.P.Plugin.preallocated) p (Plugin c.take_lines.new.self) lines_taken (λ lists. Unit {0}))
    (sym c.in-Plugin.is)
    (record {
      kind = refl;
      same_rule = ap g.P.Plugin.rule c.take_lines.ensures.same_plugin;
      same_preallocated = ap g.P.Plugin.preallocated c.take_lines.ensures.same_plugin;
      memory = λ ahead wants has. wants (subst (λ s. IsPreallocatedFor s ahead) (ap g.P.Plugin.preallocated c.take_lines.ensures.same_plugin) has);
      stands = λ lists told allows was. (c.take_lines.ensures.taken lists told was).1;
    })

pub returns-clause-taken : goal.returns-clause-taken
returns-clause-taken g c =
    subst (λ (p : StagePart g.row.S.Denot g.row.K.Denot g.row.P.Denot). (lists : PartLists) (told : Option StageEnd) → PartStands (seeing g.S.Source.seen g.K.Sink.seen g.P.Plugin.rule g.P.Plugin.stands_for g.P.Plugin.preallocated) p lists told
    → c.take_lines.result.items ≡ placed_between (rule_of (seeing g.S.Source.seen g.K.Sink.seen g.P.Plugin.rule g.P.Plugin.stands_for g.P.Plugin.preallocated) p) lists.met lists.from lists.mark)
    (sym c.in-Plugin.is)
    (λ lists told was. (c.take_lines.ensures.taken lists told was).0)
