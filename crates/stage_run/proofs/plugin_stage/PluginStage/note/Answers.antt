use Rattle.std.proofs.Common.{refl}
use Rattle.stage_run.proofs.SinceLemmas.{stands-noted}
use Rattle.stage_run.proofs.plugin_stage.PluginStage.note.Goals as goal

pub returns-clause-noted : goal.returns-clause-noted
returns-clause-noted g c = λ lists told was low within.
    stands-noted g.P.Plugin.rule g.P.Plugin.stands_for c.args.self.now _ lists told was refl c.args.written c.note.result low c.note.ensures.same_rule
    (c.note.ensures.gives lists.met lists.mark was.heard.holds low within)
