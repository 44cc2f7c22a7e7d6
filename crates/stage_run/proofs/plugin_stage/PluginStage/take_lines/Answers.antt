use Rattle.std.proofs.Common.{refl, ap, ◌∙◌}
use Rattle.stage_run.proofs.SinceLemmas.{stands-taken}
use Rattle.stage_run.proofs.plugin_stage.PluginStage.take_lines.Goals as goal

pub returns-clause-taken : goal.returns-clause-taken
returns-clause-taken g c = λ lists told was. (
  ap (λ v. v.items) c.replace.ensures.value ∙ was.heard.lines,
  stands-taken g.P.Plugin.rule g.P.Plugin.stands_for c.args.self.now _ lists told was refl refl (ap (λ v. v.items) c.replace.ensures.after ∙ c.new.ensures.items),
)
