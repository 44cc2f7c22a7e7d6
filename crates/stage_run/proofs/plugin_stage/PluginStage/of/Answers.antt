use Rattle.std.proofs.Common.{ℕ, Bool, Option, Some, None, [], is_some, if◌then◌else◌, refl, ap, sym}
use Rattle.stage_run.proofs.SinceLemmas.{since-first}
use Rattle.stage_run.proofs.plugin_stage.PluginStage.of.Goals as goal

pub returns-clause-stands : goal.returns-clause-stands
returns-clause-stands g c = λ source sink mark heard. record {
  heard = since-first g.P.Plugin.rule g.P.Plugin.stands_for c.args.heard [] mark heard;
  given = refl;
  length_same = refl;
  ended = refl;
  agreed = sym (ap (λ (b : Bool). is_some (let o : Option ℕ = if b then Some 0 else None in o)) (g.met.P.Plugin.starts_open c.args.heard.plugin [] mark heard.holds));
}
