use Rattle.std.proofs.Common.{◌≡◌, ℕ, ◌+◌, List, [], ◌++◌, length, None, refl, sym, ap, subst, arith, ◌∙◌, length-append, append-nil, add-zero, is_some}
use Rattle.plugin_trait.specs.declared.list_end.ListEnd.TheVariants.{Through}
use Rattle.plugin_trait.specs.Steps.{IsPreallocatedFor}
use Rattle.plugin_trait.proofs.AgreeingLemmas.{newly_agreed-within}
use Rattle.ts_packet.specs.declared.cell.Cell.{Cell}
use Rattle.chain_model.specs.Joint.{agreement_of}
use Rattle.chain_model.proofs.AgreementLaws.{agreement_of-within}
use Rattle.stage_run.specs.HeardSince.{HeardSince}
use Rattle.stage_run.specs.Telling.{followed}
use Rattle.stage_run.specs.PluginStands.{PluginStands}
use Rattle.stage_run.specs.Works.{PluginWorks, DoesAll, StayAsTheyWere}
use Rattle.stage_run.proofs.InputWorking.{plain_work}
use Rattle.stage_run.proofs.WorkLemmas.{plain-stage, followed-memory}
use Rattle.stage_run.proofs.PluginWorking.{plugin_works, FollowsNews-followed}
use Rattle.stage_run.proofs.plugin_stage.PluginStage.work_on_none.Goals as goal

pub returns-clause-work : goal.returns-clause-work
returns-clause-work g c =
    let rule = g.P.Plugin.rule in
    let stands = g.P.Plugin.stands_for in
    let old = c.args.self.now in
    let news = c.args.news.now in
    let told : c.ending.result ≡ plain_work 0 (followed news (c.args.at + 0)) =
    c.ending.ensures ∙ ap (plain_work 0) c.followed.ensures ∙ ap (λ (n : ℕ). plain_work 0 (followed news n)) (sym (add-zero c.args.at)) in
    plain-stage (PluginStands rule stands old) (PluginStands rule stands old) (λ ahead. IsPreallocatedFor (g.P.Plugin.preallocated old.heard.plugin) ahead → ⊥) StayAsTheyWere DoesAll
    (λ w before. PluginWorks (rule old.heard.plugin) before news [] [] w)
    c.args.at news [] [] c.ending.result 0 (followed news (c.args.at + 0)) told (omega arith) refl
    (λ e. refl) (FollowsNews-followed news (c.args.at + 0)) (followed-memory news (c.args.at + 0))
    (λ lists may.
    let count : length lists.met ≡ c.args.at = sym may.goes_on.length_same ∙ may.given in
    let same : lists.met ++ [] ≡ lists.met = append-nil lists.met in
    plugin_works rule stands old old lists news [] [] c.args.at news.written 0 None Through may refl refl (omega arith)
    (refl, refl)
    refl
    lists.mark (subst (λ (h : List Cell). HeardSince rule stands lists.from old.heard h lists.mark) (sym same) may.goes_on.heard) may.mark
    (λ some fine. absurd (omega (arith, some)))
    (record {
      tells = sym (newly_agreed-within c.args.at (agreement_of (rule old.heard.plugin) (lists.met ++ []))
          (λ m is. let few = agreement_of-within (rule old.heard.plugin) (lists.met ++ []) m is in omega (arith, length-append lists.met [])));
      notes = may.goes_on.agreed ∙ ap (λ (h : List Cell). is_some (agreement_of (rule old.heard.plugin) h)) (sym same);
    }))
