-- The laws of one stage, from the lemmas on its work.
use Rattle.std.proofs.Common.{◌≡◌, ◌≢◌, ℕ, zero, suc, ◌+◌, List, [], length, take, None, Some, refl, sym, ◌∙◌, arith}
use Rattle.ts_packet.specs.declared.cell.Cell.{Cell}
use Rattle.chain_model.specs.PluginRule.{PluginRule}
use Rattle.chain_model.specs.Apply.{StageList, last_passed}
use Rattle.chain_model.specs.StageLists.{rule_after}
use Rattle.chain_core.specs.declared.news.News.{News}
use Rattle.chain_core.specs.Machine.{Visit, start}
use Rattle.chain_core.specs.ChainRun.{took}
use Rattle.chain_core.specs.Keeps.{StageKeeps}
use Rattle.stage_run.specs.Seeing.{Seeing}
use Rattle.stage_run.specs.declared.stage_part.StagePart.{StagePart}
use Rattle.stage_run.specs.declared.work.Work.{Work}
use Rattle.stage_run.specs.PartLists.{PartLists}
use Rattle.chain_run.specs.Runs.{RunStart, nothing_told}
use Rattle.chain_run.specs.Laws.{MachineLaws}
use Rattle.chain_run.specs.OneStage.{Doing, MayBe}
use Rattle.chain_run.specs.StageLaws.{Premise, premise, HasNews, WorksOn, HasWorked, StageLaws}
use Rattle.chain_run.proofs.QuietVisit.{silent}
use Rattle.chain_run.proofs.TurnLemmas.{list-ends}
use Rattle.chain_run.proofs.StepLemmas.{doing-more}
use Rattle.chain_run.proofs.RanLemmas.{so-far-up_to}
use Rattle.chain_run.proofs.StageVisit as stage

-- a stage that gives and reports nothing at first does as its rule says
first-quiet : (rules : List PluginRule) (input : StageList) (plugins k : ℕ) → (0 ≡ k → input.ended ≢ Some last_passed) → StageKeeps rules input plugins k (took start k) [] [] nothing_told
first-quiet rules input plugins zero no_last = record {
  list = record { gives = (input.cells, refl); ends = λ end e. cc; last_at_once = λ last. absurd (no_last refl last.ended) };
  agreement = tt;
}
first-quiet rules input plugins (suc j) no_last = record {
  list = record { gives = ([], refl); ends = λ end e. cc; last_at_once = λ last. (let e : None ≡ Some last_passed = last.ended in cc) };
  agreement = silent (rule_after rules j) [] 0 (0 + 0) (omega arith);
}

module _ {S K P : Type 0} (see : Seeing S K P) (laws : MachineLaws) where
  first : (begun : RunStart S K) (part : StagePart S K P) (k plugins : ℕ) (lists : PartLists) (known : Premise S K P) (input : StageList)
      → Doing see begun part k lists [] None 0 0 (λ _. []) (premise see begun known) → MayBe see begun part k lists input → StageKeeps begun.rules input plugins k (took start k) [] [] nothing_told
  first begun part k plugins lists known input doing may-be =
      first-quiet begun.rules input plugins k
      (λ first last. let is = (doing.input first).is_list input (may-be first) in let ends = list-ends see.source begun.from begun.stuffing input is in
      let how = ends.0 in let f = sym ends.1 ∙ last in cc)

  works : (begun : RunStart S K) (visits : List Visit) (k : ℕ) (old new : StagePart S K P) (lists : PartLists) (known : Premise S K P) (news : News) (window window_new : List Cell) (work : Work)
      → HasNews see begun visits k old lists known news → WorksOn see begun visits k old new news window window_new work → HasWorked see begun visits k old new lists (take work.done window_new) work
  works begun visits k old new lists known news window window_new work n o = record {
    after = (stage.w see begun laws n.valid visits n.run k n.is_stage old lists (premise see begun known) n.doing news n.told new (length window) o.in_hand window refl window_new o.same_length work o.worked o.window_is).after;
    doing = stage.done-now see begun laws n.valid visits n.run k n.is_stage old lists (premise see begun known) n.doing news n.told new (length window) o.in_hand window refl window_new o.same_length work o.worked o.window_is;
    less = stage.less see begun laws n.valid visits n.run k n.is_stage old lists (premise see begun known) n.doing news n.told new (length window) o.in_hand window refl window_new o.same_length work o.worked o.window_is;
    keeps = stage.keeps-all see begun laws n.valid visits n.run k n.is_stage old lists (premise see begun known) n.doing news n.told new (length window) o.in_hand window refl window_new o.same_length work o.worked o.window_is;
    allowed = stage.may-visit see begun laws n.valid visits n.run k n.is_stage old lists (premise see begun known) n.doing news n.told new (length window) o.in_hand window refl window_new o.same_length work o.worked o.window_is;
  }

  pub stage-laws : StageLaws see
  stage-laws = record {
    more = λ begun part k lists given ended low low_later taken taken_later before before_later known known_later. doing-more see begun part k lists given ended low low_later taken taken_later before before_later (premise see begun known) (premise see begun known_later);
    first = first;
    may_work = λ begun visits k part lists known news n. stage.may see begun laws n.valid visits n.run k n.is_stage part lists (premise see begun known) n.doing news n.told;
    works = works;
    so_far = λ begun input visits valid is_list kept run. so-far-up_to see begun valid laws input visits is_list kept run;
  }
