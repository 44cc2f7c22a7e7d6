-- A plugin's work, put together from what it made of its window.
use Rattle.std.proofs.Common.{◌≡◌, ℕ, suc, ◌+◌, ◌<◌, ◌≤◌, if◌then◌else◌, Bool, true, false, List, [], ◌++◌, length, take, drop, refl, ap, sym, ◌∙◌, arith, append_assoc, append-nil, length-append, length-take, subst, Option, None, Some, is_some, inl, inr, take-append-drop}
use Rattle.std.proofs.lemmas.Bool.{cond-true, cond-false, lt-ltb, le-ltb, cases_lt}
use Rattle.std.proofs.lemmas.List.{take_at}
use Rattle.ts_packet.specs.declared.cell.Cell.{Cell}
use Rattle.chain_model.specs.Prefix.{IsPrefix}
use Rattle.chain_model.specs.PluginRule.{PluginRule}
use Rattle.chain_model.specs.Apply.{StageList, OwnEnd, last_passed, stopped, refused, apply, apply_after}
use Rattle.chain_model.specs.Joint.{agreement_of}
use Rattle.chain_model.proofs.ApplyLaws.{apply-ended, apply-last}
use Rattle.chain_model.proofs.PrefixLemmas.{IsPrefix-apply}
use Rattle.plugin_trait.specs.Driving.{Makes, end_of_window, made_so_far, TellsAgreement, newly_agreed}
use Rattle.plugin_trait.specs.Steps.{IsPreallocatedFor}
use Rattle.plugin_trait.specs.declared.list_end.ListEnd.{ListEnd}
use Rattle.plugin_trait.specs.declared.list_end.ListEnd.TheVariants.{Through}
use Rattle.plugin_trait.specs.declared.list_end.ListEnd.TheVariants as window
use Rattle.plugin_trait.proofs.Going.{behind}
use Rattle.chain_core.specs.declared.news.News.{News}
use Rattle.chain_core.specs.declared.stage_end.StageEnd.{StageEnd}
use Rattle.chain_core.specs.declared.stage_end.StageEnd.TheVariants.{Last, Stop, Refuse, NoMemory, Followed}
use Rattle.chain_core.specs.declared.stage_word.StageWord.{StageWord}
use Rattle.chain_core.specs.Keeps.{IsEndOf, EndsAs, KeepsList, KeepsAgreement}
use Rattle.stage_run.specs.declared.work.Work.{Work}
use Rattle.stage_run.specs.declared.plugin_stage.PluginStage.{PluginStage}
use Rattle.stage_run.specs.PartLists.{PartLists}
use Rattle.stage_run.specs.HeardSince.{HeardSince}
use Rattle.stage_run.specs.PartStands.{MayWork}
use Rattle.stage_run.specs.PluginSteps.{told_by}
use Rattle.stage_run.specs.PluginStands.{PluginStands, end_after_met}
use Rattle.stage_run.specs.Telling.{may_follow, followed, FollowsNews, told_of}
use Rattle.stage_run.specs.Works.{Works, PluginWorks, PluginTells}
use Rattle.plugin_trait.proofs.FarLemmas.{apply_after-append, apply_after-same_length}

-- an agreement that is reported is the one that holds, and is above what was given before
pub newly_agreed-Some : (before : ℕ) (a : Option ℕ) (n : ℕ) → newly_agreed before a ≡ Some n → (before < n) × (a ≡ Some n)
newly_agreed-Some before None n e = cc
newly_agreed-Some before (Some m) n e =
    elim (cases_lt before m) [
      | inl above ↦ (
        let t : newly_agreed before (Some m) ≡ Some m = cond-true _ _ _ (lt-ltb before m above) in let same : m ≡ n = cc in omega arith,
        sym (cond-true _ _ _ (lt-ltb before m above)) ∙ e,
      )
      | inr few ↦ (let t : newly_agreed before (Some m) ≡ None = cond-false _ _ _ (le-ltb before m few) in let no : None ≡ Some n = sym t ∙ e in cc)
    ]

newly_agreed-above : (before n : ℕ) → before < n → newly_agreed before (Some n) ≡ Some n
newly_agreed-above before n above = cond-true _ _ _ (lt-ltb before n above)

-- what the news let a stage report is what they say
pub FollowsNews-followed : (news : News) (now : ℕ) → FollowsNews news now (followed news now)
FollowsNews-followed news now = follows (may_follow news now) refl
  where
    follows : (b : Bool) → may_follow news now ≡ b → FollowsNews news now (if b then Some Followed else None)
    follows true e = e
    follows false e = e

pub FollowsNews-told : (end : ListEnd) (news : News) (now : ℕ) → FollowsNews news now (told_by end news now)
FollowsNews-told Through news now = FollowsNews-followed news now
FollowsNews-told window.Last news now = tt
FollowsNews-told window.Stop news now = tt
FollowsNews-told (window.Refuse reason) news now = tt
FollowsNews-told window.NoMemory news now = tt

-- a window that a plugin went through was made whole
pub through_all : (end : ListEnd) (news : News) (now : ℕ) (rule : PluginRule) (met cells made : List Cell) → Makes (apply_after rule met cells) made end
    → told_by end news now ≡ None → length made ≡ length cells
through_all Through news now rule met cells made makes none = ap length makes.0 ∙ apply_after-same_length rule met cells makes.1
through_all window.Last news now rule met cells made makes none = cc
through_all window.Stop news now rule met cells made makes none = cc
through_all (window.Refuse reason) news now rule met cells made makes none = cc
through_all window.NoMemory news now rule met cells made makes none = cc

end_same : (end : ListEnd) (news : News) (now : ℕ) → end_of_window end ≡ end_after_met (told_by end news now)
end_same Through news now = by_follow (may_follow news now)
  where
    by_follow : (b : Bool) → None ≡ end_after_met (if b then Some Followed else None)
    by_follow true = refl
    by_follow false = refl
end_same window.Last news now = refl
end_same window.Stop news now = refl
end_same (window.Refuse reason) news now = refl
end_same window.NoMemory news now = refl

module _ (rule : PluginRule) (met given cells made : List Cell) (done : ℕ) (end : ListEnd)
    (given_is : given ≡ (apply rule met).cells) (open_ : (apply rule met).ended ≡ None)
    (makes : Makes (apply_after rule met cells) made end)
    (far : apply_after rule met (take done cells) ≡ made_so_far made end) where
  -- what the rule makes of all cells in hand
  whole : apply rule (met ++ cells) ≡ behind given (apply_after rule met cells)
  whole =
      apply_after-append rule [] met cells open_
      ∙ ap (λ (l : List Cell). behind l (apply_after rule met cells)) (sym given_is)

  -- and of those that were met
  pub so_far : apply rule (met ++ take done cells) ≡ record { cells = given ++ made; ended = end_of_window end }
  so_far =
      apply_after-append rule [] met (take done cells) open_
      ∙ ap (λ (l : List Cell). behind l (apply_after rule met (take done cells))) (sym given_is)
      ∙ ap (behind given) far

  -- the rest after the cells that were met
  met_behind : (rest : List Cell) → met ++ (cells ++ rest) ≡ (met ++ take done cells) ++ (drop done cells ++ rest)
  met_behind rest =
      ap (λ (l : List Cell). met ++ (l ++ rest)) (sym (take-append-drop done cells))
      ∙ ap (λ (l : List Cell). met ++ l) (append_assoc (take done cells) (drop done cells) rest)
      ∙ sym (append_assoc met (take done cells) (drop done cells ++ rest))

  gives_prefix : (rest : List Cell) → IsPrefix (given ++ made) (apply rule (met ++ (cells ++ rest))).cells
  gives_prefix rest =
      subst (λ (l : List Cell). IsPrefix l (apply rule (met ++ (cells ++ rest))).cells) (ap (λ (l : StageList). l.cells) so_far)
      (IsPrefix-apply rule (met ++ take done cells) (met ++ (cells ++ rest)) (drop done cells ++ rest, met_behind rest))

  -- an own end that was met is that of every longer list
  own_end : (own : OwnEnd) (rest : List Cell) → made ≡ (apply_after rule met cells).cells → (apply_after rule met cells).ended ≡ Some own
      → IsEndOf (apply rule (met ++ (cells ++ rest))) (given ++ made) own
  own_end own rest all is =
      let ended : (apply rule (met ++ cells)).ended ≡ Some own = ap (λ (l : StageList). l.ended) whole ∙ is in
      let stays = apply-ended rule (met ++ cells) rest own ended in
      let same : (met ++ cells) ++ rest ≡ met ++ (cells ++ rest) = append_assoc met cells rest in
      record {
        ended = ap (λ (l : List Cell). (apply rule l).ended) (sym same) ∙ stays.1;
        whole = ap (λ (l : List Cell). given ++ l) all
            ∙ sym (ap (λ (l : StageList). l.cells) whole)
            ∙ sym stays.0
            ∙ ap (λ (l : List Cell). (apply rule l).cells) same;
      }

from_some : (plugins k : ℕ) (list : StageList) (given : List Cell) (y x : StageEnd) → Some y ≡ Some x → EndsAs plugins k list given y → EndsAs plugins k list given x
from_some plugins k list given y x e is =
    let same : y ≡ x = cc in
    subst (λ (z : StageEnd). EndsAs plugins k list given z) same is

followed_ends : (b : Bool) (plugins k : ℕ) (list : StageList) (given : List Cell) (x : StageEnd) → (if b then Some Followed else None) ≡ Some x → EndsAs plugins k list given x
followed_ends true plugins k list given x e = from_some plugins k list given Followed x e tt
followed_ends false plugins k list given x e = cc

-- what is reported of a window is an end of the stage's list
ends_by : (end : ListEnd) (window_list list : StageList) (made given : List Cell) (news : News) (now plugins k : ℕ) → Makes window_list made end
    → ((own : OwnEnd) → made ≡ window_list.cells → window_list.ended ≡ Some own → IsEndOf list given own)
    → (x : StageEnd) → told_by end news now ≡ Some x → EndsAs plugins k list given x
ends_by Through window_list list made given news now plugins k makes own x e = followed_ends (may_follow news now) plugins k list given x e
ends_by window.Last window_list list made given news now plugins k makes own x e = from_some plugins k list given Last x e (own last_passed makes.0 makes.1)
ends_by window.Stop window_list list made given news now plugins k makes own x e = from_some plugins k list given Stop x e (own stopped makes.0 makes.1)
ends_by (window.Refuse reason) window_list list made given news now plugins k makes own x e = from_some plugins k list given (Refuse reason) x e (own (refused reason) makes.0 makes.1)
ends_by window.NoMemory window_list list made given news now plugins k makes own x e = from_some plugins k list given NoMemory x e tt

last_told : (end : ListEnd) (news : News) (now : ℕ) → end_of_window end ≡ Some last_passed → told_by end news now ≡ Some Last
last_told Through news now e = cc
last_told window.Last news now e = refl
last_told window.Stop news now e = cc
last_told (window.Refuse reason) news now e = cc
last_told window.NoMemory news now e = cc

-- running out of memory is reported where the plugin ran out of it, and there alone
pub no_memory_told : (end : ListEnd) (news : News) (now : ℕ) → told_by end news now ≡ Some NoMemory → end ≡ window.NoMemory
no_memory_told Through news now e = absurd (by_follow (may_follow news now) e)
  where
    by_follow : (b : Bool) → (if b then Some Followed else None) ≡ Some NoMemory → ⊥
    by_follow true e = cc
    by_follow false e = cc
no_memory_told window.Last news now e = cc
no_memory_told window.Stop news now e = cc
no_memory_told (window.Refuse reason) news now e = cc
no_memory_told window.NoMemory news now e = refl

-- what there is room for, there is room for less of
pub preallocated_less : (preallocated : Option ℕ) (more less : ℕ) → less ≤ more → IsPreallocatedFor preallocated more → IsPreallocatedFor preallocated less
preallocated_less None more less le is = absurd is
preallocated_less (Some room) more less le is = omega arith

tells_followed : (b : Bool) (list : StageList) (given : List Cell) (news : News) → given ≡ list.cells → list.ended ≡ None → may_follow news (length given) ≡ b
    → PluginTells list given news (if b then Some Followed else None)
tells_followed true list given news all none e = (all, sym (cond-true _ _ _ e) ∙ ap (λ (o : Option OwnEnd). told_of o news (length given)) (sym none))
tells_followed false list given news all none e = (all, sym (cond-false _ _ _ e) ∙ ap (λ (o : Option OwnEnd). told_of o news (length given)) (sym none))

-- what is reported, by how the window was left
tells_by : (end : ListEnd) (window_list list : StageList) (before made : List Cell) (news : News) → list ≡ behind before window_list → Makes window_list made end
    → PluginTells list (before ++ made) news (told_by end news (length (before ++ made)))
tells_by Through window_list list before made news is makes =
    tells_followed (may_follow news (length (before ++ made))) list (before ++ made) news
    (ap (λ (l : List Cell). before ++ l) makes.0 ∙ sym (ap (λ (l : StageList). l.cells) is)) (ap (λ (l : StageList). l.ended) is ∙ makes.1) refl
tells_by window.Last window_list list before made news is makes = (
  ap (λ (l : List Cell). before ++ l) makes.0 ∙ sym (ap (λ (l : StageList). l.cells) is),
  ap (λ (o : Option OwnEnd). told_of o news (length (before ++ made))) (sym (ap (λ (l : StageList). l.ended) is ∙ makes.1)),
)
tells_by window.Stop window_list list before made news is makes = (
  ap (λ (l : List Cell). before ++ l) makes.0 ∙ sym (ap (λ (l : StageList). l.cells) is),
  ap (λ (o : Option OwnEnd). told_of o news (length (before ++ made))) (sym (ap (λ (l : StageList). l.ended) is ∙ makes.1)),
)
tells_by (window.Refuse reason) window_list list before made news is makes = (
  ap (λ (l : List Cell). before ++ l) makes.0 ∙ sym (ap (λ (l : StageList). l.cells) is),
  ap (λ (o : Option OwnEnd). told_of o news (length (before ++ made))) (sym (ap (λ (l : StageList). l.ended) is ∙ makes.1)),
)
tells_by window.NoMemory window_list list before made news is makes = (
  makes.0,
  ap (λ (l : StageList). l.cells) is ∙ ap (λ (l : List Cell). before ++ l) makes.1 ∙ sym (append_assoc before made makes.0),
)

-- the lists of a plugin that met and gave these cells more
abbrev pub lists_met : PartLists → List Cell → List Cell → ℕ → PartLists
lists_met lists cells given mark = record {
  met = lists.met ++ cells;
  given = lists.given ++ given;
  read = lists.read;
  cut = lists.cut;
  source = lists.source;
  sink = lists.sink;
  mark = mark;
  from = lists.from;
}

-- what is reported of a window
abbrev pub plugin_work : ℕ → Option ℕ → ListEnd → News → ℕ → Work
plugin_work done agreed end news now = record { done = done; word = record { agreed = agreed; ended = told_by end news now } }

module _ {P : Type 0} (rule_at : P → PluginRule) (stands : P → List Cell → ℕ → Type 0) where
  pub plugin_works : (old new : PluginStage P) (lists : PartLists) (news : News) (cells cells_new : List Cell) (at written done : ℕ) (agreed : Option ℕ) (end : ListEnd)
      → MayWork (PluginStands rule_at stands old) at written lists → rule_at new.heard.plugin ≡ rule_at old.heard.plugin
      → length cells_new ≡ length cells → done ≤ length cells
      → Makes (apply_after (rule_at old.heard.plugin) lists.met cells) (take done cells_new) end
      → apply_after (rule_at old.heard.plugin) lists.met (take done cells) ≡ made_so_far (take done cells_new) end
      → (mark : ℕ) → HeardSince rule_at stands lists.from new.heard (lists.met ++ take done cells) mark → mark ≤ written
      → (0 < length cells → (end ≡ window.NoMemory → ⊥) → mark ≡ news.written)
      → TellsAgreement (rule_at old.heard.plugin) (lists.met ++ take done cells) at agreed new.agreed
      → Works (PluginStands rule_at stands new) (PluginWorks (rule_at old.heard.plugin) lists news cells cells_new (plugin_work done agreed end news (at + done))) lists written cells cells_new (plugin_work done agreed end news (at + done))
  plugin_works old new lists news cells cells_new at written done agreed end may same_rule long few makes far mark holds below marked tells =
      let rule : PluginRule = rule_at old.heard.plugin in
      let was : PluginStands rule_at stands old lists None = may.goes_on in
      let made : List Cell = take done cells_new in
      let met : List Cell = lists.met ++ take done cells in
      let given_is : length lists.given ≡ at = may.given in
      let met_is : length lists.met ≡ at = sym was.length_same ∙ given_is in
      let made_long : length made ≡ done = omega (arith, length-take done cells_new) in
      let cells_long : length (take done cells) ≡ done = omega (arith, length-take done cells) in
      let now_is : length (lists.given ++ made) ≡ at + done = omega (arith, length-append lists.given made) in
      let all = so_far rule lists.met lists.given cells made done end was.given was.ended makes far in
      let whole_is = whole rule lists.met lists.given cells made done end was.given was.ended makes far in
      let word : StageWord = record { agreed = agreed; ended = told_by end news (at + done) } in
      let told_here : told_by end news (length (lists.given ++ made)) ≡ told_by end news (at + done) = ap (told_by end news) now_is in
      let tells_here : agreed ≡ newly_agreed (length lists.given) (agreement_of rule met) = tells.tells ∙ ap (λ (n : ℕ). newly_agreed n (agreement_of rule met)) (sym given_is) in
      record {
        after = lists_met lists (take done cells) made mark;
        behind = record { met = refl; given = refl; read = ([], sym (append-nil lists.read)); source = refl; sink = refl; mark = below; from = refl };
        stands = record {
          heard = holds;
          given = sym (ap (λ (l : StageList). l.cells) all) ∙ ap (λ (r : PluginRule). (apply r met).cells) (sym same_rule);
          length_same = omega (arith, length-append lists.given made, length-append lists.met (take done cells));
          ended = ap (λ (r : PluginRule). (apply r met).ended) same_rule ∙ ap (λ (l : StageList). l.ended) all ∙ end_same end news (at + done);
          agreed = tells.notes ∙ ap (λ (r : PluginRule). is_some (agreement_of r met)) (sym same_rule);
        };
        does = record {
          tells = subst (λ (t : Option StageEnd). PluginTells (apply rule (lists.met ++ cells)) (lists.given ++ made) news t) told_here
              (tells_by end (apply_after rule lists.met cells) (apply rule (lists.met ++ cells)) lists.given made news whole_is makes);
          agreed = tells_here;
          told = λ some fine. marked some (λ e. fine (ap (λ (x : ListEnd). told_by x news (at + done)) e));
          keeps = λ plugins j rules input rest e.
              let took : List Cell = lists.met ++ (cells ++ rest) in
              let now : ℕ = length lists.given + length made in
              let taken : take now took ≡ met =
              ap (take now) (met_behind rule lists.met lists.given cells made done end was.given was.ended makes far rest)
              ∙ take_at met (drop done cells ++ rest) now (omega (arith, length-append lists.met (take done cells))) in
              let list : KeepsList plugins (suc j) (apply rule took) (lists.given ++ made) word.ended = record {
                gives = gives_prefix rule lists.met lists.given cells made done end was.given was.ended makes far rest;
                ends = ends_by end (apply_after rule lists.met cells) (apply rule took) made (lists.given ++ made) news (at + done) plugins (suc j) makes
                    (λ own is ended. own_end rule lists.met lists.given cells made done end was.given was.ended makes far own rest is ended);
                last_at_once = λ last.
                    let split : took ≡ met ++ (drop done cells ++ rest) = met_behind rule lists.met lists.given cells made done end was.given was.ended makes far rest in
                    let ended : (apply rule (met ++ (drop done cells ++ rest))).ended ≡ Some last_passed =
                    ap (λ (l : List Cell). (apply rule l).ended) (sym split) ∙ last.ended in
                    let cells_same : (apply rule (met ++ (drop done cells ++ rest))).cells ≡ (apply rule met).cells =
                    ap (λ (l : List Cell). (apply rule l).cells) (sym split) ∙ sym last.whole ∙ sym (ap (λ (l : StageList). l.cells) all) in
                    let here = apply-last rule met (drop done cells ++ rest) ended (omega (arith, ap length cells_same)) in
                    last_told end news (at + done) (sym (ap (λ (l : StageList). l.ended) all) ∙ here);
              } in
              let agreement : KeepsAgreement rule (take now took) (length lists.given) agreed = record {
                truly = λ n told. ap (agreement_of rule) taken ∙ (newly_agreed-Some (length lists.given) (agreement_of rule met) n (sym tells_here ∙ told)).1;
                at_once = λ n agrees above.
                    tells_here
                    ∙ ap (newly_agreed (length lists.given)) (sym (ap (agreement_of rule) taken) ∙ agrees)
                    ∙ newly_agreed-above (length lists.given) n above;
              } in
              record {
                list = subst (λ (r : PluginRule). KeepsList plugins (suc j) (apply r took) (lists.given ++ made) word.ended) (sym e) list;
                agreement = subst (λ (r : PluginRule). KeepsAgreement r (take now took) (length lists.given) agreed) (sym e) agreement;
              };
        };
      }
