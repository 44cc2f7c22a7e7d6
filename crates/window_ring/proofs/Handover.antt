-- What the calls of one visit ensure, step by step, and what follows for the next call.
use Rattle.std.proofs.Common.{◌≡◌, ℕ, suc, ◌+◌, ◌-◌, ◌^◌, ◌<◌, ◌≤◌, ◌==◌, if◌then◌else◌, List, ◌∷◌, ◌++◌, length, take, drop, set, sym, refl, ap, ◌∙◌, subst, arith, length-take-le, length-drop, length-append}
use Rattle.std.proofs.lemmas.List.{get_or-set_other}
use Rattle.chain_core.specs.declared.core_plan.CorePlan.{CorePlan}
use Rattle.chain_core.specs.declared.news.News.{News}
use Rattle.chain_core.specs.declared.progress.Progress.{Progress}
use Rattle.chain_core.specs.declared.stage_word.StageWord.{StageWord}
use Rattle.chain_core.specs.Numbers.{UsersArePlugins}
use Rattle.chain_core.specs.Machine.{Visit, visit_of, visited, news_after, ChainState}
use Rattle.chain_core.specs.ChainRun.{ChainRun, state_after}
use Rattle.chain_core.specs.CoreNumbers.{StandsFor, progress_of_core}
use Rattle.chain_core.specs.Laws.{NewsHold, ChangesOneStage}
use Rattle.window_ring.specs.declared.state.State.{State}
use Rattle.window_ring.specs.declared.view.Key.{Key}
use Rattle.window_ring.specs.Hands.{Row, row_of, no_row}
use Rattle.window_ring.specs.Stands.{on_link, link, last_cells, waiting, behind}
use Rattle.window_ring.specs.Views.{land_of}
use Rattle.window_ring.specs.Visits.{MayGive, Handed, IsHandOf, giving}
use Rattle.window_ring.proofs.Fitting as fit
use Rattle.window_ring.proofs.Leaving as leave
use Rattle.window_ring.proofs.Handing as handing
use Rattle.window_ring.proofs.Visiting.{held, as_after}
use Rattle.window_ring.proofs.HandLemmas.{drop_past}

module _ {key : Key} {value : State} {history : List Visit} {hand : Row} {stage done : ℕ} {word : StageWord} (may : MayGive key value history hand stage done word) where
  abbrev v : Visit
  v = giving hand stage done word

  abbrev s : ChainState
  s = state_after key.plan history

  abbrev s2 : ChainState
  s2 = visited key.plan s v

  abbrev links : List Row
  links = value.links.items

  abbrev next : ℕ
  next = behind key.plan stage

  -- what the machine promises of the state before the visit and the one after it
  pub record Promised : Type 0 where
    pub hold : (k : ℕ) → NewsHold key.plan s k
    pub changes : ChangesOneStage key.plan s s2 v
    pub hold2 : (k : ℕ) → NewsHold key.plan s2 k

  pub promised : ((plan : CorePlan) (state : ChainState) (visit : Visit) → ChangesOneStage plan state (visited plan state visit) visit)
      → ((plan : CorePlan) (visits : List Visit) (k : ℕ) → UsersArePlugins plan → ChainRun plan visits → NewsHold plan (state_after plan visits) k) → Promised
  promised changes hold = record {
    hold = λ k. hold key.plan history k may.valid.users may.run;
    changes = changes key.plan s v;
    hold2 = held key.plan history v (λ k. hold key.plan (v ∷ history) k may.valid.users (may.run, may.allowed));
  }

  -- the hand is cut, and this is the link after the stage
  pub record Cut (front rest : Row) (after_it : ℕ) : Type 0 where
    pub front_is : front ≡ row_of hand.at hand.land (take done hand.cells)
    pub rest_is : rest ≡ row_of (hand.at + done) hand.land (drop done hand.cells)
    pub next_is : after_it ≡ next

  pub cut_of : (whole front rest : Row) (links_long n : ℕ) → whole ≡ hand → front ≡ row_of whole.at whole.land (take done whole.cells) → rest ≡ row_of (whole.at + done) whole.land (drop done whole.cells)
      → links_long ≡ value.links.len → n ≡ (if stage == links_long - 1 then 0 else suc stage) → Cut front rest n
  cut_of whole front rest links_long n all a b long is =
      let last : links_long - 1 ≡ suc key.plan.plugins = let c = may.stands.count in let o = value.links.ok.0 in omega (arith, long, c, o) in
      record {
        front_is = a ∙ ap (λ r. row_of r.at r.land (take done r.cells)) all;
        rest_is = b ∙ ap (λ r. row_of (r.at + done) r.land (drop done r.cells)) all;
        next_is = is ∙ ap (λ m. if stage == m then 0 else suc stage) last;
      }

  many : length v.cells ≡ done
  many = length-take-le done hand.cells may.done_within

  module _ (p : Promised) {front rest : Row} {n : ℕ} (cut : Cut front rest n) where
    -- the given cells go after those of the next link
    pub goes_after : (given : Row) → given ≡ row_of (if n == 0 then front.at + front.land.count else front.at) front.land front.cells
        → given.at ≡ (on_link links n).at + length (on_link links n).cells
    goes_after given is =
        ap (λ r. r.at) is ∙ (λ i. if n == 0 then (cut.front_is i).at + (cut.front_is i).land.count else (cut.front_is i).at)
        ∙ (λ i. if cut.next_is i == 0 then hand.at + (may.hand_is.same i).count else hand.at)
        ∙ fit.give_after key value history hand stage done word may p.hold ∙ (λ i. (on_link links (sym cut.next_is i)).at + length (on_link links (sym cut.next_is i)).cells)

    pub goes_in : (given : Row) → given ≡ row_of (if n == 0 then front.at + front.land.count else front.at) front.land front.cells
        → length (on_link links n).cells + length given.cells ≤ (on_link links n).land.count
    goes_in given is =
        let a : length (on_link links n).cells ≡ length (on_link links next).cells = ap (λ k. length (on_link links k).cells) cut.next_is in
        let l : length given.cells ≡ done = ap (λ r. length r.cells) is ∙ ap (λ r. length r.cells) cut.front_is ∙ many in
        let b : (on_link links n).land.count ≡ key.plan.buffer = ap (λ k. (on_link links k).land.count) cut.next_is ∙ ap (λ l. l.count) (fit.give_same key value history hand stage done word may p.hold ∙ may.hand_is.same) in
        let f = fit.give_fits key value history hand stage done word may p.hold in omega (arith, a, l, b, f)

    -- the link before the stage is as it was
    own : (pushed : List Row) (r : Row) → pushed ≡ set links n r → on_link pushed stage ≡ link value stage
    own pushed r is = ap (λ l. on_link l stage) is ∙ get_or-set_other links n stage r no_row (λ e. fit.apart key value history hand stage done word may p.hold (e ∙ cut.next_is))

    -- the news of the stage, and the links with the given cells
    pub record Told (news : News) (before : Progress) (pushed : List Row) : Type 0 where
      pub news_is : news ≡ news_after key.plan s v
      pub before_is : before.taken ≡ (s.stages stage).taken
      pub own_is : on_link pushed stage ≡ link value stage

    pub told : (news : News) (before : Progress) (pushed : List Row) (r : Row) → (StandsFor value.core s → news ≡ news_after value.core.plan s v) → before ≡ progress_of_core value.core stage → pushed ≡ set links n r → Told news before pushed
    told news before pushed r a b is = record {
      news_is = a may.stands.numbers ∙ ap (λ q. news_after q s v) may.stands.plan_is;
      before_is = ap (λ m. m.taken) (b ∙ may.stands.numbers.progress stage);
      own_is = own pushed r is;
    }

    -- no cell is taken back
    pub no_less : (news : News) (before : Progress) → (StandsFor value.core s → news ≡ news_after value.core.plan s v) → before ≡ progress_of_core value.core stage → before.taken ≤ news.taken
    no_less news before a b =
        let now : news.taken ≡ (s2.stages stage).taken = ap (λ m. m.taken) (a may.stands.numbers ∙ ap (λ q. news_after q s v) may.stands.plan_is) in
        let was : before.taken ≡ (s.stages stage).taken = ap (λ m. m.taken) (b ∙ may.stands.numbers.progress stage) in
        let less = p.changes.no_less in omega (arith, now, was, less)

    module _ {news : News} {before : Progress} {pushed : List Row} (t : Told news before pushed) where
      now : news.taken ≡ (s2.stages stage).taken
      now = ap (λ m. m.taken) t.news_is

      abbrev more : ℕ
      more = news.taken - before.taken

      pub waits : more ≤ length (on_link pushed stage).cells
      waits = let n = now in let b = t.before_is in let w = fit.within key value history hand stage done word may p.hold s2 p.changes p.hold2 stage refl in let o = ap (λ r. length r.cells) t.own_is in omega (arith, n, b, w, o)

      pub own_low : (on_link pushed stage).at + length (on_link pushed stage).cells < 2 ^ 63
      own_low = let a = fit.own_low key value history hand stage done word may p.hold stage may.allowed.is_stage in let o = ap (λ r. r.at + length r.cells) t.own_is in omega (arith, a, o)

      -- the cells taken go after the rest of the hand
      module _ (taken : Row) (is : taken ≡ row_of (on_link pushed stage).at (on_link pushed stage).land (take more (on_link pushed stage).cells)) where
        rest_long : length rest.cells ≡ length hand.cells - done
        rest_long = ap (λ r. length r.cells) cut.rest_is ∙ length-drop done hand.cells

        pub took : length taken.cells ≡ more
        took = ap (λ r. length r.cells) is ∙ length-take-le more (on_link pushed stage).cells waits

        pub comes_after : taken.at ≡ rest.at + length rest.cells
        comes_after =
            let d : length (drop done hand.cells) ≡ length hand.cells - done = length-drop done hand.cells in
            ap (λ r. r.at) is ∙ ap (λ r. r.at) t.own_is ∙ (fit.own_link key value history hand stage done word may p.hold stage may.allowed.is_stage).0
            ∙ fit.with_after key value history hand stage done word may p.hold s2 p.changes p.hold2 ∙ (λ i. (hand.at + done) + sym d i) ∙ ap (λ r. r.at + length r.cells) (sym cut.rest_is)

        pub same_land : taken.land ≡ rest.land
        same_land = ap (λ r. r.land) is ∙ ap (λ r. r.land) t.own_is ∙ (fit.own_link key value history hand stage done word may p.hold stage may.allowed.is_stage).1 ∙ sym may.hand_is.same ∙ ap (λ r. r.land) (sym cut.rest_is)

        pub fits : length rest.cells + length taken.cells ≤ rest.land.count
        fits =
            let n = now in let a = t.before_is in let d = rest_long in let k = took in
            let b : rest.land.count ≡ key.plan.buffer = ap (λ r. r.land.count) cut.rest_is ∙ ap (λ l. l.count) may.hand_is.same in
            let f = fit.with_fits key value history hand stage done word may p.hold s2 p.changes p.hold2 in omega (arith, d, k, b, f, n, a)

        -- all of it together: the value stands for one visit more, and the hand is that of the visited state
        pub handed : (new : State) (hand_new given : Row) → new.links.items ≡ set pushed stage (row_of ((on_link pushed stage).at + more) (on_link pushed stage).land (drop more (on_link pushed stage).cells))
            → pushed ≡ set links n (row_of (on_link links n).at (on_link links n).land ((on_link links n).cells ++ given.cells)) → given ≡ row_of (if n == 0 then front.at + front.land.count else front.at) front.land front.cells
            → hand_new ≡ row_of rest.at rest.land (rest.cells ++ taken.cells) → new.core.plan ≡ value.core.plan → (StandsFor value.core s → StandsFor new.core (visited value.core.plan s v)) → new.last ≡ record { stage = stage; done = done; word = word }
            → Handed key new history hand hand_new stage done word news
        handed new hand_new given pulls pushes given_is hand_is plan stands last =
            let cells : given.cells ≡ v.cells = ap (λ r. r.cells) given_is ∙ ap (λ r. r.cells) cut.front_is in
            let more_is : more ≡ (s2.stages stage).taken - (s.stages stage).taken = λ i. now i - t.before_is i in
            let at_next = cut.next_is in
            let pushed_is : pushed ≡ leave.pushed key value history hand stage done word may p.hold s2 p.changes p.hold2 = pushes ∙ (λ i. set links (at_next i) (row_of (on_link links (at_next i)).at (on_link links (at_next i)).land ((on_link links (at_next i)).cells ++ cells i))) in
            let pulled_is : new.links.items ≡ leave.pulled key value history hand stage done word may p.hold s2 p.changes p.hold2 = pulls ∙ (λ i. set (pushed_is i) stage (row_of ((on_link (pushed_is i) stage).at + more_is i) (on_link (pushed_is i) stage).land (drop (more_is i) (on_link (pushed_is i) stage).cells))) in
            let free = subst (λ l. leave.Free key value history hand stage done word may p.hold s2 p.changes p.hold2 (on_link l 0)) (sym pulled_is) (leave.new_free key value history hand stage done word may p.hold s2 p.changes p.hold2) in
            let items = new.links.items in
            let grown : length (s2.stages stage).given ≡ length (s.stages stage).given + done = ap length p.changes.given ∙ length-append (s.stages stage).given v.cells ∙ ap (λ k. length (s.stages stage).given + k) many in
            let long : length hand_new.cells ≡ length rest.cells + length taken.cells = ap (λ r. length r.cells) hand_is ∙ length-append rest.cells taken.cells in
            let place : hand_new.at ≡ hand.at + done = ap (λ r. r.at) hand_is ∙ ap (λ r. r.at) cut.rest_is in
            let at = may.hand_is.at in let all = may.hand_is.cells in let few = may.done_within in let less = p.changes.no_less in let d = rest_long in let k = took in let n = now in let b = t.before_is in
            record {
              stands = record {
                plan_is = plan ∙ may.stands.plan_is;
                numbers = as_after key.plan history v (λ st. StandsFor new.core st) (subst (λ q. StandsFor new.core (visited q s v)) may.stands.plan_is (stands may.stands.numbers));
                count = ap length pulled_is ∙ leave.pulled_long key value history hand stage done word may p.hold s2 p.changes p.hold2;
                links = λ j lt. as_after key.plan history v (λ st. on_link items (suc j) ≡ row_of (st.stages (suc j)).taken (land_of key) (waiting st j))
                    (ap (λ l. on_link l (suc j)) pulled_is ∙ handing.new_links key.plan s s2 v p.changes (land_of key) links may.stands.count may.allowed.is_stage (fit.linked key value history hand stage done word may p.hold) may.stands.links j lt);
                free_at = as_after key.plan history v (λ st. (on_link items 0).at ≡ (st.stages 0).taken) free.0;
                free_land = free.1;
                free_many = as_after key.plan history v (λ st. length (on_link items 0).cells + (st.stages 0).taken ≡ length (st.stages (suc key.plan.plugins)).given + key.plan.buffer) free.2;
              };
              last = (λ i. visit_of (last i).stage (last_cells (on_link items (behind key.plan (last i).stage)) (last i).done) (last i).word)
                  ∙ ap (λ l. visit_of stage l word) ((λ i. last_cells (on_link (pulled_is i) next) done) ∙ leave.last_cells key value history hand stage done word may p.hold s2 p.changes p.hold2);
              hand_is = as_after key.plan history v (λ st. IsHandOf st stage (land_of key) hand_new) (record {
                at = omega (arith, place, at, grown);
                cells = omega (arith, long, d, k, n, b, grown, all, few, less);
                same = ap (λ r. r.land) hand_is ∙ ap (λ r. r.land) cut.rest_is ∙ may.hand_is.same;
              });
              news_is = t.news_is;
              front = ap (λ r. take (length hand.cells - done) r.cells) hand_is ∙ leave.take_head rest.cells taken.cells (length hand.cells - done) (sym rest_long) ∙ ap (λ r. r.cells) cut.rest_is;
              fresh = λ j e.
                  let lt : j ≤ key.plan.plugins = let a = may.allowed.is_stage in omega (arith, a, e) in
                  let link_is : link value stage ≡ row_of (s.stages (suc j)).taken (land_of key) (waiting s j) = ap (link value) e ∙ may.stands.links j lt in
                  ap (λ r. drop (length hand.cells - done) r.cells) hand_is ∙ (drop_past rest.cells taken.cells (length hand.cells - done) 0 (omega (arith, d)) ∙ (ap (λ r. r.cells) is
                  ∙ ((λ i. take more (t.own_is i).cells) ∙ ((λ i. take more (link_is i).cells) ∙ (λ i. take (news.taken - t.before_is i) (drop (s.stages (sym e i)).taken (s.stages j).given))))));
            }
