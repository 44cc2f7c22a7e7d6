-- One turn of a stage: its visit, and what it stands for after it.
use Rattle.std.proofs.Common.{◌≡◌, ℕ, suc, ◌+◌, ◌-◌, ◌≤◌, List, [], ◌∷◌, ◌++◌, length, take, drop, None, sym, ap, ◌∙◌, subst, arith, length-append, length-drop, append-nil, append_assoc, le_trans}
use Rattle.std.specs.Prelude.{IsSome}
use Rattle.std.proofs.lemmas.List.{take-append-drop, drop-drop, length-take, drop-take, take-append-le}
use Rattle.std.proofs.Math.Seq.{take-add, drop-append-le}
use Rattle.cell_land.specs.declared.cell_window.Bases.{Bases}
use Rattle.ts_packet.specs.declared.cell.Cell.{Cell}
use Rattle.chain_model.specs.PluginRule.{PluginRule}
use Rattle.chain_model.specs.Apply.{StageList}
use Rattle.chain_core.specs.declared.core_plan.CorePlan.{CorePlan}
use Rattle.chain_core.specs.declared.news.News.{News}
use Rattle.chain_core.specs.declared.stage_word.StageWord.{StageWord}
use Rattle.chain_core.specs.Numbers.{written_of, news_of}
use Rattle.chain_core.specs.Machine.{ChainState, StageState, Visit, progress_of_stages, visit_of, Allowed}
use Rattle.chain_core.specs.ChainRun.{ChainRun, state_after}
use Rattle.chain_core.specs.Keeps.{Keeps}
use Rattle.chain_core.specs.Laws.{ChangesOneStage}
use Rattle.stage_run.specs.declared.stage_part.StagePart.{StagePart}
use Rattle.stage_run.specs.declared.work.Work.{Work}
use Rattle.stage_run.specs.PartLists.{PartLists}
use Rattle.chain_run.specs.Runs.{RunStart}
use Rattle.chain_run.proofs.KindLemmas.{rests-kept}
use Rattle.chain_run.specs.Laws.{MachineLaws}
use Rattle.chain_run.specs.StageLaws.{HasNews, HasWorked}
use Rattle.chain_run.specs.StageLaws.Premise.{HeldSoFar}
use Rattle.chain_threads.specs.RunLaws.{RunLaws}
use Rattle.chain_threads.proofs.Numbers.{change, given-more, taken-given, after-visit}
use Rattle.atomic_table.specs.Seated.{TableId}
use Rattle.window_ring.specs.declared.stage_seat.StageSeat.{StageSeat}
use Rattle.window_ring.specs.Views.{NoneOf}
use Rattle.window_ring.specs.Visits.{giving}
use Rattle.window_ring.specs.Seats.{seen_of, seen_in, Went}
use Rattle.window_ring.specs.OneRun.{KeptBy}
use Rattle.window_ring.specs.Seats.{IsSeat}
use Rattle.window_ring.specs.Seats.{busy_of}
use Rattle.chain_run.specs.OneStage.{SoFarUpTo, Doing, MayBe}
use Rattle.chain_threads.specs.Standing.{key_at, gave_by, Standing, Over, StandsAt, IsOver}
use Rattle.chain_threads.specs.Turning.{HandWorks}
use Rattle.stage_run.specs.Seeing.{Seeing}
use Rattle.stage_run.specs.PartStands.{PartStands, MayWorkOnSome}
use Rattle.stage_run.specs.Works.{PartWork}
use Rattle.window_ring.specs.Views.{at_rest, land_of}
use Rattle.window_ring.specs.Visits.{IsHandOf}
use Rattle.std.proofs.Common.{◌^◌}
use Rattle.std.proofs.lemmas.List.{take-take, take_all}

kept_over : (plan : CorePlan) (rules : List PluginRule) (input : StageList) (k : ℕ) (between seen : List Visit) → NoneOf k between → KeptBy plan rules input k seen → KeptBy plan rules input k (between ++ seen)
kept_over plan rules input k [] seen none kept = kept
kept_over plan rules input k (v ∷ vs) seen none kept = (kept_over plan rules input k vs seen none.1 kept, λ e. absurd (none.0 e))

module _ (laws : MachineLaws) (plan : CorePlan) (users : Rattle.chain_core.specs.Numbers.UsersArePlugins plan) where
  pub grows_over : (between seen : List Visit) → ChainRun plan (between ++ seen) → written_of plan (progress_of_stages (state_after plan seen)) ≤ written_of plan (progress_of_stages (state_after plan (between ++ seen)))
  grows_over [] seen run = omega arith
  grows_over (v ∷ vs) seen run = le_trans (grows_over vs seen run.0) (laws.grow plan (vs ++ seen) v users run).written

  pub more_over : (between seen : List Visit) → ChainRun plan (between ++ seen) → (j : ℕ) → (more : List Cell) × (((state_after plan (between ++ seen)).stages j).given ≡ ((state_after plan seen).stages j).given ++ more)
  more_over [] seen run j = ([], sym (append-nil ((state_after plan seen).stages j).given))
  more_over (v ∷ vs) seen run j =
      let a = more_over vs seen run.0 j in let b = given-more laws plan (vs ++ seen) v j in
      (a.0 ++ b.0, b.1 ∙ (ap (λ (l : List Cell). l ++ b.0) a.1 ∙ append_assoc ((state_after plan seen).stages j).given a.0 b.0))

  pub keeps_over : (rules : List PluginRule) (input : StageList) (other : Visit) (between seen : List Visit) → NoneOf other.stage between → ChainRun plan (between ++ seen) → Keeps plan rules input (state_after plan seen) other → Keeps plan rules input (state_after plan (between ++ seen)) other
  keeps_over rules input other [] seen none run k = k
  keeps_over rules input other (v ∷ vs) seen none run k = (laws.leaves plan (vs ++ seen) v users run).keeps rules input other (λ e. none.0 (sym e)) (keeps_over rules input other vs seen none.1 run.0 k)

module _ {S K P : Type 0} (see : Seeing S K P) (begun : RunStart S K) where
  module _ (laws : RunLaws see) (base : Bases) (table : TableId) (old new : StageSeat) (part : StagePart S K P) (done : ℕ) (word : StageWord) (st : StandsAt see begun base table old part done word)
      (news : News) (w : Went (key_at begun base) old new done word news) where
    abbrev k : ℕ
    k = old.stage

    abbrev plan : CorePlan
    plan = begun.plan

    abbrev seen : List Visit
    seen = seen_of old

    abbrev v : Visit
    v = giving old.hand k done word

    abbrev h : List Visit
    h = w.between ++ seen

    abbrev now : List Visit
    now = v ∷ h

    abbrev s : ChainState
    s = state_after plan seen

    abbrev sh : ChainState
    sh = state_after plan h

    abbrev s2 : ChainState
    s2 = state_after plan now

    abbrev at : ℕ
    at = length (s.stages k).given

    ch : ChangesOneStage plan sh s2 v
    ch = change laws.machine plan h v

    same_k : sh.stages k ≡ s.stages k
    same_k = laws.seats.stays plan k w.between seen st.run.valid.users w.of_others

    pub given-now : (s2.stages k).given ≡ (s.stages k).given ++ take done old.hand.cells
    given-now = ch.given ∙ ap (λ (z : StageState). z.given ++ take done old.hand.cells) same_k

    pub ended-now : (s2.stages k).ended ≡ word.ended
    ended-now = ch.ended

    hand-count : length old.hand.cells + at ≡ (s.stages k).taken
    hand-count = st.seat_is.hand_is.cells

    given-many : length ((s.stages k).given ++ take done old.hand.cells) ≡ at + done
    given-many = let d = st.standing.done_within in omega (arith, length-append (s.stages k).given (take done old.hand.cells), length-take done old.hand.cells)

    taken-same : (sh.stages k).taken ≡ (s.stages k).taken
    taken-same = ap (λ (z : StageState). z.taken) same_k

    taken-more : (s.stages k).taken ≤ (s2.stages k).taken
    taken-more = let a = ch.no_less in let b = taken-same in omega (arith, a, b)

    -- what the stage before has given by now
    before-now : (j : ℕ) → suc j ≡ k → (more : List Cell) × ((s2.stages j).given ≡ (s.stages j).given ++ more)
    before-now j e = let m = more_over laws.machine plan st.run.valid.users w.between seen w.run.0 j in (m.0, ap (λ (z : StageState). z.given) (ch.others j (λ f. absurd (omega (arith, e, f)))) ∙ m.1)

    within-before : (j : ℕ) → suc j ≡ k → (s.stages k).taken ≤ length (s.stages j).given
    within-before j e = subst (λ i. (s.stages i).taken ≤ length (s.stages j).given) e (taken-given laws.machine plan st.run.valid.users seen st.seat_is.run j)

    so_far_less : (input : StageList) → SoFarUpTo plan begun.rules now input → SoFarUpTo plan begun.rules seen input
    so_far_less input all = λ x q e. all (v ∷ (w.between ++ x)) q (ap (λ (l : List Visit). v ∷ l) (ap (λ (l : List Visit). w.between ++ l) e ∙ sym (append_assoc w.between x q)))

    abbrev lists : PartLists
    lists = st.standing.lists

    pub doing-now : Doing see begun part k lists (s2.stages k).given word.ended (written_of plan (progress_of_stages s2)) (s2.stages k).taken (λ j. (s2.stages j).given) (SoFarUpTo plan begun.rules now)
    doing-now =
        let more = laws.stages.more begun part k lists ((s.stages k).given ++ take done old.hand.cells) word.ended (written_of plan (progress_of_stages s)) (written_of plan (progress_of_stages s2)) (s.stages k).taken (s2.stages k).taken (gave_by see begun seen) (λ j. (s2.stages j).given) (HeldSoFar seen) (HeldSoFar now)
        (le_trans (grows_over laws.machine plan st.run.valid.users w.between seen w.run.0) (laws.machine.grow plan h v st.run.valid.users w.run).written) taken-more
        (λ j e. let b = before-now j e in (b.0, b.1, (let a = given-many in let c = within-before j e in let d = st.standing.done_within in let n = hand-count in omega (arith, a, c, d, n))))
        so_far_less st.standing.doing in
        subst (λ (g : List Cell). Doing see begun part k lists g word.ended (written_of plan (progress_of_stages s2)) (s2.stages k).taken (λ j. (s2.stages j).given) (SoFarUpTo plan begun.rules now)) (sym given-now) more

    pub kept-now : (input : StageList) → MayBe see begun part k lists input → KeptBy plan begun.rules input k now
    kept-now input may-be = (kept_over plan begun.rules input k w.between seen w.of_others (st.standing.kept input may-be), λ e. keeps_over laws.machine plan st.run.valid.users begun.rules input v w.between seen w.of_others w.run.0 (st.standing.keeps input may-be))

    -- the cells in hand now
    pub content-now : (j : ℕ) → k ≡ suc j → new.hand.cells ≡ take ((s2.stages k).taken - length (s2.stages k).given) (drop (length (s2.stages k).given) (s2.stages j).given)
    content-now j e =
        let b = before-now j (sym e) in let g : ℕ = at + done in let T : ℕ = (s.stages k).taken in let T2 : ℕ = (s2.stages k).taken in let A : List Cell = (s2.stages j).given in
        let size : length (s2.stages k).given ≡ g = ap (λ (l : List Cell). length l) given-now ∙ given-many in
        let few : g ≤ T = let d = st.standing.done_within in let n = hand-count in omega (arith, d, n) in
        let far = within-before j (sym e) in
        let first : drop done old.hand.cells ≡ take (T - g) (drop g A) =
        st.standing.content j e ∙ sym (ap (λ (l : List Cell). take (T - g) (drop g l)) b.1 ∙ (ap (take (T - g)) (drop-append-le g (s.stages j).given b.0 (omega (arith, few, far))) ∙ take-append-le (T - g) (drop g (s.stages j).given) b.0 (let l = length-drop g (s.stages j).given in omega (arith, l, few, far)))) in
        let n : ℕ = length old.hand.cells - done in
        let behind : (sh.stages j).given ≡ A = sym (ap (λ (z : StageState). z.given) (ch.others j (λ f. absurd (omega (arith, e, f))))) in
        let told : news.taken ≡ T2 = ap (λ (x : News). x.taken) w.news_is ∙ ap (λ (z : ChainState). (z.stages k).taken) (sym (after-visit plan h v)) in
        let second : drop n new.hand.cells ≡ take (T2 - T) (drop T A) = w.fresh j e ∙ (λ i. take (told i - taken-same i) (drop (taken-same i) (behind i))) in
        let on : (T - g) + g ≡ T = omega (arith, few) in
        let third : take (T2 - T) (drop T A) ≡ take (T2 - T) (drop (T - g) (drop g A)) = ap (take (T2 - T)) (sym (drop-drop (T - g) g A ∙ ap (λ m. drop m A) (let o : g + (T - g) ≡ T = omega (arith, few) in o))) in
        let sum : (T - g) + (T2 - T) ≡ T2 - g = let m = taken-more in omega (arith, few, m) in
        (sym (take-append-drop n new.hand.cells) ∙ (λ i. (w.front ∙ first) i ++ (second ∙ third) i))
        ∙ (sym (take-add (T - g) (T2 - T) (drop g A)) ∙ (ap (λ m. take m (drop g A)) sum ∙ (λ i. take (T2 - sym size i) (drop (sym size i) A))))

    told-now : news ≡ news_of plan (progress_of_stages s2) k
    told-now = w.news_is ∙ ap (λ (z : ChainState). news_of plan (progress_of_stages z) k) (sym (after-visit plan h v))

    place : new.hand.at ≡ length (s2.stages k).given
    place = w.hand_is.at

    count-now : length new.hand.cells + length (s2.stages k).given ≡ (s2.stages k).taken
    count-now = w.hand_is.cells

    taken-now : news.taken ≡ (s2.stages k).taken
    taken-now = ap (λ (x : News). x.taken) told-now

    seen-now : seen_of new ≡ now
    seen-now = ap (λ me. seen_in me.0.held) w.rests

    -- the visit was made
    pub made-now : (between : List Visit) × NoneOf k between × (seen_of new ≡ v ∷ (between ++ seen)) × (busy_of new ≡ [])
    made-now = (w.between, w.of_others, seen-now, ap (λ me. me.0.busy) w.rests)

    pub made-later : (seat3 : StageSeat) → seat3.seat ≡ new.seat → (between : List Visit) × NoneOf k between × (seen_of seat3 ≡ v ∷ (between ++ seen)) × (busy_of seat3 ≡ [])
    made-later seat3 same = (w.between, w.of_others, ap (λ x. seen_in x.me.0.held) same ∙ seen-now, ap (λ x. x.me.0.busy) same ∙ ap (λ me. me.0.busy) w.rests)

    module _ (stage : new.stage ≡ k) (of_table : new.seat.table_id ≡ old.seat.table_id) where
      seat-now : IsSeat (key_at begun base) table new
      seat-now = laws.seats.again (key_at begun base) table old new done word news w stage of_table st.seat_is

      -- a stage that reported its end has ended
      pub over-now : IsSome word.ended → IsOver see begun base table new part
      over-now some =
          let o : Over see begun k now part = record {
            lists = lists;
            ended = subst IsSome (sym ended-now) some;
            doing = subst (λ e. Doing see begun part k lists (s2.stages k).given e (written_of plan (progress_of_stages s2)) (s2.stages k).taken (λ j. (s2.stages j).given) (SoFarUpTo plan begun.rules now)) (sym ended-now) doing-now;
            kept = kept-now;
          } in
          record {
            run = st.run;
            is_stage = subst (λ i. i ≤ suc plan.plugins) (sym stage) st.is_stage;
            seat_is = seat-now;
            over = subst (λ l. Over see begun new.stage l part) (sym seen-now) (subst (λ i. Over see begun i now part) (sym stage) o);
          }

      -- and one that goes on works
      module _ (none : word.ended ≡ None) where
        open_ : (s2.stages k).ended ≡ None
        open_ = ended-now ∙ none

        going : Doing see begun part k lists (s2.stages k).given None (written_of plan (progress_of_stages s2)) (s2.stages k).taken (λ j. (s2.stages j).given) (SoFarUpTo plan begun.rules now)
        going = subst (λ e. Doing see begun part k lists (s2.stages k).given e (written_of plan (progress_of_stages s2)) (s2.stages k).taken (λ j. (s2.stages j).given) (SoFarUpTo plan begun.rules now)) none doing-now

        has-news : HasNews see begun now k part lists (HeldSoFar now) news
        has-news = record { valid = st.run; run = w.run; is_stage = st.is_stage; doing = going; told = told-now }

        pub may-work : MayWorkOnSome (PartStands see part) new.hand.at news.written
        may-work = subst (λ n. MayWorkOnSome (PartStands see part) n news.written) (sym place)
            (record { lists = lists; may = laws.stages.may_work begun now k part lists (HeldSoFar now) news has-news })

        pub work-written : news.written ≤ new.hand.at
        work-written = subst (λ n. news.written ≤ n) (sym place) (let a = (laws.machine.hold plan now k st.run.valid.users w.run).written_within st.is_stage in let b = ap (λ (n : News). n.written) told-now in omega (arith, a, b))

        pub work-in_hand : new.hand.at + length new.hand.cells ≤ news.taken
        work-in_hand = let a = place in let b = count-now in let c = taken-now in omega (arith, a, b, c)

        pub work-in_range : news.taken ≤ 2 ^ 60
        work-in_range = let a = taken-now in let b = (laws.machine.hold plan now k st.run.valid.users w.run).taken_below in omega (arith, a, b)

        pub work-fits : length new.hand.cells ≤ new.hand.land.count
        work-fits = subst (λ (l : Rattle.cell_land.specs.Cells.CellLand). length new.hand.cells ≤ l.count) (sym w.hand_is.same)
            (let a = (laws.machine.hold plan now k st.run.valid.users w.run).taken_ahead in let b = (laws.machine.hold plan now k st.run.valid.users w.run).written_within st.is_stage in let c = count-now in omega (arith, a, b, c))

        module _ (seat3 : StageSeat) (part3 : StagePart S K P) (work : Work) (hw : HandWorks see part part3 new.hand seat3.hand news work) (same : seat3.seat ≡ new.seat) (stage3 : seat3.stage ≡ new.stage) where
          len : ℕ
          len = length hw.window

          hand-long : length new.hand.cells ≡ length hw.window + length hw.rest
          hand-long = ap length hw.cells ∙ length-append hw.window hw.rest

          in_hand : length (s2.stages k).given + length hw.window ≤ news.taken
          in_hand = let a = count-now in let b = taken-now in let c = hand-long in omega (arith, a, b, c)

          worked : PartWork see part part3 (length (s2.stages k).given) news hw.window hw.window_new work
          worked = subst (λ n. PartWork see part part3 n news hw.window hw.window_new work) place hw.worked

          window-is : (j : ℕ) → suc j ≡ k → hw.window ≡ take (length hw.window) (drop (length (s2.stages k).given) (s2.stages j).given)
          window-is j e =
              let front : take (length hw.window) new.hand.cells ≡ hw.window = ap (take (length hw.window)) hw.cells ∙ (take-append-le (length hw.window) hw.window hw.rest (omega arith) ∙ take_all (length hw.window) hw.window (omega arith)) in
              sym front ∙ (ap (take (length hw.window)) (content-now j (sym e)) ∙ take-take (length hw.window) ((s2.stages k).taken - length (s2.stages k).given) (drop (length (s2.stages k).given) (s2.stages j).given) (let a = count-now in let c = hand-long in omega (arith, a, c)))

          few : work.done ≤ length hw.window_new
          few = let a = worked.stage.done in let b = hw.same_length in omega (arith, a, b)

          gives : take work.done hw.window_new ≡ take work.done seat3.hand.cells
          gives = sym (ap (take work.done) hw.cells_new ∙ take-append-le work.done hw.window_new hw.rest few)

          content3 : (j : ℕ) → k ≡ suc j → drop work.done seat3.hand.cells ≡ take ((s2.stages k).taken - (length (s2.stages k).given + work.done)) (drop (length (s2.stages k).given + work.done) (s2.stages j).given)
          content3 j e =
              let g : ℕ = length (s2.stages k).given in let A : List Cell = (s2.stages j).given in let m : ℕ = (s2.stages k).taken - (g + work.done) in
              let sum : (s2.stages k).taken - g ≡ work.done + m = let a = count-now in let c = hand-long in let d = few in let b = hw.same_length in omega (arith, a, c, d, b) in
              ap (drop work.done) hw.cells_new ∙ (drop-append-le work.done hw.window_new hw.rest few ∙ (ap (λ (l : List Cell). l ++ hw.rest) (rests-kept part part3 (drop work.done hw.window) (drop work.done hw.window_new) plan.plugins j worked.same_kind (let a = st.is_stage in omega (arith, a, e))
              (λ lt. (going.plugin j (sym e) lt).kind) (λ last. (going.output (ap suc (sym last) ∙ sym e)).kind) worked.stage.rest)
              ∙ (sym (drop-append-le work.done hw.window hw.rest worked.stage.done) ∙ (ap (drop work.done) (sym hw.cells ∙ content-now j e)
              ∙ (ap (λ n. drop work.done (take n (drop g A))) sum ∙ (drop-take work.done m (drop g A) ∙ ap (take m) (drop-drop work.done g A)))))))

          has-worked : HasWorked see begun now k part part3 lists (take work.done hw.window_new) work
          has-worked = laws.stages.works begun now k part part3 lists (HeldSoFar now) news hw.window hw.window_new work has-news
              (record { in_hand = in_hand; same_length = hw.same_length; worked = worked; window_is = window-is })

          standing3 : Standing see begun k now seat3.hand part3 work.done work.word
          standing3 = record {
            lists = has-worked.after;
            done_within = (let a = few in let b = ap length hw.cells_new ∙ length-append hw.window_new hw.rest in omega (arith, a, b));
            allowed = subst (λ (l : List Cell). Allowed plan s2 (visit_of k l work.word)) gives
                (has-worked.allowed open_ ch.told);
            doing = subst (λ (l : List Cell). Doing see begun part3 k has-worked.after ((s2.stages k).given ++ l) work.word.ended (written_of plan (progress_of_stages s2)) (s2.stages k).taken (λ j. (s2.stages j).given) (SoFarUpTo plan begun.rules now)) gives
                has-worked.doing;
            kept = λ input may-be. kept-now input (has-worked.less input may-be);
            keeps = λ input may-be. subst (λ (l : List Cell). Keeps plan begun.rules input s2 (visit_of k l work.word)) gives
                (has-worked.keeps input may-be);
            content = content3;
          }

          seen3 : seen_of seat3 ≡ now
          seen3 = ap (λ x. seen_in x.me.0.held) same ∙ seen-now

          pub stands-now : StandsAt see begun base table seat3 part3 work.done work.word
          stands-now =
              let both : seat3.stage ≡ k = stage3 ∙ stage in
              record {
                run = st.run;
                words = st.words;
                slots = st.slots;
                is_stage = subst (λ i. i ≤ suc plan.plugins) (sym both) st.is_stage;
                seat_is = record {
                  of_table = ap (λ x. x.table_id) same ∙ seat-now.of_table;
                  rests = ap (λ x. x.me) same ∙ (seat-now.rests ∙ (λ i. (at_rest (key_at begun base) (sym stage3 i) ((seen-now ∙ sym seen3) i) (sym (ap (λ x. x.me.0.busy) same) i), [])));
                  run = subst (ChainRun plan) (sym seen3) w.run;
                  hand_is = subst (λ l. IsHandOf (state_after plan l) seat3.stage (land_of (key_at begun base)) seat3.hand) (sym seen3) (subst (λ i. IsHandOf s2 i (land_of (key_at begun base)) seat3.hand) (sym both) (record {
                    at = hw.at_same ∙ place;
                    cells = (let a = count-now in let b = hand-long in let c = ap length hw.cells_new ∙ length-append hw.window_new hw.rest in let d = hw.same_length in omega (arith, a, b, c, d));
                    same = hw.land_same ∙ w.hand_is.same;
                  }));
                };
                standing = subst (λ l. Standing see begun seat3.stage l seat3.hand part3 work.done work.word) (sym seen3) (subst (λ i. Standing see begun i now seat3.hand part3 work.done work.word) (sym both) standing3);
              }

  -- a turn that was busy: all is as it was
  module _ (laws : RunLaws see) (base : Bases) (table : TableId) (old new : StageSeat) (holder : ℕ) (away : new.seat.me ≡ (at_rest (key_at begun base) old.stage (seen_of old) (holder ∷ busy_of old), [])) (hand : new.hand ≡ old.hand)
      (stage : new.stage ≡ old.stage) (of_table : new.seat.table_id ≡ old.seat.table_id) (part : StagePart S K P) (done : ℕ) (word : StageWord) (st : StandsAt see begun base table old part done word) where
    pub seen-still : seen_of new ≡ seen_of old
    seen-still = ap (λ me. seen_in me.0.held) away

    pub stands-still : StandsAt see begun base table new part done word
    stands-still = record {
      run = st.run;
      words = st.words;
      slots = st.slots;
      is_stage = subst (λ i. i ≤ suc begun.plan.plugins) (sym stage) st.is_stage;
      seat_is = laws.seats.still (key_at begun base) table old new holder away hand stage of_table st.seat_is;
      standing = subst (λ h. Standing see begun new.stage (seen_of new) h part done word) (sym hand)
          (subst (λ l. Standing see begun new.stage l old.hand part done word) (sym seen-still)
          (subst (λ i. Standing see begun i (seen_of old) old.hand part done word) (sym stage) st.standing));
    }
