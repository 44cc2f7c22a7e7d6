-- A visit of the one thread that reports what a stage has done: what all stages stand for then, and the buffer.
use Rattle.std.proofs.Common.{◌≡◌, ◌≢◌, ◌⊎◌, ℕ, suc, ◌+◌, ◌%◌, ◌<◌, ◌≤◌, List, ◌∷◌, ◌++◌, length, take, drop, Option, None, ap, sym, ◌∙◌, subst, arith, inl, inr, length-append}
use Rattle.std.specs.Prelude.{slice_set}
use Rattle.std.proofs.lemmas.Bool.{cases_eq, cases_lt}
use Rattle.std.proofs.lemmas.List.{drop-drop, length-take, length-drop}
use Rattle.std.proofs.Math.Seq.{drop-append-le}
use Rattle.ts_packet.specs.declared.cell.Cell.{Cell}
use Rattle.chain_model.specs.Apply.{StageList}
use Rattle.chain_core.specs.declared.news.News.{News}
use Rattle.chain_core.specs.declared.stage_end.StageEnd.{StageEnd}
use Rattle.chain_core.specs.declared.stage_word.StageWord.{StageWord}
use Rattle.chain_core.specs.Numbers.{written_of, limit_of, news_of}
use Rattle.chain_core.specs.Machine.{ChainState, StageState, Visit, progress_of_stages, visit_of, Allowed}
use Rattle.chain_core.specs.ChainRun.{ChainRun, state_after}
use Rattle.chain_core.specs.CoreNumbers.{CoreNumbers, StandsFor}
use Rattle.chain_core.specs.Keeps.{Keeps}
use Rattle.stage_run.specs.Seeing.{Seeing}
use Rattle.stage_run.specs.declared.stage_part.StagePart.{StagePart}
use Rattle.stage_run.specs.declared.work.Work.{Work}
use Rattle.stage_run.specs.PartLists.{PartLists}
use Rattle.stage_run.specs.PartStands.{PartStands, PartGives, MayWork}
use Rattle.stage_run.specs.Works.{Works, WorksByKind, PartWork}
use Rattle.chain_run.specs.Slots.{slot, HoldsFrom}
use Rattle.chain_run.specs.Runs.{between, RunStart}
use Rattle.chain_run.specs.OneStage.{Doing, MayBe, SoFarUpTo, StandsIn}
use Rattle.chain_run.specs.Ran.{IsValidRun}
use Rattle.chain_run.specs.SerialRuns.{RunsBy}
use Rattle.chain_run.specs.Laws.{MachineLaws}
use Rattle.chain_run.proofs.NumberLaws.{change, stage-other, written-grows, given-falls, given-more, given-taken, taken-given, taken-falls, written-given, taken-ahead}
use Rattle.chain_run.proofs.SlotLemmas.{holds-append, holds-take, holds-drop, holds-same, over_row, row-reads, row-written, row-other}
use Rattle.chain_run.proofs.StepLemmas.{set_at, set_at-same, pick, doing-more, Own, stepped}
use Rattle.chain_run.proofs.QuietVisit.{going-own}
use Rattle.chain_run.proofs.RanLemmas.{far-up_to}
use Rattle.chain_run.proofs.KindLemmas.{rests-kept}
use Rattle.chain_run.proofs.StageVisit as stage
use Rattle.chain_run.proofs.StageVisit.{left-parts}

module _ {S K P : Type 0} (see : Seeing S K P) (begun : RunStart S K)
    (laws : MachineLaws) (r : IsValidRun begun)
    (core new_core : CoreNumbers) (parts : List (StagePart S K P)) (cells : List Cell) (visits : List Visit) (part : ℕ → StagePart S K P) (lists : ℕ → PartLists)
    (by : RunsBy see begun core parts cells visits part lists)
    (k : ℕ) (is_stage : k ≤ suc begun.plan.plugins) (ended : ((state_after begun.plan visits).stages k).ended ≡ None)
    (news : News) (told : news ≡ news_of begun.plan (progress_of_stages (state_after begun.plan visits)) k) where
  abbrev old : ChainState
  old = state_after begun.plan visits

  abbrev at : ℕ
  at = length (old.stages k).given

  abbrev low : ℕ
  low = written_of begun.plan (progress_of_stages old)

  abbrev gave : ℕ → List Cell
  gave j = (old.stages j).given

  abbrev Was : StageList → Type 0
  Was = PartGives see (part 0) (lists 0)

  -- the stage goes on
  pub doing : Doing see begun (part k) k (lists k) (old.stages k).given None low (old.stages k).taken gave Was
  doing = subst (λ (e : Option StageEnd). Doing see begun (part k) k (lists k) (old.stages k).given e low (old.stages k).taken gave Was) ended (by.ran.stands k is_stage)

  -- the part may work
  pub may : MayWork (PartStands see (part k)) at news.written (lists k)
  may = stage.may see begun laws r visits by.ran.run k is_stage (part k) (lists k) Was doing news told

  -- and the numbers of its call are in their ranges
  pub written-below : news.written ≤ at
  written-below = stage.written-below see begun laws r visits by.ran.run k is_stage (part k) (lists k) Was doing news told

  pub given-below : at ≤ news.taken
  given-below = stage.given-below see begun laws r visits by.ran.run k is_stage (part k) (lists k) Was doing news told

  pub taken-is : news.taken ≡ (old.stages k).taken
  taken-is = ap (λ (n : News). n.taken) told

  module _ (new_part : StagePart S K P) (len : ℕ) (in_hand : at + len ≤ news.taken) (in_row : at % length cells + len ≤ length cells)
      (window_new : List Cell) (same_length : length window_new ≡ len) (work : Work)
      (worked : PartWork see (part k) new_part at news (take len (drop (at % length cells) cells)) window_new work) where
    abbrev window : List Cell
    window = take len (drop (at % length cells) cells)

    abbrev given : List Cell
    given = take work.done window_new

    abbrev word : StageWord
    word = work.word

    abbrev new_cells : List Cell
    new_cells = over_row cells (at % length cells) window_new

    pub window-length : length window ≡ len
    window-length = omega (arith, length-take len (drop (at % length cells) cells), length-drop (at % length cells) cells)

    in_taken : at + len ≤ (old.stages k).taken
    in_taken = let b = taken-is in omega arith

    taken-within : (old.stages k).taken ≤ low + begun.plan.buffer
    taken-within = taken-ahead laws begun.plan r.valid.users visits by.ran.run k

    -- the cells after those that the stage gave are in the buffer
    module _ (j : ℕ) (e : suc j ≡ k) (le : j ≤ begun.plan.plugins) where
      taken-all : (old.stages k).taken ≤ length (old.stages j).given
      taken-all = subst (λ i. (old.stages i).taken ≤ length (old.stages j).given) e (taken-given laws begun.plan r.valid.users visits by.ran.run j)

      held : HoldsFrom (slot cells) at (drop at (old.stages j).given)
      held =
          subst (λ i. HoldsFrom (slot cells) (length (old.stages i).given) (drop (length (old.stages i).given) (old.stages j).given)) e (by.buffer j le)

      window-is : window ≡ take len (drop at (old.stages j).given)
      window-is =
          row-reads cells at len (drop at (old.stages j).given) in_row (let a = taken-all in let b = in_taken in omega (arith, length-drop at (old.stages j).given)) held

    pub is-window : (j : ℕ) → suc j ≡ k → window ≡ take len (drop at (old.stages j).given)
    is-window j e = window-is j e (let a = is_stage in omega (arith, a, e))

    abbrev w : Works (PartStands see new_part) (WorksByKind see (part k) new_part (lists k) news window window_new work) (lists k) news.written window window_new work
    w = stage.w see begun laws r visits by.ran.run k is_stage (part k) (lists k) Was doing news told new_part len in_hand window window-length window_new same_length work worked is-window

    abbrev after : PartLists
    after = w.after

    done-le : work.done ≤ len
    done-le = stage.done-le see begun laws r visits by.ran.run k is_stage (part k) (lists k) Was doing news told new_part len in_hand window window-length window_new same_length work worked is-window

    pub given-length : length given ≡ work.done
    given-length = stage.given-length see begun laws r visits by.ran.run k is_stage (part k) (lists k) Was doing news told new_part len in_hand window window-length window_new same_length work worked is-window

    -- the machine allows the visit
    pub may-visit : (k ≡ suc begun.plan.plugins → old.told ≡ limit_of begun.plan (progress_of_stages old)) → Allowed begun.plan old (visit_of k given word)
    may-visit limit_told =
        stage.may-visit see begun laws r visits by.ran.run k is_stage (part k) (lists k) Was doing news told new_part len in_hand window window-length window_new same_length work worked is-window ended limit_told

    module _ (allowed : Allowed begun.plan old (visit_of k given word)) where
      abbrev new : ChainState
      new = state_after begun.plan (visit_of k given word ∷ visits)

      abbrev run : ChainRun begun.plan (visit_of k given word ∷ visits)
      run = (by.ran.run, allowed)

      abbrev Gives : StageList → Type 0
      Gives input = PartGives see (set_at part k new_part 0) (set_at lists k after 0) input

      abbrev Own_ : Type 0
      Own_ = Own see begun laws r.valid core new_core parts cells new_cells visits part lists by k given word is_stage allowed new_part after

      changed : (new.stages k).given ≡ (old.stages k).given ++ given
      changed = (change laws begun.plan r.valid.users visits (visit_of k given word) run).given

      new-length : length (new.stages k).given ≡ at + work.done
      new-length = let a = given-length in omega (arith, ap (λ (l : List Cell). length l) changed, length-append (old.stages k).given given)

      ended-is : (new.stages k).ended ≡ word.ended
      ended-is = (change laws begun.plan r.valid.users visits (visit_of k given word) run).ended

      given_same : (j : ℕ) → j ≢ k → (new.stages j).given ≡ (old.stages j).given
      given_same j apart = ap (λ (s : StageState). s.given) (stage-other laws begun.plan r.valid.users visits (visit_of k given word) run j apart)

      apart-of : (j : ℕ) → suc j ≡ k → j ≢ k
      apart-of j e same = absurd (omega (arith, same, e))

      -- ---- the stage

      less-own : 0 ≡ k → (input : StageList) → PartGives see new_part after input → PartGives see (part 0) (lists 0) input
      less-own first input gives =
          subst (λ i. PartGives see (part i) (lists i) input) (sym first)
          (stage.less see begun laws r visits by.ran.run k is_stage (part k) (lists k) Was doing news told new_part len in_hand window window-length window_new same_length work worked is-window input (λ e. gives) first)

      less-all : (input : StageList) → Gives input → PartGives see (part 0) (lists 0) input
      less-all =
          pick (λ p l. (input : StageList) → PartGives see p l input → PartGives see (part 0) (lists 0) input) part lists k new_part after 0 less-own (λ apart input gives. gives)

      may-be : (input : StageList) → Gives input → MayBe see begun new_part k after input
      may-be input gives first =
          subst (λ p. PartGives see p after input) (set_at-same part k new_part 0 first)
          (subst (λ l. PartGives see (set_at part k new_part 0) l input) (set_at-same lists k after 0 first) gives)

      keeps-all : (input : StageList) → Gives input → Keeps begun.plan begun.rules input old (visit_of k given word)
      keeps-all input gives =
          stage.keeps-all see begun laws r visits by.ran.run k is_stage (part k) (lists k) Was doing news told new_part len in_hand window window-length window_new same_length work worked is-window input (may-be input gives)

      done-now : Doing see begun new_part k after ((old.stages k).given ++ given) word.ended low (old.stages k).taken gave (SoFarUpTo begun.plan begun.rules visits)
      done-now =
          stage.done-now see begun laws r visits by.ran.run k is_stage (part k) (lists k) Was doing news told new_part len in_hand window window-length window_new same_length work worked is-window

      behind : (j : ℕ) → suc j ≡ k → length ((old.stages k).given ++ given) ≤ length (old.stages j).given
      behind j e =
          let a = taken-all j e (let s = is_stage in omega (arith, s, e)) in let b = in_taken in let c = done-le in let d = given-length in
          omega (arith, a, b, c, d, length-append (old.stages k).given given)

      -- what it stands for now
      stands : StandsIn see begun new_part k after new Gives
      stands =
          subst (λ (e : Option StageEnd). Doing see begun new_part k after (new.stages k).given e (written_of begun.plan (progress_of_stages new)) (new.stages k).taken (λ i. (new.stages i).given) Gives) (sym ended-is)
          (subst (λ (g : List Cell). Doing see begun new_part k after g word.ended (written_of begun.plan (progress_of_stages new)) (new.stages k).taken (λ i. (new.stages i).given) Gives) (sym changed)
          (doing-more see begun new_part k after ((old.stages k).given ++ given) word.ended low (written_of begun.plan (progress_of_stages new)) (old.stages k).taken (new.stages k).taken
          gave (λ i. (new.stages i).given) (SoFarUpTo begun.plan begun.rules visits) Gives
          (written-grows laws begun.plan r.valid.users visits (visit_of k given word) run) (change laws begun.plan r.valid.users visits (visit_of k given word) run).no_less
          (λ j e. let more = given-more laws begun.plan r.valid.users visits (visit_of k given word) run j in (more.0, more.1, behind j e))
          (λ input gives. far-up_to see begun r laws parts visits part lists by.ran input (less-all input gives)) done-now))

      -- ---- the buffer

      row-fits : at % length cells + length window_new ≤ length cells
      row-fits = omega (arith, same_length)

      row-holds : HoldsFrom (slot new_cells) at window_new
      row-holds = row-written cells at window_new row-fits

      -- other positions stay as they were
      stays : length cells ≡ begun.plan.buffer → (p : ℕ) → low ≤ p → p < low + begun.plan.buffer → (p < at) ⊎ (at + len ≤ p) → slot new_cells p ≡ slot cells p
      stays slots p above below outside =
          row-other cells at window_new low p row-fits (written-given laws begun.plan r.valid.users visits by.ran.run k is_stage) (let a = in_taken in let b = taken-within in omega (arith, same_length)) above (omega arith)
          (subst (λ n. (p < at) ⊎ (at + n ≤ p)) (sym same_length) outside)

      module _ (slots : length cells ≡ begun.plan.buffer) where
        -- a row of cells between two stages is within reach
        position-low : (j p : ℕ) → j ≤ begun.plan.plugins → length (old.stages (suc j)).given ≤ p → low ≤ p
        position-low j p le from = let a = written-given laws begun.plan r.valid.users visits by.ran.run (suc j) (omega arith) in omega arith

        position-high : (j p : ℕ) → p < length (old.stages j).given → p < low + begun.plan.buffer
        position-high j p below =
            let a = given-falls laws begun.plan r.valid.users visits by.ran.run j 0 (omega arith) in
            let b = given-taken laws begun.plan r.valid.users visits by.ran.run 0 in
            let c = taken-ahead laws begun.plan r.valid.users visits by.ran.run 0 in
            omega arith

        between-end : (j p : ℕ) → p < length (old.stages (suc j)).given + length (between old j) → length (old.stages (suc j)).given ≤ p → p < length (old.stages j).given
        between-end j p below from =
            let a = length-drop (length (old.stages (suc j)).given) (old.stages j).given in omega arith

        -- the cells that stay in the hands of stages elsewhere
        frame : (j : ℕ) → j ≤ begun.plan.plugins → (suc j < k) ⊎ (k ≤ j) → HoldsFrom (slot new_cells) (length (old.stages (suc j)).given) (between old j)
        frame j le side =
            holds-same (slot cells) (slot new_cells) (length (old.stages (suc j)).given) (between old j)
            (λ p from below. stays slots p (position-low j p le from) (position-high j p (between-end j p below from)) (outside j p side from (between-end j p below from)))
            (by.buffer j le)
          where
            outside : (j p : ℕ) → (suc j < k) ⊎ (k ≤ j) → length (old.stages (suc j)).given ≤ p → p < length (old.stages j).given → (p < at) ⊎ (at + len ≤ p)
            outside j p (inl before) from below = (let a = taken-falls laws begun.plan r.valid.users visits by.ran.run k (suc j) before in let b = in_taken in inr (omega arith))
            outside j p (inr behind) from below = (let a = given-falls laws begun.plan r.valid.users visits by.ran.run j k behind in inl (omega arith))

        -- the stage gives its cells on
        gives-on : k ≤ begun.plan.plugins → HoldsFrom (slot new_cells) (length (new.stages (suc k)).given) (between new k)
        gives-on le =
            let below : length (old.stages (suc k)).given ≤ at = given-falls laws begun.plan r.valid.users visits by.ran.run (suc k) k (omega arith) in
            let old-part : HoldsFrom (slot new_cells) (length (old.stages (suc k)).given) (between old k) = frame k le (inr (omega arith)) in
            let more : HoldsFrom (slot new_cells) (length (old.stages (suc k)).given + length (between old k)) given =
            subst (λ n. HoldsFrom (slot new_cells) n given) (let a = length-drop (length (old.stages (suc k)).given) (old.stages k).given in omega arith) (holds-take (slot new_cells) at work.done window_new row-holds) in
            let both : HoldsFrom (slot new_cells) (length (old.stages (suc k)).given) (between old k ++ given) =
            holds-append (slot new_cells) (length (old.stages (suc k)).given) (between old k) given old-part more in
            let is : between old k ++ given ≡ drop (length (old.stages (suc k)).given) (new.stages k).given =
            sym (ap (λ (l : List Cell). drop (length (old.stages (suc k)).given) l) changed ∙ drop-append-le (length (old.stages (suc k)).given) (old.stages k).given given below) in
            let same : (old.stages (suc k)).given ≡ (new.stages (suc k)).given = sym (given_same (suc k) (λ s. absurd (omega (arith, s)))) in
            subst (λ (l : List Cell). HoldsFrom (slot new_cells) (length l) (drop (length l) (new.stages k).given)) same
            (subst (λ (l : List Cell). HoldsFrom (slot new_cells) (length (old.stages (suc k)).given) l) is both)

        -- what is left to the stage
        is-left : (j : ℕ) → suc j ≡ k → j ≤ begun.plan.plugins → HoldsFrom (slot new_cells) (length (new.stages (suc j)).given) (between new j)
        is-left j e le =
            let rest-same : drop work.done window_new ≡ drop work.done (take len (drop at (old.stages j).given)) =
            rests-kept (part k) new_part (drop work.done window) (drop work.done window_new) begun.plan.plugins j worked.same_kind le
            (λ lt. (doing.plugin j e lt).kind) (λ last. (doing.output (ap suc (sym last) ∙ e)).kind) worked.stage.rest
            ∙ ap (drop work.done) (window-is j e le) in
            let front : HoldsFrom (slot new_cells) (at + work.done) (drop work.done (take len (drop at (old.stages j).given))) =
            subst (λ (l : List Cell). HoldsFrom (slot new_cells) (at + work.done) l) rest-same (holds-drop (slot new_cells) at work.done window_new (let a = done-le in omega (arith, same_length)) row-holds) in
            let far-old : HoldsFrom (slot cells) (at + len) (drop (at + len) (old.stages j).given) =
            subst (λ (l : List Cell). HoldsFrom (slot cells) (at + len) l) (drop-drop len at (old.stages j).given)
            (holds-drop (slot cells) at len (drop at (old.stages j).given) (let a = taken-all j e le in let b = in_taken in omega (arith, length-drop at (old.stages j).given)) (held j e le)) in
            let far : HoldsFrom (slot new_cells) (at + len) (drop (at + len) (old.stages j).given) =
            holds-same (slot cells) (slot new_cells) (at + len) (drop (at + len) (old.stages j).given)
            (λ p from below. stays slots p (let a = written-given laws begun.plan r.valid.users visits by.ran.run k is_stage in omega arith)
            (position-high j p (let a = taken-all j e le in let b = in_taken in omega (arith, length-drop (at + len) (old.stages j).given))) (inr from)) far-old in
            let front-length : at + work.done + length (drop work.done (take len (drop at (old.stages j).given))) ≡ at + len =
            let a = taken-all j e le in let b = in_taken in let c = done-le in
            omega (arith, length-drop work.done (take len (drop at (old.stages j).given)), length-take len (drop at (old.stages j).given), length-drop at (old.stages j).given) in
            let both : HoldsFrom (slot new_cells) (at + work.done) (drop work.done (take len (drop at (old.stages j).given)) ++ drop (at + len) (old.stages j).given) =
            holds-append (slot new_cells) (at + work.done) (drop work.done (take len (drop at (old.stages j).given))) (drop (at + len) (old.stages j).given) front
            (subst (λ n. HoldsFrom (slot new_cells) n (drop (at + len) (old.stages j).given)) (sym front-length) far) in
            let is : drop work.done (take len (drop at (old.stages j).given)) ++ drop (at + len) (old.stages j).given ≡ drop (at + work.done) (new.stages j).given =
            sym (left-parts (old.stages j).given at len work.done done-le (let a = taken-all j e le in let b = in_taken in omega arith))
            ∙ ap (λ (l : List Cell). drop (at + work.done) l) (sym (given_same j (apart-of j e))) in
            let place : at + work.done ≡ length (new.stages (suc j)).given = sym (ap (λ i. length (new.stages i).given) e ∙ new-length) in
            subst (λ n. HoldsFrom (slot new_cells) n (drop n (new.stages j).given)) place
            (subst (λ (l : List Cell). HoldsFrom (slot new_cells) (at + work.done) l) is both)

        buffer-all : (j : ℕ) → j ≤ begun.plan.plugins → HoldsFrom (slot new_cells) (length (new.stages (suc j)).given) (between new j)
        buffer-all j le =
            elim (cases_eq j k) [
              | inl here ↦ subst (λ i. HoldsFrom (slot new_cells) (length (new.stages (suc i)).given) (between new i)) (sym here) (gives-on (omega (arith, here)))
              | inr apart' ↦ elim (cases_eq (suc j) k) [
                | inl next ↦ is-left j next le
                | inr far ↦ (subst (λ (l : List Cell). HoldsFrom (slot new_cells) (length (new.stages (suc j)).given) (drop (length (new.stages (suc j)).given) l)) (sym (given_same j apart'))
                    (subst (λ (l : List Cell). HoldsFrom (slot new_cells) (length l) (drop (length l) (old.stages j).given)) (sym (given_same (suc j) far)) (frame j le (beside j apart' far))))
              ]
            ]
          where
            beside : (j : ℕ) → j ≢ k → suc j ≢ k → (suc j < k) ⊎ (k ≤ j)
            beside j a b =
                elim (cases_lt (suc j) k) [
                  | inl lt ↦ inl lt
                  | inr le' ↦ elim (cases_lt j k) [
                    | inl lt' ↦ absurd (b (omega arith))
                    | inr fine ↦ inr fine
                  ]
                ]

        own : Own_
        own = record {
          less = less-own;
          keeps = λ input was gives. keeps-all input gives;
          going = λ input was gives none. going-own laws begun.plan begun.rules input r.valid visits given word k run (sym ended-is ∙ none) (keeps-all input gives);
          stands = stands;
          buffer = buffer-all;
        }

        -- the chain after the visit
        pub worked-visit : StandsFor new_core new → suc begun.plan.plugins < length parts
            → RunsBy see begun new_core (slice_set parts k new_part) new_cells (visit_of k given word ∷ visits) (set_at part k new_part) (set_at lists k after)
        worked-visit numbers long =
            stepped see begun laws r.valid core new_core parts cells new_cells visits part lists by k given word is_stage allowed new_part after numbers long own
