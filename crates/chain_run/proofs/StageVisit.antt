-- What a stage did on the cells in its hands, in words of that stage alone, whoever serves it.
use Rattle.std.proofs.Common.{◌≡◌, ◌≢◌, ℕ, zero, suc, ◌+◌, ◌-◌, ◌*◌, ◌^◌, ◌<◌, ◌≤◌, List, [], ◌∷◌, ◌++◌, length, take, drop, Option, Some, None, refl, ap, sym, ◌∙◌, subst, arith, inl, inr, length-append}
use Rattle.std.proofs.lemmas.Bool.{cases_eq, cases_lt}
use Rattle.std.proofs.lemmas.List.{take-take, take-append-drop, drop-drop, length-take, length-drop}
use Rattle.std.proofs.Math.Seq.{take-add, drop-append-le}
use Rattle.ts_packet.specs.declared.cell.Cell.{Cell}
use Rattle.ts_outside.specs.Source.{SourceView}
use Rattle.ts_outside.specs.Sink.{SinkView}
use Rattle.chain_model.specs.PluginRule.{PluginRule, passing_rule}
use Rattle.chain_model.specs.Apply.{StageList}
use Rattle.chain_model.specs.StageLists.{rule_after}
use Rattle.chain_model.specs.Joint.{joint_position}
use Rattle.chain_core.specs.declared.news.News.{News}
use Rattle.chain_core.specs.declared.stage_end.StageEnd.TheVariants.{WriteFault}
use Rattle.chain_core.specs.declared.stage_word.StageWord.{StageWord}
use Rattle.chain_core.specs.Stages.{stages_of}
use Rattle.chain_core.specs.Numbers.{written_of, limit_of, news_of}
use Rattle.chain_core.specs.Machine.{ChainState, Visit, progress_of_stages, visit_of, Allowed}
use Rattle.chain_core.specs.ChainRun.{ChainRun, state_after, took}
use Rattle.chain_core.specs.Keeps.{Keeps, StageKeeps}
use Rattle.stage_run.specs.declared.stage_part.StagePart.{StagePart}
use Rattle.stage_run.specs.declared.work.Work.{Work}
use Rattle.stage_run.specs.PartLists.{PartLists}
use Rattle.stage_run.specs.PartStands.{PartStands, PartGives, MayWork, rule_of}
use Rattle.stage_run.specs.Parts.{IsSourceOf, IsSinkOf}
use Rattle.stage_run.proofs.InputWorking.{read_for-full, read_for-free}
use Rattle.chain_model.specs.Written.{IsPartOfFirst}
use Rattle.stage_run.specs.Telling.{below_limit}
use Rattle.stage_run.specs.Works.{Works, WorksByKind, OutputTells, KeepsRule, read_for}
use Rattle.std.proofs.Common.{true}
use Rattle.chain_core.specs.Numbers.{MayVisit}
use Rattle.stage_run.specs.Telling.{may_follow, FollowsNews}
use Rattle.chain_run.proofs.TurnLemmas.{follows-news}
use Rattle.chain_model.specs.InputRead.{MayRead}
use Rattle.chain_run.specs.Runs.{RunStart}
use Rattle.chain_run.specs.OneStage.{SoFarUpTo, IsInput, IsPlugin, IsOutput, Failed, Doing, MayBe}
use Rattle.chain_run.specs.Ran.{IsValidRun}
use Rattle.stage_run.specs.Works.{PartWork}
use Rattle.chain_run.specs.Laws.{MachineLaws}
use Rattle.chain_run.proofs.NumberLaws.{given-taken, taken-given, taken-falls, written-given, taken-ahead, taken-below}
use Rattle.chain_run.proofs.StepLemmas.{part-more}
use Rattle.stage_run.specs.Seeing.{Seeing}
use Rattle.chain_run.proofs.KindLemmas.{InputDid, input-did, plugin-did, OutputDid, output-did, wants-more, stream-kept}

-- ---- pieces of a list

-- what was taken is what was given on, the window and the rest
pub took-parts : (all : List Cell) (given len taken : ℕ) → given + len ≤ taken
    → take taken all ≡ take given all ++ (take len (drop given all) ++ take (taken - (given + len)) (drop (given + len) all))
took-parts all given len taken le =
    ap (λ n. take n all) (omega arith)
    ∙ (take-add given (len + (taken - (given + len))) all
    ∙ ap (λ (l : List Cell). take given all ++ l) (take-add len (taken - (given + len)) (drop given all)
    ∙ ap (λ (l : List Cell). take len (drop given all) ++ take (taken - (given + len)) l) (drop-drop len given all)))

-- what was given, with the first cells of the window
pub given-parts : (all : List Cell) (given len done : ℕ) → done ≤ len → take given all ++ take done (take len (drop given all)) ≡ take (given + done) all
given-parts all given len done le =
    ap (λ (l : List Cell). take given all ++ l) (take-take done len (drop given all) le) ∙ sym (take-add given done all)

-- what is left is the rest of the window, and what comes after it
pub left-parts : (all : List Cell) (given len done : ℕ) → done ≤ len → given + len ≤ length all → drop (given + done) all ≡ drop done (take len (drop given all)) ++ drop (given + len) all
left-parts all given len done le within =
    sym (drop-drop done given all)
    ∙ (ap (drop done) (sym (take-append-drop len (drop given all)))
    ∙ (drop-append-le done (take len (drop given all)) (drop len (drop given all)) (omega (arith, length-take len (drop given all), length-drop given all))
    ∙ ap (λ (l : List Cell). drop done (take len (drop given all)) ++ l) (drop-drop len given all)))

pub rule_after-passes : (rules : List PluginRule) (n : ℕ) → length rules ≡ n → rule_after rules n ≡ passing_rule
rule_after-passes rules n is = ap (rule_after rules) (sym is) ∙ past rules
  where
    past : (rs : List PluginRule) → rule_after rs (length rs) ≡ passing_rule
    past [] = refl
    past (r ∷ rs) = past rs

-- how far an input may read that works on a window: no further than before, or for its cells
pub may_read : (buffer cut at len before after : ℕ) → MayRead buffer cut before → ((most : ℕ) → before ≤ 188 * most → read_for at len ≤ most → after ≤ 188 * most)
    → at + len ≤ cut + buffer → at + len ≤ 2 ^ 60 → MayRead buffer cut after
may_read buffer cut at len before after was reads within below =
    elim (cases_eq at (2 ^ 60)) [
      | inl full ↦ (let is = read_for-full at len full in elim was [
        | inl few ↦ elim (cases_lt (2 ^ 60) (cut + buffer)) [
          | inl more ↦ inl (reads (cut + buffer) few (omega arith))
          | inr last ↦ inr (omega arith, reads (2 ^ 60 + 1) (omega arith) (omega arith))
        ]
        | inr far ↦ inr (far.0, reads (2 ^ 60 + 1) far.1 (omega arith))
      ])
      | inr free ↦ (let is = read_for-free at len free in elim was [
        | inl few ↦ inl (reads (cut + buffer) few (omega arith))
        | inr far ↦ inr (far.0, reads (2 ^ 60 + 1) far.1 (omega arith))
      ])
    ]

-- fewer cells than are in the window below the limit
pub below-both : (limit : Option ℕ) (at' len' at len done : ℕ) → at' ≡ at → len' ≡ len → done < below_limit limit at' len' → (done < len) × ((l : ℕ) → limit ≡ Some l → at + done < l)
below-both None at' len' at len done a b lt = (omega arith, λ l is. cc)
below-both (Some m) at' len' at len done a b lt = (omega arith, λ l is. let same : m ≡ l = cc in omega arith)

module _ {S K P : Type 0} (see : Seeing S K P) (begun : RunStart S K)
    (laws : MachineLaws) (r : IsValidRun begun)
    (visits : List Visit) (run-old : ChainRun begun.plan visits) (k : ℕ) (is_stage : k ≤ suc begun.plan.plugins) (part : StagePart S K P) (lists : PartLists) (Was : StageList → Type 0)
    (doing : Doing see begun part k lists ((state_after begun.plan visits).stages k).given None (written_of begun.plan (progress_of_stages (state_after begun.plan visits))) ((state_after begun.plan visits).stages k).taken (λ j. ((state_after begun.plan visits).stages j).given) Was)
    (news : News) (told : news ≡ news_of begun.plan (progress_of_stages (state_after begun.plan visits)) k) where
  abbrev old : ChainState
  old = state_after begun.plan visits

  abbrev at : ℕ
  at = length (old.stages k).given

  abbrev low : ℕ
  low = written_of begun.plan (progress_of_stages old)

  written-is : news.written ≡ low
  written-is = ap (λ (n : News). n.written) told

  pub taken-is : news.taken ≡ (old.stages k).taken
  taken-is = ap (λ (n : News). n.taken) told

  -- the part may work
  pub may : MayWork (PartStands see part) at news.written lists
  may = record { goes_on = doing.stands_for; given = ap (λ (l : List Cell). length l) doing.given_is; mark = subst (λ n. lists.mark ≤ n) (sym written-is) doing.mark }

  pub written-below : news.written ≤ at
  written-below = let a = written-given laws begun.plan r.valid.users visits run-old k is_stage in let b = written-is in omega arith

  pub given-below : at ≤ news.taken
  given-below = let a = given-taken laws begun.plan r.valid.users visits run-old k in let b = taken-is in omega arith

  module _ (new_part : StagePart S K P) (len : ℕ) (in_hand : at + len ≤ news.taken) (window : List Cell) (window-length : length window ≡ len)
      (window_new : List Cell) (same_length : length window_new ≡ len) (work : Work)
      (worked : PartWork see part new_part at news window window_new work)
      (window-is : (j : ℕ) → suc j ≡ k → window ≡ take len (drop at (old.stages j).given)) where
    abbrev given : List Cell
    given = take work.done window_new

    abbrev word : StageWord
    word = work.word

    abbrev visit : Visit
    visit = visit_of k given word

    pub w : Works (PartStands see new_part) (WorksByKind see part new_part lists news window window_new work) lists news.written window window_new work
    w = worked.stage.works lists may

    abbrev after : PartLists
    after = w.after

    pub done-le : work.done ≤ len
    done-le = let a = worked.stage.done in let b = window-length in omega arith

    pub given-length : length given ≡ work.done
    given-length = let a = done-le in omega (arith, length-take work.done window_new)

    in_taken : at + len ≤ (old.stages k).taken
    in_taken = let b = taken-is in omega arith

    taken-within : (old.stages k).taken ≤ low + begun.plan.buffer
    taken-within = taken-ahead laws begun.plan r.valid.users visits run-old k

    abbrev all-given : List Cell
    all-given = (old.stages k).given ++ given

    all-length : length all-given ≡ at + work.done
    all-length = let a = given-length in omega (arith, length-append (old.stages k).given given)

    -- ---- the input

    module _ (first : 0 ≡ k) where
      did : InputDid see part new_part lists news window window_new work after
      did = input-did see part new_part lists news window window_new work after (doing.input first).kind w.does

      reads-within : MayRead begun.plan.buffer low (length after.read)
      reads-within =
          let lists-length : length lists.given ≡ at = ap (λ (l : List Cell). length l) doing.given_is in
          let reads : (most : ℕ) → length lists.read ≤ 188 * most → read_for at len ≤ most → length after.read ≤ 188 * most =
          λ most few room. did.reads most few
          (subst (λ n. read_for (length lists.given) n ≤ most) (sym window-length) (subst (λ n. read_for n len ≤ most) (sym lists-length) room)) in
          may_read begun.plan.buffer low at len (length lists.read) (length after.read) (doing.input first).within reads
          (let a = taken-within in let b = in_taken in omega arith)
          (let a = taken-below laws begun.plan r.valid.users visits run-old k in let b = in_taken in omega arith)

      own-input : IsInput see begun new_part after low
      own-input = record {
        kind = worked.same_kind ∙ (doing.input first).kind;
        stuffing_is = worked.same_stuffing ∙ (doing.input first).stuffing_is;
        stream = stream-kept see part new_part lists news window window_new work after w.does ∙ (doing.input first).stream;
        source = subst (λ (v : SourceView). IsSourceOf see.source begun.from v) (sym w.behind.source) (doing.input first).source;
        within = reads-within;
        is_list = λ list gives. (doing.input first).is_list list (did.gives list gives);
      }

      keeps-first : (list : StageList) → PartGives see new_part after list → Keeps begun.plan begun.rules list old visit
      keeps-first list gives =
          subst (λ i. StageKeeps begun.rules list begun.plan.plugins i (took old i) (old.stages k).given given word) first
          (subst (λ (l : List Cell). StageKeeps begun.rules list begun.plan.plugins 0 [] l given word) doing.given_is (did.keeps list gives begun.rules begun.plan.plugins))

    -- what may be now might have been before
    pub less : (list : StageList) → MayBe see begun new_part k after list → MayBe see begun part k lists list
    less list may-be = λ first. (did first).gives list (may-be first)

    -- ---- a stage after stage `j`

    module _ (j : ℕ) (e : suc j ≡ k) (le : j ≤ begun.plan.plugins) where
      abbrev all : List Cell
      all = (old.stages j).given

      taken-all : (old.stages k).taken ≤ length all
      taken-all = subst (λ i. (old.stages i).taken ≤ length (old.stages j).given) e (taken-given laws begun.plan r.valid.users visits run-old j)

      module _ (met : lists.met ≡ take at all) where
        met-new : after.met ≡ take (length all-given) all
        met-new =
            w.behind.met
            ∙ (ap (λ (l : List Cell). l ++ take work.done window) met
            ∙ (ap (λ (l : List Cell). take at all ++ take work.done l) (window-is j e)
            ∙ (given-parts all at len work.done done-le
            ∙ ap (λ n. take n all) (sym all-length))))

        met-all : lists.met ++ (window ++ take ((old.stages k).taken - (at + len)) (drop (at + len) all)) ≡ take (old.stages k).taken all
        met-all =
            ap (λ (l : List Cell). l ++ (window ++ take ((old.stages k).taken - (at + len)) (drop (at + len) all))) met
            ∙ (ap (λ (l : List Cell). take at all ++ (l ++ take ((old.stages k).taken - (at + len)) (drop (at + len) all))) (window-is j e)
            ∙ sym (took-parts all at len (old.stages k).taken in_taken))

        keeps-behind : (q : PluginRule) → rule_after begun.rules j ≡ q → KeepsRule q lists window given word begun.plan.plugins j → (input : StageList) → Keeps begun.plan begun.rules input old visit
        keeps-behind q is keeps input =
            subst (λ i. StageKeeps begun.rules input begun.plan.plugins i (took old i) (old.stages i).given given word) e
            (subst (λ (l : List Cell). StageKeeps begun.rules input begun.plan.plugins (suc j) l (old.stages (suc j)).given given word) (met-all ∙ ap (λ i. take (old.stages i).taken all) (sym e))
            (subst (λ (l : List Cell). StageKeeps begun.rules input begun.plan.plugins (suc j) (lists.met ++ (window ++ take ((old.stages k).taken - (at + len)) (drop (at + len) all))) l given word)
            (doing.given_is ∙ ap (λ i. (old.stages i).given) (sym e))
            (keeps begun.rules input (take ((old.stages k).taken - (at + len)) (drop (at + len) all)) is)))

    module _ (j : ℕ) (e : suc j ≡ k) (lt : j < begun.plan.plugins) where
      abbrev plugin : IsPlugin see begun part j lists (old.stages k).given (old.stages j).given
      plugin = doing.plugin j e lt

      own-plugin : IsPlugin see begun new_part j after all-given (old.stages j).given
      own-plugin = record { kind = worked.same_kind ∙ plugin.kind; rule_is = worked.same_rule ∙ plugin.rule_is; room_is = worked.same_preallocated ∙ plugin.room_is; met = met-new j e (omega arith) plugin.met; since = w.behind.from ∙ plugin.since }

      keeps-plugin : (input : StageList) → Keeps begun.plan begun.rules input old visit
      keeps-plugin =
          keeps-behind j e (omega arith) plugin.met (rule_of see part) (sym plugin.rule_is)
          ((plugin-did see part new_part lists news window window_new work after plugin.kind w.does).keeps begun.plan.plugins j)

    -- ---- the output

    module _ (e : suc begun.plan.plugins ≡ k) where
      abbrev output : IsOutput see begun part lists (old.stages k).given (old.stages begun.plan.plugins).given None (old.stages k).taken Was
      output = doing.output e

      pub output-done : OutputDid see lists news window window_new work after
      output-done = output-did see part new_part lists news window window_new work after output.kind w.does

      keeps-output : (input : StageList) → Keeps begun.plan begun.rules input old visit
      keeps-output =
          keeps-behind begun.plan.plugins e (omega arith) output.met passing_rule (rule_after-passes begun.rules begun.plan.plugins r.rules_are) (output-done.keeps begun.plan.plugins)

      -- where a write failed
      module _ (faulted : word.ended ≡ Some WriteFault) where
        cut-at : (work.done < below_limit news.limit (length lists.given) (length window)) × IsPartOfFirst (drop work.done window) after.cut
        cut-at = subst (λ t. OutputTells news (length lists.given) window work.done after.cut t) faulted output-done.tells

        cut-before : (work.done < len) × ((limit : ℕ) → news.limit ≡ Some limit → at + work.done < limit)
        cut-before =
            below-both news.limit (length lists.given) (length window) at len work.done (ap (λ (l : List Cell). length l) doing.given_is) window-length cut-at.0

        part-cut : IsPartOfFirst (drop (length all-given) (old.stages begun.plan.plugins).given) after.cut
        part-cut =
            subst (λ (l : List Cell). IsPartOfFirst l after.cut) (sym cut-is)
            (part-more (drop work.done window) (drop (at + len) (old.stages begun.plan.plugins).given) after.cut cut-at.1)
          where
            cut-is : drop (length all-given) (old.stages begun.plan.plugins).given ≡ drop work.done window ++ drop (at + len) (old.stages begun.plan.plugins).given
            cut-is =
                ap (λ n. drop n (old.stages begun.plan.plugins).given) all-length
                ∙ (left-parts (old.stages begun.plan.plugins).given at len work.done done-le (let a = taken-all begun.plan.plugins e (omega arith) in let b = in_taken in omega arith)
                ∙ ap (λ (l : List Cell). drop work.done l ++ drop (at + len) (old.stages begun.plan.plugins).given) (sym (window-is begun.plan.plugins e)))

        late : (input : StageList) → SoFarUpTo begun.plan begun.rules visits input → (joint : ℕ) → joint_position begun.rules input (stages_of begun.plan.users) ≡ Some joint → at + work.done < joint
        late input so_far joint is =
            elim (cases_lt (at + work.done) joint) [
              | inl before ↦ before
              | inr due ↦ (let far = so_far [] visits refl in
                  let few = cut-before.0 in
                  let known : limit_of begun.plan (progress_of_stages old) ≡ Some joint = far.limit_when_due joint is (λ i below. let a = taken-falls laws begun.plan r.valid.users visits run-old k i (omega (arith, e)) in let b = in_taken in omega arith) in
                  cut-before.1 joint (ap (λ (n : News). n.limit) told ∙ known))
            ]

        failed : Failed see begun after all-given (old.stages begun.plan.plugins).given (old.stages k).taken (SoFarUpTo begun.plan begun.rules visits)
        failed = record {
          few = (let b = in_taken in let c = all-length in let d = cut-before.0 in omega arith);
          part = part-cut;
          late = λ input gives joint is. (let a = late input gives joint is in let b = all-length in omega arith);
        }

      own-output : IsOutput see begun new_part after all-given (old.stages begun.plan.plugins).given word.ended (old.stages k).taken (SoFarUpTo begun.plan begun.rules visits)
      own-output = record {
        kind = worked.same_kind ∙ output.kind;
        stream = stream-kept see part new_part lists news window window_new work after w.does ∙ output.stream;
        met = met-new begun.plan.plugins e (omega arith) output.met;
        sink = subst (λ (v : SinkView). IsSinkOf see.sink begun.to v) (sym w.behind.sink) output.sink;
        failed = λ is. failed is;
      }

    -- ---- all together

    -- a stage is the input, a plugin or the output
    by-kind : {X : Type 0} → (0 ≡ k → X) → ((j : ℕ) → suc j ≡ k → j < begun.plan.plugins → X) → (suc begun.plan.plugins ≡ k → X) → X
    by-kind first plugin output =
        elim (cases_eq 0 k) [
          | inl same ↦ first same
          | inr later ↦ elim (cases_lt (k - 1) begun.plan.plugins) [
            | inl lt ↦ plugin (k - 1) (let some : 0 < k = some-later k later in omega arith) lt
            | inr far ↦ output (let some : 0 < k = some-later k later in omega arith)
          ]
        ]
      where
        some-later : (n : ℕ) → 0 ≢ n → 0 < n
        some-later zero apart = absurd (apart refl)
        some-later (suc n) apart = omega arith

    pub keeps-all : (input : StageList) → MayBe see begun new_part k after input → Keeps begun.plan begun.rules input old visit
    keeps-all input may-be =
        by-kind {X = Keeps begun.plan begun.rules input old visit} (λ first. keeps-first first input (may-be first)) (λ j e lt. keeps-plugin j e lt input) (λ e. keeps-output e input)

    pub done-now : Doing see begun new_part k after all-given word.ended low (old.stages k).taken (λ j. (old.stages j).given) (SoFarUpTo begun.plan begun.rules visits)
    done-now = record {
      stands_for = w.stands;
      given_is = w.behind.given ∙ ap (λ (l : List Cell). l ++ given) doing.given_is;
      mark = (let a = w.behind.mark in let b = written-is in omega arith);
      memory = λ e. wants-more see part new_part (news.taken - news.written) begun.plan.buffer worked.same_kind worked.same_preallocated
          (let a = taken-within in let b = taken-is in let c = written-is in omega arith) (worked.stage.memory e);
      input = own-input;
      plugin = own-plugin;
      output = own-output;
    }

    -- the machine allows the visit
    pub may-visit : (open_ : (old.stages k).ended ≡ None) (limit-told : k ≡ suc begun.plan.plugins → old.told ≡ limit_of begun.plan (progress_of_stages old)) → Allowed begun.plan old visit
    may-visit open_ limit-told = subst (λ n. MayVisit begun.plan (progress_of_stages old) old.told k n word) (sym given-length) (record {
      is_stage = is_stage;
      goes_on = open_;
      held = (let a = done-le in let b = in_taken in omega arith);
      agreement = λ agreed e. inl (worked.stage.agreed agreed e);
      below_limit = λ o limit is some. let known : news.limit ≡ Some limit = ap (λ (n : News). n.limit) told ∙ (sym (limit-told o) ∙ is) in
          subst (λ n. n + work.done ≤ limit) may.given ((output-done (sym o)).below limit known some);
      follows = λ e. follows-news begun.plan (progress_of_stages old) k (at + work.done)
          (subst (λ (n : News). may_follow n (at + work.done) ≡ true) told (subst (λ t. FollowsNews news (at + work.done) t) e worked.stage.follows));
    })
