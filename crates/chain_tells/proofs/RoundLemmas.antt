-- What a chain told in rounds: one round more, and the end.
use Rattle.std.proofs.Common.{◌≡◌, ◌≢◌, inl, inr, ◌⊎◌, ℕ, suc, ◌+◌, ◌<◌, ◌≤◌, List, [], ◌∷◌, ◌++◌, length, map, take, drop, Bool, true, false, nat_lt, if◌then◌else◌, Option, None, Some, refl, ap, sym, ◌∙◌, subst, arith, length-append, length-take, length-drop}
use Rattle.std.specs.Prelude.{slice_index_or, IfSome, IfNone}
use Rattle.std.specs.List.{AllByRecursion}
use Rattle.std.specs.Option.{option_map}
use Rattle.std.proofs.Common.{Bor}
use Rattle.ts_packet.specs.declared.cell.Cell.{Cell}
use Rattle.ts_packet.specs.Cells.{Live, Dropped}
use Rattle.chain_model.specs.PluginRule.{PluginRule}
use Rattle.chain_model.specs.Reports.{NamedRule}
use Rattle.chain_model.specs.Stuffed as model
use Rattle.chain_core.specs.Stages.{stages_of}
use Rattle.chain_core.specs.declared.closed.Closed.{Closed}
use Rattle.chain_core.specs.declared.core_plan.CorePlan.{CorePlan}
use Rattle.chain_core.specs.declared.stage_end.StageEnd.{StageEnd}
use Rattle.chain_core.specs.CoreNumbers.{CoreNumbers, progress_of_core}
use Rattle.chain_core.specs.Numbers.{written_of}
use Rattle.chain_core.specs.Machine.{ChainState, progress_of_stages}
use Rattle.chain_core.specs.ChainRun.{state_after}
use Rattle.plugin_trait.specs.PlacedLines.{placed_at, placed_after, placed_between}
use Rattle.plugin_trait.specs.declared.heard.Heard.{Heard}
use Rattle.plugin_trait.specs.declared.line.Line.{Line}
use Rattle.stage_run.specs.Seeing.{Seeing}
use Rattle.stage_run.specs.PartLists.{PartLists}
use Rattle.stage_run.specs.PartStands.{PartStands, kind_of, stuffing_in, stream_kind, source_kind, a_stream, an_input}
use Rattle.stage_run.specs.SourceNow.{WasRead}
use Rattle.stage_run.specs.declared.input_part.InputPart.{InputPart}
use Rattle.stage_run.specs.declared.output_part.OutputPart.{OutputPart}
use Rattle.stage_run.specs.declared.stage_part.StagePart.{StagePart}
use Rattle.stage_run.specs.declared.stuffing.Stuffing.{Stuffing}
use Rattle.chain_live.specs.LiveReports.{lines_below}
use Rattle.chain_rounds.specs.Merged.{into, merged}
use Rattle.chain_rounds.specs.Told.{shown, told_by, told_merged, place_of}
use Rattle.chain_rounds.specs.declared.told_line.ToldLine.{ToldLine}
use Rattle.chain_run.specs.Laws.{MachineLaws}
use Rattle.chain_run.specs.OneStage.{IsInput}
use Rattle.chain_run.specs.Runs.{RunStart, began_with, told_to}
use Rattle.chain_run.specs.RunTold.{ClosesTold}
use Rattle.chain_run.specs.Working.{IsRunning}
use Rattle.chain_run.proofs.NumberLaws.{given-falls}
use Rattle.chain_tells.specs.Telling.{Tells}
use Rattle.chain_tells.specs.Rounds.{Round, lines_of_rounds, IsWithin, ReadsUpTo, SourceReaches, HasToldRounds, LiveRounds}

-- ---- the lines of a round are at its positions

module _ (from to : ℕ) where
  abbrev IsIn : Line → Type 0
  IsIn line = (from ≤ line.at) × (line.at < to)

  all-both : (xs ys : List Line) → AllByRecursion IsIn xs → AllByRecursion IsIn ys → AllByRecursion IsIn (xs ++ ys)
  all-both [] ys a b = b
  all-both (x ∷ xs) ys a b = (a.0, all-both xs ys a.1 b)

  at-one : (p : ℕ) (texts : List (List ℕ)) → from ≤ p → p < to → AllByRecursion IsIn (placed_at p texts)
  at-one p [] low high = tt
  at-one p (text ∷ texts) low high = ((low, high), at-one p texts low high)

  after-in : (rule : PluginRule) (history cells : List Cell) → from ≤ length history → length history + length cells ≤ to → AllByRecursion IsIn (placed_after rule history cells)
  after-in rule history [] low high = tt
  after-in rule history (Live packet labels ∷ cells) low high =
      let longer : length (history ++ Live packet labels ∷ []) ≡ length history + 1 = length-append history (Live packet labels ∷ []) in
      all-both (placed_at (length history) (rule.lines_of history packet labels)) (placed_after rule (history ++ Live packet labels ∷ []) cells)
      (at-one (length history) (rule.lines_of history packet labels) low (omega arith))
      (after-in rule (history ++ Live packet labels ∷ []) cells (omega arith) (omega arith))
  after-in rule history (Dropped ∷ cells) low high =
      let longer : length (history ++ Dropped ∷ []) ≡ length history + 1 = length-append history (Dropped ∷ []) in
      after-in rule (history ++ Dropped ∷ []) cells (omega arith) (omega arith)

  between-in : (rule : PluginRule) (history : List Cell) → AllByRecursion IsIn (placed_between rule history from to)
  between-in rule history = by-cells (drop from (take to history)) refl
    where
      by-cells : (cells : List Cell) → drop from (take to history) ≡ cells → AllByRecursion IsIn (placed_after rule (take from history) cells)
      by-cells [] is = tt
      by-cells (cell ∷ cells) is =
          let many : length (drop from (take to history)) ≡ suc (length cells) = ap (λ (l : List Cell). length l) is in
          let low : from ≤ length (take from history) = omega (arith, length-drop from (take to history), length-take to history, length-take from history) in
          let high : length (take from history) + suc (length cells) ≤ to = omega (arith, length-drop from (take to history), length-take to history, length-take from history) in
          after-in rule (take from history) (cell ∷ cells) low high

  by-plugin : (j : ℕ) (lines : List Line) → AllByRecursion IsIn lines → AllByRecursion (IsWithin from to) (map (told_by j) lines)
  by-plugin j [] all = tt
  by-plugin j (line ∷ lines) all = (all.0, by-plugin j lines all.1)

  in-into : (x : ToldLine) (rest : List ToldLine → List ToldLine) → IsWithin from to x
      → ((ys : List ToldLine) → AllByRecursion (IsWithin from to) ys → AllByRecursion (IsWithin from to) (rest ys))
      → (ys : List ToldLine) → AllByRecursion (IsWithin from to) ys → AllByRecursion (IsWithin from to) (into place_of x rest ys)
  in-into x rest own each [] all = (own, each [] tt)
  in-into x rest own each (y ∷ ys) all =
      elim (nat_lt (place_of y) (place_of x)) as (λ t. AllByRecursion (IsWithin from to) (if t then y ∷ into place_of x rest ys else x ∷ rest (y ∷ ys))) [
        | true ↦ (all.0, in-into x rest own each ys all.1)
        | false ↦ (own, each (y ∷ ys) all)
      ]

  in-merged : (xs ys : List ToldLine) → AllByRecursion (IsWithin from to) xs → AllByRecursion (IsWithin from to) ys → AllByRecursion (IsWithin from to) (merged place_of xs ys)
  in-merged [] ys a b = b
  in-merged (x ∷ xs) ys a b = in-into x (merged place_of xs) a.0 (λ zs c. in-merged xs zs a.1 c) ys b

  pub told-within : (met : ℕ → List Cell) (j : ℕ) (rules : List PluginRule) → AllByRecursion (IsWithin from to) (told_merged met from to j rules)
  told-within met j [] = tt
  told-within met j (rule ∷ rules) =
      in-merged (map (told_by (suc j)) (placed_between rule (met j) from to)) (told_merged met from to (suc j) rules)
      (by-plugin (suc j) (placed_between rule (met j) from to) (between-in rule (met j)))
      (told-within met (suc j) rules)

-- ---- the source at a round

abbrev now_of : {S : Type 0} → Option (Bor S) → Option S
now_of source = option_map (λ s. s.now) source

module _ {S K P : Type 0} (see : Seeing S K P) (laws : MachineLaws) (begun : RunStart S K) (taken : ℕ → ℕ) (core : CoreNumbers) (parts : List (StagePart S K P)) (cells : List Cell)
    (goes : IsRunning see (told_to begun taken) core parts cells) (to : ℕ) (given : to ≤ length ((state_after begun.plan goes.runs.visits).stages (suc begun.plan.plugins)).given)
    (part : StagePart S K P) (is : part ≡ slice_index_or parts 0 part) where
  first-is : part ≡ goes.runs.part 0
  first-is = is ∙ goes.runs.by.ran.parts_are 0 part (omega arith)

  abbrev lists : PartLists
  lists = goes.runs.lists 0

  input-is : IsInput see (told_to begun taken) (goes.runs.part 0) lists (written_of begun.plan (progress_of_stages (state_after begun.plan goes.runs.visits)))
  input-is = (goes.runs.by.ran.stands 0 (omega arith)).input refl

  reads-up-to : (source : S) → stream_kind part ≡ a_stream
      → ((lists : PartLists) (told : Option StageEnd) (stuffing : model.Stuffing) → PartStands see part lists told → stuffing_in part ≡ Some stuffing → WasRead stuffing lists.source (see.source source) lists)
      → ReadsUpTo see begun source to
  reads-up-to source streams known =
      let stands = goes.runs.by.ran.stands 0 (omega arith) in
      let state : ChainState = state_after begun.plan goes.runs.visits in
      let read = known lists (state.stages 0).ended begun.stuffing
      (subst (λ (p : StagePart S K P). PartStands see p lists (state.stages 0).ended) (sym first-is) stands.stands_for)
      (ap (λ (p : StagePart S K P). stuffing_in p) first-is ∙ input-is.stuffing_is) in
      let falls : length (state.stages (suc begun.plan.plugins)).given ≤ length (state.stages 0).given = given-falls laws begun.plan goes.fits.run.valid.users goes.runs.visits goes.runs.by.ran.run (suc begun.plan.plugins) 0 (omega arith) in
      let own : length lists.given ≡ length (state.stages 0).given = ap (λ (l : List Cell). length l) stands.given_is in
      record {
        stream = sym input-is.stream ∙ (sym (ap (λ (p : StagePart S K P). stream_kind p) first-is) ∙ streams);
        first = lists.source;
        first_is = input-is.source;
        read = lists.read;
        read_is = read.source;
        reach = farther read.reach (omega arith);
      }
    where
      farther : {A : Type 0} {n m : ℕ} → (A ⊎ (n ≤ m)) → to ≤ n → A ⊎ (to ≤ m)
      farther (inl a) le = inl a
      farther (inr few) le = inr (omega (arith, few, le))

  no-stream : (kind_of part ≡ an_input → stream_kind part ≢ a_stream) → source_kind begun.from ≢ a_stream
  no-stream none same =
      none (ap (λ (p : StagePart S K P). kind_of p) first-is ∙ input-is.kind)
      (ap (λ (p : StagePart S K P). stream_kind p) first-is ∙ input-is.stream ∙ same)

  pub source-reaches : (source : Option (Bor S))
      → IfSome source (λ s. (lists : PartLists) (told : Option StageEnd) (stuffing : model.Stuffing) → PartStands see part lists told → stuffing_in part ≡ Some stuffing → WasRead stuffing lists.source (see.source s.now) lists)
      → IfSome source (λ _. stream_kind part ≡ a_stream)
      → IfNone source (kind_of part ≡ an_input → stream_kind part ≢ a_stream)
      → SourceReaches see begun (now_of source) to
  source-reaches None known streams none = no-stream none
  source-reaches (Some source) known streams none = reads-up-to source.now streams known

-- ---- what was told

module _ {S K P L : Type 0} (see : Seeing S K P) (begun : RunStart S K) (plugins : List NamedRule) (name_of : ℕ → List ℕ)
    (hears : L → L → Round S → Type 0) (first was : L) (told : ℕ) (core : CoreNumbers) (parts : List (StagePart S K P)) (cells : List Cell)
    (has : HasToldRounds see begun plugins name_of hears first was told core parts cells)
    (core_new : CoreNumbers) (parts_new : List (StagePart S K P)) (cells_new : List Cell) where
  -- after a round of the stages, and where memory ran out
  pub rounds-still : Tells see begun plugins name_of (λ _. told) told (lines_of_rounds has.rounds) core_new parts_new cells_new
      → HasToldRounds see begun plugins name_of hears first was told core_new parts_new cells_new
  rounds-still tells = record { rounds = has.rounds; heard = has.heard; stand = has.stand; tells = tells }

  -- where the listener heard one more
  pub rounds-more : (to : ℕ) (lines : List ToldLine) (source : Option S) (now : L)
      → Tells see begun plugins name_of (λ _. to) to (lines_of_rounds has.rounds ++ lines) core_new parts_new cells_new
      → told ≤ to → AllByRecursion (IsWithin told to) lines → SourceReaches see begun source to
      → hears was now (record { lines = lines; source = source; from = told; to = to })
      → HasToldRounds see begun plugins name_of hears first now to core_new parts_new cells_new
  rounds-more to lines source now tells goes_on within reaches heard = record {
    rounds = (let round : Round S = record { lines = lines; source = source; from = told; to = to } in round) ∷ has.rounds;
    heard = (was, has.heard, refl, heard);
    stand = (record { goes_on = goes_on; lines = within; source = reaches }, has.stand);
    tells = tells;
  }

-- at the end
pub live-rounds : {S K P L : Type 0} (see : Seeing S K P) (plugins : List NamedRule) (name_of : ℕ → List ℕ)
    (hears : L → L → Round S → Type 0) (first now : L) (all : Bool) (told : ℕ) (from made_from : InputPart S) (stuffing : Stuffing)
    (met_none made : List (Heard P)) (to made_to : OutputPart K) (plan : CorePlan) (closed : Closed)
    (core : CoreNumbers) (parts : List (StagePart S K P)) (cells : List Cell)
    (has : HasToldRounds see (began_with see from stuffing met_none to plan) plugins name_of hears first now told core parts cells)
    (closes : ClosesTold see (λ _. told) has.tells.goes.runs.visits from made_from stuffing met_none made to made_to plan closed)
    → (all ≡ true → told ≡ (progress_of_core core (suc core.plan.plugins)).given)
    → told ≤ closed.cut
    → (told ≡ (progress_of_core core (suc plan.plugins)).given → told ≡ closed.cut)
    → map (shown name_of) (lines_of_rounds has.rounds) ≡ lines_below (record { input = closes.run.list; plugins = plugins; users = stages_of plan.users }) told
    → LiveRounds see plugins name_of hears first now all from made_from stuffing met_none made to made_to plan closed
live-rounds see plugins name_of hears first now all told from made_from stuffing met_none made to made_to plan closed core parts cells has closes each within whole lines = record {
  w = told;
  run = closes.run;
  rounds = has.rounds;
  heard = has.heard;
  stand = has.stand;
  lines = lines;
  within = within;
  whole = λ is. whole (each is ∙ ap (λ (p : CorePlan). (progress_of_core core (suc p.plugins)).given) has.tells.goes.fits.plan_is);
}

-- before the first round nothing was told
pub rounds-none : {S K P L : Type 0} (see : Seeing S K P) (begun : RunStart S K) (plugins : List NamedRule) (name_of : ℕ → List ℕ)
    (hears : L → L → Round S → Type 0) (first : L) (core : CoreNumbers) (parts : List (StagePart S K P)) (cells : List Cell)
    → Tells see begun plugins name_of (λ _. 0) 0 [] core parts cells
    → HasToldRounds see begun plugins name_of hears first first 0 core parts cells
rounds-none see begun plugins name_of hears first core parts cells tells = record { rounds = []; heard = (refl, refl); stand = tt; tells = tells }
