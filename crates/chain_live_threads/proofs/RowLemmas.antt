-- Lines are taken away from the plugins of a row, one after another.
use Rattle.std.proofs.Common.{◌≡◌, ◌≢◌, ℕ, zero, suc, ◌+◌, ◌<◌, ◌≤◌, List, [], ◌∷◌, length, map, take, drop, ◌==◌, if◌then◌else◌, Bool, refl, ap, sym, ◌∙◌, subst, arith, inl, inr}
use Rattle.std.specs.Prelude.{slice_index_or, slice_set}
use Rattle.std.proofs.lemmas.Bool.{cases_eq, eq-eqb, ne_eqb}
use Rattle.std.proofs.lemmas.List.{length-set, get_or-set_other}
use Rattle.cell_land.specs.declared.cell_window.Bases.{Bases}
use Rattle.atomic_table.specs.Seated.{TableId}
use Rattle.ts_packet.specs.declared.cell.Cell.{Cell}
use Rattle.chain_model.specs.PluginRule.{PluginRule}
use Rattle.chain_model.specs.StageLists.{rule_after}
use Rattle.chain_core.specs.Machine.{Visit}
use Rattle.chain_core.specs.ChainRun.{state_after}
use Rattle.plugin_trait.specs.PlacedLines.{placed_between}
use Rattle.plugin_trait.specs.declared.line.Line.{Line}
use Rattle.stage_run.specs.Seeing.{Seeing}
use Rattle.chain_rounds.specs.Merged.{merged}
use Rattle.chain_rounds.specs.Told.{told_by, told_merged, place_of}
use Rattle.chain_rounds.specs.declared.told_line.ToldLine.{ToldLine}
use Rattle.chain_run.specs.Runs.{RunStart, told_to}
use Rattle.chain_tells.specs.Taking.{met_in}
use Rattle.chain_tells.specs.Waiting.{told_rows}
use Rattle.chain_tells.specs.declared.line_row.LineRow.{LineRow}
use Rattle.chain_tells.proofs.NextLemmas.{past-rows, set-row}
use Rattle.window_ring.specs.Seats.{seen_of}
use Rattle.chain_threads.specs.Driving.{AreBeside}
use Rattle.chain_threads.proofs.Carries.{each_at}
use Rattle.chain_live_threads.specs.declared.live_stage.LiveStage.{LiveStage}
use Rattle.chain_live_threads.specs.Serving.{Serves}
use Rattle.chain_live_threads.specs.Marking.{IsSameBesidesPart, IsPluginAt, GaveLines, ServesTaken}
use Rattle.chain_live_threads.specs.RowTells.{AreNumbered, seen_in_row, met_by}
use Rattle.chain_live_threads.specs.RowTakes.{AllKnow, RowServes, RowGave}
use Rattle.chain_live_threads.proofs.ToldLemmas.{any_default, set_same, seen-at, number-at, numbered-set, seen-set, beside-set, beside-more, beside-long, each-set, each-told, each-told-set, beside-numbers, placed-by-first}

-- positions by number, of which one is changed
abbrev with_one : (ℕ → ℕ) → ℕ → ℕ → ℕ → ℕ
with_one told j written i = if i == j then written else told i

with-own : (told : ℕ → ℕ) (j written : ℕ) → with_one told j written j ≡ written
with-own told j written = ap (λ (b : Bool). if b then written else told j) (eq-eqb j j refl)

with-other : (told : ℕ → ℕ) (j written i : ℕ) → i ≢ j → with_one told j written i ≡ told i
with-other told j written i apart = ap (λ (b : Bool). if b then written else told i) (ne_eqb i j apart)

drop-rule : (rules : List PluginRule) (j : ℕ) → j < length rules → drop j rules ≡ rule_after rules j ∷ drop (suc j) rules
drop-rule [] j lt = absurd (omega arith)
drop-rule (rule ∷ rules) zero lt = refl
drop-rule (rule ∷ rules) (suc j) lt = drop-rule rules j (omega arith)

drop-none : (rules : List PluginRule) (j : ℕ) → length rules ≤ j → drop j rules ≡ []
drop-none [] zero le = refl
drop-none [] (suc j) le = refl
drop-none (rule ∷ rules) zero le = absurd (omega arith)
drop-none (rule ∷ rules) (suc j) le = drop-none rules j (omega arith)

-- lines by the same cells
merged-same : (one other : ℕ → List Cell) → ((i : ℕ) → one i ≡ other i) → (from to j : ℕ) (rules : List PluginRule) → told_merged one from to j rules ≡ told_merged other from to j rules
merged-same one other same from to j [] = refl
merged-same one other same from to j (rule ∷ rules) =
    (λ i. merged place_of (map (told_by (suc j)) (placed_between rule (same j i) from to)) (merged-same one other same from to (suc j) rules i))

module _ {S K P : Type 0} (see : Seeing S K P) (begun : RunStart S K) (base : Bases) (table : TableId) where
  pub plugin-at : (row : List (LiveStage S K P)) (j : ℕ) (d : LiveStage S K P) → RowServes see begun base table row → j + 1 < length row → IsPluginAt see begun base table j (slice_index_or row j d)
  plugin-at row j d s lt = record {
    number = number-at 1 row j d s.numbers (omega (arith, lt)) ∙ (let e : 1 + j ≡ suc j = omega arith in e);
    among = (let m = s.many in omega (arith, lt, m));
  }

  pub serves-at : (row : List (LiveStage S K P)) (j : ℕ) (d : LiveStage S K P) → RowServes see begun base table row → j + 1 < length row → Serves see begun base table (slice_index_or row j d)
  serves-at row j d s lt = each_at (Serves see begun base table) row j d s.serve (omega (arith, lt))

  -- a row with another part in one stage, which serves
  pub serves-set : (row : List (LiveStage S K P)) (j : ℕ) (new : LiveStage S K P) → RowServes see begun base table row → IsSameBesidesPart (slice_index_or row j new) new → Serves see begun base table new
      → RowServes see begun base table (slice_set row j new)
  serves-set row j new s same one = record {
    numbers = numbered-set 1 row j new s.numbers same;
    many = length-set row j new ∙ s.many;
    rules_are = s.rules_are;
    serve = each-set see begun base table row j new s.serve one;
  }

  -- where no plugin is left
  pub gave-none : (row : List (LiveStage S K P)) (j : ℕ) (rows : List LineRow) → RowServes see begun base table row → length rows + 1 ≡ length row → length row ≤ j + 1
      → RowGave see begun base table j (told_rows j (drop j rows)) row row
  gave-none row j rows s many over = record {
    serves = λ told written know low high. each-told see begun base table told 0 row s.numbers (λ i le lt. low i (let m = s.many in omega (arith, lt, over, m))) s.serve;
    lines_are = λ from written le know same. past-rows rows j (omega (arith, many, over))
        ∙ sym (ap (told_merged (met_by see begun row) from written j) (drop-none begun.rules j (let m = s.many in let r = s.rules_are in omega (arith, over, m, r))));
  }

  -- one plugin was given its mark, those after it gave their lines, and it gave its own
  module _ (row : List (LiveStage S K P)) (j : ℕ) (s : RowServes see begun base table row) (lt : j + 1 < length row)
      (marked : LiveStage S K P) (same : IsSameBesidesPart (slice_index_or row j marked) marked)
      (row2 : List (LiveStage S K P)) (beside : AreBeside IsSameBesidesPart (slice_set row j marked) row2) (others : List ToldLine)
      (rest : RowGave see begun base table (suc j) others (slice_set row j marked) row2)
      (taken : LiveStage S K P) (same3 : IsSameBesidesPart (slice_index_or row2 j taken) taken) (lines : List Line)
      (gave : GaveLines see begun base table j taken lines) (serves3 : ServesTaken see begun base table j taken)
      (seen3 : seen_of taken.seat ≡ seen_in_row row j) (written3 : (d : LiveStage S K P) → taken.written ≡ (slice_index_or row j d).written) where
    seen-marked : (i : ℕ) → seen_in_row (slice_set row j marked) i ≡ seen_in_row row i
    seen-marked = seen-set row j marked same

    -- the others know what they did
    know-marked : (written : ℕ) → AllKnow row j written → AllKnow (slice_set row j marked) (suc j) written
    know-marked written know = λ i d le few.
        ap (λ (x : LiveStage S K P). x.written) (get_or-set_other row j i marked d (λ e. absurd (omega (arith, e, le))))
        ∙ know i d (omega (arith, le)) (let l = length-set row j marked in omega (arith, few, l))

    numbers2 : AreNumbered 1 row2
    numbers2 = beside-numbers 1 (slice_set row j marked) row2 beside (numbered-set 1 row j marked s.numbers same)

    pub gave-more : RowGave see begun base table j (merged place_of (map (told_by (suc j)) lines) others) row (slice_set row2 j taken)
    gave-more = record {
      serves = λ told written know low high.
          let before : ℕ → ℕ = with_one told j (begun.told j) in
          let all = rest.serves before written (know-marked written know)
          (λ i le. elim (cases_eq i j) [
            | inl is ↦ ap before is ∙ (with-own told j (begun.told j) ∙ sym (ap begun.told is))
            | inr apart ↦ with-other told j (begun.told j) i apart ∙ low i (below i le apart)
          ])
          (λ i le few. with-other told j (begun.told j) i (λ e. absurd (omega (arith, e, le))) ∙ high i (omega (arith, le)) few) in
          each-told-set see (told_to begun before) base table told 0 row2 j taken numbers2
          (λ i le apart few. sym (with-other told j (begun.told j) i (λ e. apart (omega (arith, e)))))
          all (serves3 told (high j (omega arith) (let m = s.many in omega (arith, lt, m)) ∙ sym (written3 taken ∙ know j taken (omega arith) lt)));
      lines_are = λ from written le know same_from.
          let among : j < begun.plan.plugins = let m = s.many in omega (arith, lt, m) in
          let knows : taken.written ≡ written = written3 taken ∙ know j taken (omega arith) lt in
          let own : lines ≡ placed_between (rule_after begun.rules j) (met_by see begun row j) from written =
          gave.lines_are
          ∙ ((λ i. placed_between (rule_after begun.rules j) gave.history (same_from j (omega arith) among i) (knows i))
          ∙ placed-by-first (rule_after begun.rules j) gave.history (met_by see begun row j) from written le
          (subst (λ (n : ℕ). take n gave.history ≡ take n (met_by see begun row j)) knows
          (gave.first ∙ ap (λ (l : List Visit). take taken.written (met_in (state_after begun.plan l) j)) seen3))) in
          let after : others ≡ told_merged (met_by see begun row) from written (suc j) (drop (suc j) begun.rules) =
          rest.lines_are from written le (know-marked written know) (λ i more few. same_from i (omega (arith, more)) few)
          ∙ merged-same (met_by see begun (slice_set row j marked)) (met_by see begun row) (λ i. ap (λ (l : List Visit). met_in (state_after begun.plan l) i) (seen-marked i)) from written (suc j) (drop (suc j) begun.rules) in
          (λ i. merged place_of (map (told_by (suc j)) (own i)) (after i))
          ∙ sym (ap (told_merged (met_by see begun row) from written j) (drop-rule begun.rules j (let r = s.rules_are in omega (arith, among, r))));
    }
      where
        below : (i : ℕ) → i < suc j → i ≢ j → i < j
        below i le apart = elim (cases_eq i j) [
          | inl is ↦ absurd (apart is)
          | inr other ↦ omega (arith, le, other)
        ]

-- ---- one stage was given its mark, the row was served on, and the stage gave its lines

module _ {S K P : Type 0} (row : List (LiveStage S K P)) (j : ℕ) (d marked : LiveStage S K P) (lt : j + 1 < length row) (same : IsSameBesidesPart (slice_index_or row j d) marked) where
  within : j < length row
  within = omega (arith, lt)

  own-same : IsSameBesidesPart (slice_index_or row j marked) marked
  own-same = subst (λ (x : LiveStage S K P). IsSameBesidesPart x marked) (any_default row j d marked within) same

  pub one-beside : AreBeside IsSameBesidesPart row (slice_set row j marked)
  one-beside = beside-set row j marked own-same

  pub one-other : (i : ℕ) (e : LiveStage S K P) → i < j → slice_index_or (slice_set row j marked) i e ≡ slice_index_or row i e
  one-other i e less = get_or-set_other row j i marked e (λ is. absurd (omega (arith, is, less)))

  module _ (see : Seeing S K P) (begun : RunStart S K) (base : Bases) (table : TableId) (s : RowServes see begun base table row) (serves : Serves see begun base table marked) where
    pub one-serves : RowServes see begun base table (slice_set row j marked)
    one-serves = serves-set see begun base table row j marked s own-same serves

  -- and then
  module _ (row2 : List (LiveStage S K P)) (beside : AreBeside IsSameBesidesPart (slice_set row j marked) row2)
      (untouched : (i : ℕ) (e : LiveStage S K P) → i < j + 1 → slice_index_or row2 i e ≡ slice_index_or (slice_set row j marked) i e) where
    long2 : length row2 ≡ length row
    long2 = beside-long (slice_set row j marked) row2 beside ∙ length-set row j marked

    pub here : (e : LiveStage S K P) → slice_index_or row2 j e ≡ marked
    here e = untouched j e (omega arith) ∙ set_same row j marked e within

    pub later-beside : AreBeside IsSameBesidesPart row row2
    later-beside = beside-more row (slice_set row j marked) row2 one-beside beside

    pub later-other : (i : ℕ) (e : LiveStage S K P) → i < j → slice_index_or row2 i e ≡ slice_index_or row i e
    later-other i e less = untouched i e (omega (arith, less)) ∙ one-other i e less

    -- the stage is still that of the plugin
    pub at-later : (see : Seeing S K P) (begun : RunStart S K) (base : Bases) (table : TableId) (e : LiveStage S K P) → IsPluginAt see begun base table j (slice_index_or row j d)
        → IsPluginAt see begun base table j (slice_index_or row2 j e)
    at-later see begun base table e at = subst (IsPluginAt see begun base table j) (sym (here e)) (record { number = ap (λ seat. seat.stage) same.seat ∙ at.number; among = at.among })

    module _ (e taken : LiveStage S K P) (same3 : IsSameBesidesPart (slice_index_or row2 j e) taken) where
      within2 : j < length row2
      within2 = let l = long2 in omega (arith, lt, l)

      own-same3 : IsSameBesidesPart (slice_index_or row2 j taken) taken
      own-same3 = subst (λ (x : LiveStage S K P). IsSameBesidesPart x taken) (any_default row2 j e taken within2) same3

      pub all-beside : AreBeside IsSameBesidesPart row (slice_set row2 j taken)
      all-beside = beside-more row row2 (slice_set row2 j taken) later-beside (beside-set row2 j taken own-same3)

      pub all-other : (i : ℕ) (f : LiveStage S K P) → i < j → slice_index_or (slice_set row2 j taken) i f ≡ slice_index_or row i f
      all-other i f less = get_or-set_other row2 j i taken f (λ is. absurd (omega (arith, is, less))) ∙ later-other i f less

      seat3 : taken.seat ≡ (slice_index_or row j d).seat
      seat3 = same3.seat ∙ (ap (λ (x : LiveStage S K P). x.seat) (here e) ∙ same.seat)

      written3 : (f : LiveStage S K P) → taken.written ≡ (slice_index_or row j f).written
      written3 f = same3.written ∙ (ap (λ (x : LiveStage S K P). x.written) (here e) ∙ (same.written ∙ ap (λ (x : LiveStage S K P). x.written) (any_default row j d f within)))

      pub row-gave : (see : Seeing S K P) (begun : RunStart S K) (base : Bases) (table : TableId) → RowServes see begun base table row
          → (n : ℕ) → n ≡ suc j → (rows rows3 : List LineRow) → RowGave see begun base table n (told_rows n (drop n rows)) (slice_set row j marked) row2
          → (lines : List Line) → GaveLines see begun base table j taken lines × ServesTaken see begun base table j taken
          → j < length rows → (one : LineRow) → one.lines.items ≡ lines → rows3 ≡ slice_set rows j one
          → RowGave see begun base table j (told_rows j (drop j rows3)) row (slice_set row2 j taken)
      row-gave see begun base table s n next rows rows3 rest lines gave few one are put =
          let others : List ToldLine = told_rows (suc j) (drop (suc j) rows) in
          let given : RowGave see begun base table (suc j) others (slice_set row j marked) row2 =
          subst (λ (k : ℕ). RowGave see begun base table k (told_rows k (drop k rows)) (slice_set row j marked) row2) next rest in
          subst (λ (l : List ToldLine). RowGave see begun base table j l row (slice_set row2 j taken))
          (sym (ap (λ (l : List LineRow). told_rows j (drop j l)) put
          ∙ (set-row rows j one few
          ∙ ap (λ (l : List Line). merged place_of (map (told_by (suc j)) l) others) are)))
          (gave-more see begun base table row j s lt marked own-same row2 beside others given taken own-same3 lines gave.0 gave.1
          (ap seen_of seat3 ∙ sym (seen-at row j d within)) written3)
