-- What the stages after the input told so far stays right through a round, and grows where lines were taken away.
use Rattle.std.proofs.Common.{◌≡◌, ℕ, zero, suc, ◌<◌, ◌≤◌, List, [], ◌∷◌, ◌++◌, length, map, take, refl, ap, sym, ◌∙◌, subst, arith, append-nil}
use Rattle.std.proofs.lemmas.List.{map-append, length-map}
use Rattle.std.specs.Prelude.{slice_index_or}
use Rattle.cell_land.specs.declared.cell_window.Bases.{Bases}
use Rattle.atomic_table.specs.Seated.{TableId}
use Rattle.chain_model.specs.Each.{Each}
use Rattle.chain_model.specs.PluginRule.{PluginRule}
use Rattle.chain_model.specs.Reports.{NamedRule, rules_of}
use Rattle.chain_core.specs.Machine.{Visit}
use Rattle.chain_core.specs.ChainRun.{ChainRun, state_after}
use Rattle.stage_run.specs.Seeing.{Seeing}
use Rattle.chain_live.specs.LiveReports.{LiveLine, lines_to}
use Rattle.chain_live.proofs.LineLaws.{only-met}
use Rattle.chain_rounds.specs.Told.{shown, told_merged}
use Rattle.chain_rounds.specs.declared.told_line.ToldLine.{ToldLine}
use Rattle.chain_rounds.proofs.ShownLemmas.{shown-prints}
use Rattle.chain_run.specs.Runs.{RunStart, told_to}
use Rattle.chain_run.specs.Ran.{IsValidRun}
use Rattle.chain_tells.specs.Taking.{met_in}
use Rattle.chain_tells.specs.Live.{lines_of_rows}
use Rattle.chain_tells.specs.declared.printing.Printing.{Printing}
use Rattle.chain_tells.proofs.MetLemmas.{written-is, met-enough, met-stays, given-stays}
use Rattle.window_ring.specs.declared.ring.Ring.{Ring}
use Rattle.window_ring.specs.Seats.{seen_of, key_of, table_of}
use Rattle.chain_threads.specs.Standing.{key_at, written_by}
use Rattle.chain_threads.specs.Driving.{AreBeside}
use Rattle.chain_threads.specs.RunLaws.{RunLaws}
use Rattle.chain_live_threads.specs.declared.live_stage.LiveStage.{LiveStage}
use Rattle.chain_live_threads.specs.declared.telling.Telling.{Telling}
use Rattle.chain_live_threads.specs.Serving.{Serves}
use Rattle.chain_live_threads.specs.Marking.{IsSameBesidesPart}
use Rattle.chain_live_threads.specs.Rows.{AreReady, Carried}
use Rattle.chain_live_threads.specs.RowTells.{AreNumbered, seen_in_row, met_by, RowTells}
use Rattle.chain_live_threads.specs.RowTakes.{AllKnow, RowServes, RowGave}
use Rattle.chain_live_threads.specs.RowWent.{RowReady, RowWent}
use Rattle.chain_live_threads.proofs.Carries.{kept_open, kept_number, served}
use Rattle.chain_live_threads.proofs.ToldLemmas.{beside-numbers, beside-seen, beside-long}

some-of : {X : Type 0} (xs : List X) → 0 < length xs → X
some-of [] lt = absurd (omega (arith, lt))
some-of (x ∷ xs) lt = x

-- ---- a row that was driven

module _ {S K P : Type 0} (see : Seeing S K P) (ring : Ring) where
  pub carried-long : (row new : List (LiveStage S K P)) → Carried see ring row new → length new ≡ length row
  unfolding AreBeside
  carried-long [] [] c = refl
  carried-long [] (y ∷ ys) c = absurd c
  carried-long (x ∷ xs) [] c = absurd c
  carried-long (x ∷ xs) (y ∷ ys) c = ap suc (carried-long xs ys c.1)

  carried-numbers : (k : ℕ) (row new : List (LiveStage S K P)) → Carried see ring row new → AreNumbered k row → AreNumbered k new
  unfolding AreBeside
  carried-numbers k [] [] c are = tt
  carried-numbers k [] (y ∷ ys) c are = absurd c
  carried-numbers k (x ∷ xs) [] c are = absurd c
  carried-numbers k (x ∷ xs) (y ∷ ys) c are = (kept_number see ring x y c.0 ∙ are.0, carried-numbers (suc k) xs ys c.1 are.1)

  module _ (begun : RunStart S K) (base : Bases) (key : key_of ring ≡ key_at begun base) where
    carried-seen : (row new : List (LiveStage S K P)) → Carried see ring row new → Each (Serves see begun base (table_of ring)) row → (i : ℕ)
        → (more : List Visit) × (seen_in_row new i ≡ more ++ seen_in_row row i)
    unfolding AreBeside
    carried-seen [] [] c all i = ([], refl)
    carried-seen [] (y ∷ ys) c all i = absurd c
    carried-seen (x ∷ xs) [] c all i = absurd c
    carried-seen (x ∷ xs) (y ∷ ys) c all zero = (kept_open see ring x y c.0 begun base key all.0).1
    carried-seen (x ∷ xs) (y ∷ ys) c all (suc i) = carried-seen xs ys c.1 all.1 i

    pub carried-serves : (row new : List (LiveStage S K P)) → Carried see ring row new → RowServes see begun base (table_of ring) row → RowServes see begun base (table_of ring) new
    carried-serves row new c s = record {
      numbers = carried-numbers 1 row new c s.numbers;
      many = carried-long row new c ∙ s.many;
      rules_are = s.rules_are;
      serve = served see ring row new c begun base key s.serve;
    }

-- ---- what each stage has seen is a run

module _ {S K P : Type 0} (see : Seeing S K P) (begun : RunStart S K) (base : Bases) (table : TableId) where
  run-by : (stage : LiveStage S K P) → Serves see begun base table stage → (over : Rattle.std.specs.Prelude.Bool) → stage.over ≡ over → IsValidRun begun × ChainRun begun.plan (seen_of stage.seat)
  run-by stage s Rattle.std.specs.Prelude.false is = ((s.1.goes_on is).0.run, (s.1.goes_on is).0.seat_is.run)
  run-by stage s Rattle.std.specs.Prelude.true is = ((s.1.has_ended is).0.run, (s.1.has_ended is).0.seat_is.run)

  run-in : (row : List (LiveStage S K P)) (i : ℕ) → Each (Serves see begun base table) row → i < length row → IsValidRun begun × ChainRun begun.plan (seen_in_row row i)
  run-in [] i all lt = absurd (omega (arith, lt))
  run-in (x ∷ row) zero all lt = run-by x all.0 x.over refl
  run-in (x ∷ row) (suc i) all lt = run-in row i all.1 (omega (arith, lt))

  knows-in : (row : List (LiveStage S K P)) (i : ℕ) (d : LiveStage S K P) → Each (Serves see begun base table) row → i < length row → (slice_index_or row i d).written ≡ written_by see begun (seen_in_row row i)
  knows-in [] i d all lt = absurd (omega (arith, lt))
  knows-in (x ∷ row) zero d all lt = all.0.1.knows
  knows-in (x ∷ row) (suc i) d all lt = knows-in row i d all.1 (omega (arith, lt))

-- a row that tells has as many stages
module _ {S K P : Type 0} (see : Seeing S K P) (begun : RunStart S K) (base : Bases) (table : TableId) (plugins : List NamedRule) (name_of : ℕ → List ℕ) (laws : RunLaws see) where
  tells-serves : (w : ℕ) (told : List ToldLine) (row : List (LiveStage S K P)) → length begun.rules ≡ begun.plan.plugins → RowTells see begun base table plugins name_of w told row
      → RowServes see (told_to begun (λ _. w)) base table row
  tells-serves w told row rules t = record { numbers = t.numbers; many = t.many; rules_are = rules; serve = t.serve }

  counts : length begun.rules ≡ begun.plan.plugins → begun.rules ≡ rules_of plugins → length plugins ≡ begun.plan.plugins
  counts are rules = sym (length-map plugins (λ (plugin : NamedRule). plugin.rule)) ∙ (sym (ap (λ (l : List PluginRule). length l) rules) ∙ are)

  module _ (w : ℕ) (told : List ToldLine) (row : List (LiveStage S K P)) (t : RowTells see begun base table plugins name_of w told row) where
    begun_w : RunStart S K
    begun_w = told_to begun (λ _. w)

    valid-of : (i : ℕ) → i < length row → IsValidRun begun_w × ChainRun begun.plan (seen_in_row row i)
    unfolding begun_w
    valid-of i lt = run-in see (told_to begun (λ _. w)) base table row i t.serve lt

    valid : IsValidRun begun_w
    valid = (valid-of 0 (let m = t.many in omega (arith, m))).0

    rules-are : length begun.rules ≡ begun.plan.plugins
    unfolding begun_w
    rules-are = valid.rules_are

    many-plugins : length plugins ≡ begun.plan.plugins
    many-plugins = counts rules-are t.rules

    given-by : (j : ℕ) → j < begun.plan.plugins → w ≤ length ((state_after begun.plan (seen_in_row row j)).stages (suc begun.plan.plugins)).given
    unfolding begun_w
    given-by j lt =
        let r = valid-of j (let m = t.many in omega (arith, lt, m)) in
        let a = written-is laws.machine begun.plan r.0.valid.users (seen_in_row row j) r.1 in let b = t.within j lt in omega (arith, a, b)

    -- after a round
    module _ (ring : Ring) (is_table : table ≡ table_of ring) (key : key_of ring ≡ key_at begun base) (new : List (LiveStage S K P)) (c : Carried see ring row new) where
      serve-ring : Each (Serves see (told_to begun (λ _. w)) base (table_of ring)) row
      serve-ring = subst (λ (tb : TableId). Each (Serves see (told_to begun (λ _. w)) base tb) row) is_table t.serve

      seen-more : (i : ℕ) → (more : List Visit) × (seen_in_row new i ≡ more ++ seen_in_row row i)
      seen-more = carried-seen see ring (told_to begun (λ _. w)) base key row new c serve-ring

      serve-new : Each (Serves see (told_to begun (λ _. w)) base table) new
      serve-new = subst (λ (tb : TableId). Each (Serves see (told_to begun (λ _. w)) base tb) new) (sym is_table) (served see ring row new c (told_to begun (λ _. w)) base key serve-ring)

      run-new : (j : ℕ) → j < length row → ChainRun begun.plan ((seen-more j).0 ++ seen_in_row row j)
      run-new j lt = subst (ChainRun begun.plan) (seen-more j).1 (run-in see (told_to begun (λ _. w)) base table new j serve-new (let l = carried-long see ring row new c in omega (arith, lt, l))).1

      met-still : (j : ℕ) → j < length plugins → take w (met_by see begun row j) ≡ take w (met_by see begun new j)
      unfolding begun_w
      met-still j lt =
          let few : j < begun.plan.plugins = let m = many-plugins in omega (arith, lt, m) in
          let within : j < length row = let m = t.many in omega (arith, few, m) in
          met-stays laws.machine begun.plan valid.valid.users (seen-more j).0 (seen_in_row row j) (run-new j within) w j few (given-by j few)
          ∙ ap (λ (l : List Visit). take w (met_in (state_after begun.plan l) j)) (sym (seen-more j).1)

      pub tells-carried : RowTells see begun base table plugins name_of w told new
      unfolding begun_w
      tells-carried = record {
        rules = t.rules;
        names = t.names;
        numbers = carried-numbers see ring 1 row new c t.numbers;
        many = carried-long see ring row new c ∙ t.many;
        serve = serve-new;
        none = t.none;
        within = λ j lt.
            let within : j < length row = let m = t.many in omega (arith, lt, m) in
            let run : ChainRun begun.plan (seen_in_row new j) = (run-in see (told_to begun (λ _. w)) base table new j serve-new (let l = carried-long see ring row new c in omega (arith, within, l))).1 in
            let a = written-is laws.machine begun.plan valid.valid.users (seen_in_row new j) run in
            let b : w ≤ length ((state_after begun.plan (seen_in_row new j)).stages (suc begun.plan.plugins)).given =
            subst (λ (l : List Visit). w ≤ length ((state_after begun.plan l).stages (suc begun.plan.plugins)).given) (sym (seen-more j).1)
            (given-stays laws.machine begun.plan valid.valid.users (seen-more j).0 (seen_in_row row j) (run-new j within) w (given-by j lt)) in
            omega (arith, a, b);
        lines = t.lines ∙ only-met plugins (met_by see begun row) (met_by see begun new) w met-still;
      }

    -- after lines were taken away up to what all stages know
    module _ (some : 0 < begun.plan.plugins) (written : ℕ) (more : w ≤ written) (know : AllKnow row 0 written) (lines : List ToldLine) (new : List (LiveStage S K P)) (beside : AreBeside IsSameBesidesPart row new)
        (gave : RowGave see (told_to begun (λ _. w)) base table 0 lines row new) where
      know-by : (j : ℕ) → j < begun.plan.plugins → written ≡ written_by see begun (seen_in_row row j)
      unfolding begun_w
      know-by j lt =
          let one : LiveStage S K P = some-of row (let m = t.many in omega (arith, m)) in
          sym (know j one (omega arith) (let m = t.many in omega (arith, lt, m))) ∙ knows-in see (told_to begun (λ _. w)) base table row j one t.serve (let m = t.many in omega (arith, lt, m))

      enough : (j : ℕ) → j < length plugins → written ≤ length (met_by see begun row j)
      unfolding begun_w
      enough j lt =
          let few : j < begun.plan.plugins = let m = many-plugins in omega (arith, lt, m) in
          let r = valid-of j (let m = t.many in omega (arith, few, m)) in
          let a = written-is laws.machine begun.plan r.0.valid.users (seen_in_row row j) r.1 in let b = know-by j few in
          met-enough laws.machine begun.plan r.0.valid.users (seen_in_row row j) r.1 written j few (omega (arith, a, b))

      seen-same : (i : ℕ) → seen_in_row new i ≡ seen_in_row row i
      seen-same = beside-seen row new beside

      pub tells-taken : RowTells see begun base table plugins name_of written (told ++ lines) new
      unfolding begun_w
      tells-taken = record {
        rules = t.rules;
        names = t.names;
        numbers = beside-numbers 1 row new beside t.numbers;
        many = beside-long row new beside ∙ t.many;
        serve = gave.serves (λ _. written) written know (λ i lt. absurd (omega (arith, lt))) (λ i le lt. refl);
        none = λ e. absurd (omega (arith, some, e));
        within = λ j lt. let k = know-by j lt in let e = ap (written_by see begun) (seen-same j) in omega (arith, k, e);
        lines = map-append (shown name_of) told lines
            ∙ (ap (λ (l : List LiveLine). l ++ map (shown name_of) lines) t.lines
            ∙ (ap (λ (l : List ToldLine). lines_to (met_by see begun row) plugins w ++ map (shown name_of) l)
            (gave.lines_are w written more know (λ i le lt. refl) ∙ ap (told_merged (met_by see begun row) w written 0) t.rules)
            ∙ (shown-prints name_of (met_by see begun row) plugins w written more enough t.names
            ∙ only-met plugins (met_by see begun row) (met_by see begun new) written
            (λ j lt. ap (λ (l : List Visit). take written (met_in (state_after begun.plan l) j)) (sym (seen-same j))))));
      }

    -- what all of them know is no less than what was told
    pub told-below : 0 < begun.plan.plugins → (written : ℕ) → AllKnow row 0 written → w ≤ written
    told-below some written know =
        let one : LiveStage S K P = some-of row (let m = t.many in omega (arith, m)) in
        let a = know 0 one (omega arith) (let m = t.many in omega (arith, some, m)) in
        let b = knows-in see (told_to begun (λ _. w)) base table row 0 one t.serve (let m = t.many in omega (arith, m)) in
        let d = t.within 0 some in
        omega (arith, a, b, d)

    -- after lines could not be taken away
    module _ (new : List (LiveStage S K P)) (beside : AreBeside IsSameBesidesPart row new) (serve_new : Each (Serves see (told_to begun (λ _. w)) base table) new) where
      still-seen : (i : ℕ) → seen_in_row new i ≡ seen_in_row row i
      still-seen = beside-seen row new beside

      pub tells-kept : RowTells see begun base table plugins name_of w told new
      tells-kept = record {
        rules = t.rules;
        names = t.names;
        numbers = beside-numbers 1 row new beside t.numbers;
        many = beside-long row new beside ∙ t.many;
        serve = serve_new;
        none = t.none;
        within = λ j lt. subst (λ (l : List Visit). w ≤ written_by see begun l) (sym (still-seen j)) (t.within j lt);
        lines = t.lines ∙ only-met plugins (met_by see begun row) (met_by see begun new) w
            (λ j lt. ap (λ (l : List Visit). take w (met_in (state_after begun.plan l) j)) (sym (still-seen j)));
      }

-- ---- what was driven, as a whole

module _ {S K P L : Type 0} (see : Seeing S K P) (ring : Ring) (hears : L → L → List ToldLine → Type 0) where
  pub went_same : (now : L) (told : ℕ) (row : List (LiveStage S K P)) → RowWent see ring hears now now told told row row
  went_same now told row = record { long = refl; serves = λ begun base e s. s; tells = λ begun base plugins name_of first e t. t }

  pub went_then : (a b c : L) (told1 told2 told3 : ℕ) (one two three : List (LiveStage S K P)) → RowWent see ring hears a b told1 told2 one two → RowWent see ring hears b c told2 told3 two three
      → RowWent see ring hears a c told1 told3 one three
  went_then a b c told1 told2 told3 one two three x y = record {
    long = y.long ∙ x.long;
    serves = λ begun base e s. y.serves begun base e (x.serves begun base e s);
    tells = λ begun base plugins name_of first e t. y.tells begun base plugins name_of first e (x.tells begun base plugins name_of first e t);
  }

  pub went_ready : (a b : L) (told told2 : ℕ) (one two : List (LiveStage S K P)) → RowWent see ring hears a b told told2 one two → RowReady see ring told one → RowReady see ring told2 two
  unfolding RowReady
  went_ready a b told told2 one two x r = (r.0, r.1, r.2, x.serves r.0 r.1 r.2 r.3)

  pub went_round : RunLaws see → (now : L) (told : ℕ) (row new : List (LiveStage S K P)) → Carried see ring row new → RowWent see ring hears now now told told row new
  went_round laws now told row new c = record {
    long = carried-long see ring row new c;
    serves = λ begun base e s. carried-serves see ring (told_to begun (λ _. told)) base e row new c s;
    tells = λ begun base plugins name_of first e t. record {
      rows = t.rows;
      heard = t.heard;
      tells = tells-carried see begun base (table_of ring) plugins name_of laws told (lines_of_rows t.rows) row t.tells ring refl e new c;
    };
  }

-- the same of values that are equal
module _ {S K P D : Type 0} (see : Seeing S K P) (ring : Ring) (hears : Printing × D → Printing × D → List ToldLine → Type 0) where
  pub went-by : (row row2 : List (LiveStage S K P)) → row ≡ row2 → (new new2 : List (LiveStage S K P)) → new ≡ new2
      → (was was2 : Telling) → was ≡ was2 → (now now2 : Telling) → now ≡ now2 → (desk desk2 : D) → desk ≡ desk2 → (left left2 : D) → left ≡ left2
      → RowWent see ring hears (was.printing, desk) (now.printing, left) was.told now.told row new
      → RowWent see ring hears (was2.printing, desk2) (now2.printing, left2) was2.told now2.told row2 new2
  went-by row row2 is_row new new2 is_new was was2 is_was now now2 is_now desk desk2 is_desk left left2 is_left went =
      subst (λ (l : List (LiveStage S K P)). RowWent see ring hears (was2.printing, desk2) (now2.printing, left2) was2.told now2.told l new2) is_row
      (subst (λ (l : List (LiveStage S K P)). RowWent see ring hears (was2.printing, desk2) (now2.printing, left2) was2.told now2.told row l) is_new
      (subst (λ (t : Telling). RowWent see ring hears (t.printing, desk2) (now2.printing, left2) t.told now2.told row new) is_was
      (subst (λ (t : Telling). RowWent see ring hears (was.printing, desk2) (t.printing, left2) was.told t.told row new) is_now
      (subst (λ (d : D). RowWent see ring hears (was.printing, d) (now.printing, left2) was.told now.told row new) is_desk
      (subst (λ (d : D). RowWent see ring hears (was.printing, desk) (now.printing, d) was.told now.told row new) is_left went)))))

-- ---- after lines were taken away, or could not be

module _ {S K P L : Type 0} (see : Seeing S K P) (laws : RunLaws see) (ring : Ring) (hears : L → L → List ToldLine → Type 0) (told : ℕ) (row new : List (LiveStage S K P))
    (beside : AreBeside IsSameBesidesPart row new) where
  pub went-kept : (now : L) → ((begun : RunStart S K) (base : Bases) (table : TableId) → RowServes see begun base table row → RowServes see begun base table new)
      → RowWent see ring hears now now told told row new
  went-kept now keeps = record {
    long = beside-long row new beside;
    serves = λ begun base e s. keeps (told_to begun (λ _. told)) base (table_of ring) s;
    tells = λ begun base plugins name_of first e t.
        let valid = rules-are see begun base (table_of ring) plugins name_of laws told (lines_of_rows t.rows) row t.tells in
        let s = keeps (told_to begun (λ _. told)) base (table_of ring) (tells-serves see begun base (table_of ring) plugins name_of laws told (lines_of_rows t.rows) row valid t.tells) in
        record {
          rows = t.rows;
          heard = t.heard;
          tells = tells-kept see begun base (table_of ring) plugins name_of laws told (lines_of_rows t.rows) row t.tells new beside s.serve;
        };
  }

  module _ (some : 2 ≤ length row) (written : ℕ) (know : AllKnow row 0 written) (lines : List ToldLine)
      (gave : (begun : RunStart S K) (base : Bases) (table : TableId) → RowServes see begun base table row → RowGave see begun base table 0 lines row new) where
    served-on : (begun : RunStart S K) (base : Bases) → RowServes see (told_to begun (λ _. told)) base (table_of ring) row
        → RowServes see (told_to begun (λ _. written)) base (table_of ring) new
    served-on begun base s = record {
      numbers = beside-numbers 1 row new beside s.numbers;
      many = beside-long row new beside ∙ s.many;
      rules_are = s.rules_are;
      serve = (gave (told_to begun (λ _. told)) base (table_of ring) s).serves (λ _. written) written know (λ i lt. absurd (omega (arith, lt))) (λ i le lt. refl);
    }

    told-on : (begun : RunStart S K) (base : Bases) (plugins : List NamedRule) (name_of : ℕ → List ℕ) (before : List ToldLine)
        → RowTells see begun base (table_of ring) plugins name_of told before row → RowTells see begun base (table_of ring) plugins name_of written (before ++ lines) new
    told-on begun base plugins name_of before t =
        let valid = rules-are see begun base (table_of ring) plugins name_of laws told before row t in
        let plugin : 0 < begun.plan.plugins = let m = t.many in omega (arith, some, m) in
        tells-taken see begun base (table_of ring) plugins name_of laws told before row t plugin written
        (told-below see begun base (table_of ring) plugins name_of laws told before row t plugin written know) know lines new beside
        (gave (told_to begun (λ _. told)) base (table_of ring) (tells-serves see begun base (table_of ring) plugins name_of laws told before row valid t))

    -- where no line is new
    pub went-silent : (now : L) → lines ≡ [] → RowWent see ring hears now now told written row new
    went-silent now none = record {
      long = beside-long row new beside;
      serves = λ begun base e s. served-on begun base s;
      tells = λ begun base plugins name_of first e t. record {
        rows = t.rows;
        heard = t.heard;
        tells = subst (λ (l : List ToldLine). RowTells see begun base (table_of ring) plugins name_of written l new)
            (ap (λ (l : List ToldLine). lines_of_rows t.rows ++ l) none ∙ append-nil (lines_of_rows t.rows))
            (told-on begun base plugins name_of (lines_of_rows t.rows) t.tells);
      };
    }

    -- where the listener heard them
    pub went-told : (was now : L) → 0 < length lines → hears was now lines → RowWent see ring hears was now told written row new
    went-told was now more heard = record {
      long = beside-long row new beside;
      serves = λ begun base e s. served-on begun base s;
      tells = λ begun base plugins name_of first e t. record {
        rows = lines ∷ t.rows;
        heard = (was, t.heard, more, heard);
        tells = told-on begun base plugins name_of (lines_of_rows t.rows) t.tells;
      };
    }

pub ready-row : {S K P : Type 0} (see : Seeing S K P) (ring : Ring) (told : ℕ) (row : List (LiveStage S K P)) → RowReady see ring told row → AreReady see ring row
unfolding RowReady AreReady
ready-row see ring told row r = (told_to r.0 (λ _. told), r.1, r.2, r.3.serve)

pub row-may : {S K P : Type 0} (see : Seeing S K P) (ring : Ring) (told : ℕ) (row : List (LiveStage S K P)) → RowReady see ring told row
    → (begun : RunStart S K) × (base : Bases) × (table : TableId) × RowServes see begun base table row
unfolding RowReady
row-may see ring told row r = (told_to r.0 (λ _. told), r.1, table_of ring, r.3)
