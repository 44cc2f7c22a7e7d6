-- The last lines of plugins that came back from a run.
use Rattle.std.proofs.Common.{◌≡◌, ℕ, zero, suc, ◌<◌, ◌≤◌, List, [], ◌∷◌, ◌++◌, length, map, take, drop, Bool, true, false, Result, is_ok, if◌then◌else◌, refl, ap, sym, ◌∙◌, subst, arith, append-nil}
use Rattle.std.specs.Prelude.{slice_index_or, slice_set}
use Rattle.std.specs.declared.alloc.AllocError.{AllocError}
use Rattle.std.proofs.lemmas.List.{length-take}
use Rattle.ts_packet.specs.declared.cell.Cell.{Cell}
use Rattle.chain_model.specs.Apply.{StageList}
use Rattle.chain_model.specs.PluginRule.{PluginRule}
use Rattle.chain_model.specs.StageLists.{stage_list}
use Rattle.plugin_trait.specs.Marks.{AllowsMark, GivesLines}
use Rattle.plugin_trait.specs.PlacedLines.{placed_after, placed_between}
use Rattle.plugin_trait.specs.declared.heard.Heard.{Heard}
use Rattle.plugin_trait.specs.declared.line.Line.{Line}
use Rattle.plugin_trait.proofs.Giving.{joined}
use Rattle.chain_rounds.specs.Merged.{merged}
use Rattle.chain_rounds.specs.Told.{told_by, told_merged, place_of}
use Rattle.chain_rounds.specs.declared.told_line.ToldLine.{ToldLine}
use Rattle.chain_run.specs.Met.{MetFirst, AllMetFirst}
use Rattle.chain_tells.specs.Waiting.{told_rows}
use Rattle.chain_tells.specs.declared.line_row.LineRow.{LineRow}
use Rattle.chain_tells.proofs.NextLemmas.{past-rows}
use Rattle.chain_live_threads.specs.Ending.{HeardFrom, rules_by, IsMarkedTo, TakesRest}
use Rattle.chain_live_threads.proofs.ToldLemmas.{any_default, set_same}

-- ---- places of a row

module _ {X : Type 0} where
  drop-at : (xs : List X) (j : ℕ) (d : X) → j < length xs → drop j xs ≡ slice_index_or xs j d ∷ drop (suc j) xs
  drop-at [] j d lt = absurd (omega (arith, lt))
  drop-at (x ∷ xs) zero d lt = refl
  drop-at (x ∷ xs) (suc j) d lt = drop-at xs j d (omega (arith, lt))

  drop-set : (xs : List X) (j : ℕ) (y : X) → j < length xs → drop j (slice_set xs j y) ≡ y ∷ drop (suc j) xs
  drop-set [] j y lt = absurd (omega (arith, lt))
  drop-set (x ∷ xs) zero y lt = refl
  drop-set (x ∷ xs) (suc j) y lt = drop-set xs j y (omega (arith, lt))

  drop-later : (xs : List X) (j : ℕ) (y : X) → drop (suc j) (slice_set xs j y) ≡ drop (suc j) xs
  drop-later [] j y = refl
  drop-later (x ∷ xs) zero y = refl
  drop-later (x ∷ xs) (suc j) y = drop-later xs j y

  drop-over : (xs : List X) (j : ℕ) → length xs ≤ j → drop j xs ≡ []
  drop-over [] zero le = refl
  drop-over [] (suc j) le = refl
  drop-over (x ∷ xs) zero le = absurd (omega (arith, le))
  drop-over (x ∷ xs) (suc j) le = drop-over xs j (omega (arith, le))

rules-set : {P : Type 0} (rule : P → PluginRule) (xs : List (Heard P)) (j : ℕ) (y : Heard P) → rule y.plugin ≡ rule (slice_index_or xs j y).plugin
    → rules_by rule (slice_set xs j y) ≡ rules_by rule xs
rules-set rule [] j y e = refl
rules-set rule (x ∷ xs) zero y e = ap (λ (r : PluginRule). r ∷ rules_by rule xs) e
rules-set rule (x ∷ xs) (suc j) y e = ap (λ (l : List PluginRule). rule x.plugin ∷ l) (rules-set rule xs j y e)

pub rules-one : {P : Type 0} (rule : P → PluginRule) (xs : List (Heard P)) (j : ℕ) (x y : Heard P) → j < length xs → x ≡ slice_index_or xs j x → rule y.plugin ≡ rule x.plugin
    → rules_by rule (slice_set xs j y) ≡ rules_by rule xs
rules-one rule xs j x y lt is same = rules-set rule xs j y (same ∙ ap (λ (z : Heard _). rule z.plugin) (is ∙ any_default xs j x y lt))

module _ {P : Type 0} (rule : P → PluginRule) (stands : P → List Cell → ℕ → Type 0) where
  -- one plugin that may be given the cut as its mark
  module _ (from cut count : ℕ) (list : List Cell) (heard : Heard P) (met : MetFirst (HeardFrom rule stands from) heard list count cut) where
    abbrev history : List Cell
    history = take count list

    long : cut ≤ length history
    long = let a = length-take count list in let b = met.reach in let c = met.within in omega (arith, a, b, c)

    pub allows : AllowsMark (stands heard.plugin) cut
    allows = record { history = history; mark = met.mark; holds = met.holds.holds; not_below = met.told; met = long }

    -- and was
    module _ (plugin : P) (lines : List Line) (answer : Result Unit AllocError) (same : rule plugin ≡ rule heard.plugin)
        (gives : GivesLines (rule heard.plugin) (stands heard.plugin) (stands plugin) cut heard.lines.items lines answer) where
      gave : stands plugin history (if is_ok answer then cut else met.mark) × (lines ≡ heard.lines.items ++ (if is_ok answer then placed_between (rule heard.plugin) history met.mark cut else []))
      gave = gives history met.mark met.holds.holds met.told long

      -- by how the call came out
      noted-by : (ok : Bool) → stands plugin history (if ok then cut else met.mark)
          → lines ≡ heard.lines.items ++ (if ok then placed_between (rule heard.plugin) history met.mark cut else [])
          → stands plugin history (if ok then cut else met.mark) × (lines ≡ placed_between (rule plugin) history from (if ok then cut else met.mark)) × (from ≤ (if ok then cut else met.mark))
      noted-by true holds are =
          let low = met.holds.taken in let high = met.told in (
            holds,
            are
                ∙ (ap (λ (l : List Line). l ++ placed_between (rule heard.plugin) history met.mark cut) met.holds.lines
                ∙ (joined (rule heard.plugin) history from met.mark cut low high
                ∙ ap (λ (r : PluginRule). placed_between r history from cut) (sym same))),
            omega (arith, low, high),
          )
      noted-by false holds are = (
        holds,
        are ∙ (append-nil heard.lines.items ∙ (met.holds.lines ∙ ap (λ (r : PluginRule). placed_between r history from met.mark) (sym same))),
        met.holds.taken,
      )

      abbrev mark_now : Bool → ℕ
      mark_now ok = if ok then cut else met.mark

      low-now : (ok : Bool) → mark_now ok ≤ cut
      low-now true = omega arith
      low-now false = met.told

      -- the plugin with its lines after that
      pub noted : (now : Heard P) → now.plugin ≡ plugin → now.lines.items ≡ lines → MetFirst (HeardFrom rule stands from) now list count cut
      noted now is_plugin is_lines =
          let n = noted-by (is_ok answer) gave.0 gave.1 in
          record {
            mark = mark_now (is_ok answer);
            holds = record {
              holds = subst (λ (p : P). stands p history (mark_now (is_ok answer))) (sym is_plugin) n.0;
              lines = is_lines ∙ (n.1 ∙ ap (λ (p : P). placed_between (rule p) history from (mark_now (is_ok answer))) (sym is_plugin));
              taken = n.2;
            };
            told = low-now (is_ok answer);
            reach = met.reach;
            within = met.within;
          }

      -- and it has the mark
      pub noted-mark : (now : Heard P) (a : now.plugin ≡ plugin) (b : now.lines.items ≡ lines) → is_ok answer ≡ true → (noted now a b).mark ≡ cut
      unfolding noted
      noted-mark now a b ok = ap mark_now ok

  -- of a plugin that has the cut as its mark the lines are taken away
  pub rest-taken : (from cut count : ℕ) (list : List Cell) (heard : Heard P) (met : MetFirst (HeardFrom rule stands from) heard list count cut) → met.mark ≡ cut
      → (now : Heard P) → now.plugin ≡ heard.plugin → now.lines.items ≡ []
      → MetFirst (HeardFrom rule stands cut) now list count cut × (heard.lines.items ≡ placed_between (rule heard.plugin) (take count list) from cut)
  rest-taken from cut count list heard met is now is_plugin none = (
    record {
      mark = cut;
      holds = record {
        holds = subst (λ (p : P). stands p (take count list) cut) (sym is_plugin) (subst (λ (n : ℕ). stands heard.plugin (take count list) n) is met.holds.holds);
        lines = none ∙ sym (nothing-between (rule now.plugin) (take count list) cut);
        taken = omega arith;
      };
      told = omega arith;
      reach = met.reach;
      within = met.within;
    },
    met.holds.lines ∙ ap (λ (n : ℕ). placed_between (rule heard.plugin) (take count list) from n) is,
  )
    where
      nothing-between : (r : PluginRule) (cells : List Cell) (n : ℕ) → placed_between r cells n n ≡ []
      nothing-between r cells n = ap (placed_after r (take n cells)) (drop-all cells n)
        where
          drop-all : (cells : List Cell) (n : ℕ) → drop n (take n cells) ≡ []
          drop-all cells zero = refl
          drop-all [] (suc n) = refl
          drop-all (x ∷ xs) (suc n) = drop-all xs n

  -- ---- the plugins from one on

  module _ (rules : List PluginRule) (input : StageList) (gave : ℕ → ℕ) (from cut : ℕ) where
    abbrev AllOf : ℕ → ℕ → List (Heard P) → Type 0
    AllOf n j plugins = AllMetFirst (HeardFrom rule stands n) rules input gave cut j plugins

    abbrev met_of : ℕ → List Cell
    met_of i = take (gave (suc i)) (stage_list rules input i).cells

    -- where no plugin is left
    pub takes-none : (j : ℕ) (plugins : List (Heard P)) (rows : List LineRow) → length plugins ≤ j → length rows ≤ j
        → TakesRest rule stands rules input gave from cut j (drop j plugins) (drop j plugins) (told_rows j (drop j rows))
    takes-none j plugins rows few over =
        let none : drop j plugins ≡ [] = drop-over plugins j few in
        record {
          met = subst (AllOf cut j) (sym none) tt;
          lines_are = past-rows rows j over ∙ sym (ap (λ (l : List (Heard P)). told_merged met_of from cut j (rules_by rule l)) none);
        }

    module _ (j : ℕ) (old : List (Heard P)) (lt : j < length old) (own : Heard P) (is : own ≡ slice_index_or old j own) where
      front : drop j old ≡ own ∷ drop (suc j) old
      front = drop-at old j own lt ∙ ap (λ (x : Heard P). x ∷ drop (suc j) old) (sym is)

      pub own-met : AllOf from j (drop j old) → MetFirst (HeardFrom rule stands from) own (stage_list rules input j).cells (gave (suc j)) cut
      own-met met = (subst (AllOf from j) front met).0

      pub later-met : (n : ℕ) → suc j ≡ n → (marked : Heard P) → AllOf from j (drop j old) → AllOf from n (drop n (slice_set old j marked))
      later-met n next marked met =
          subst (λ (k : ℕ). AllOf from k (drop k (slice_set old j marked))) next
          (subst (AllOf from (suc j)) (sym (drop-later old j marked)) (subst (AllOf from j) front met).1)

      -- memory ran out for its mark
      pub kept-one : (marked : Heard P) → MetFirst (HeardFrom rule stands from) marked (stage_list rules input j).cells (gave (suc j)) cut
          → AllOf from j (drop j old) → AllOf from j (drop j (slice_set old j marked))
      kept-one marked met all = subst (AllOf from j) (sym (drop-set old j marked lt)) (met, (subst (AllOf from j) front all).1)

      -- one was given its mark, and those after it were served
      module _ (marked : Heard P) (n : ℕ) (next : suc j ≡ n) (served : List (Heard P)) (long : length served ≡ length old)
          (untouched : (d : Heard P) → slice_index_or served j d ≡ slice_index_or (slice_set old j marked) j d) where
        within : j < length served
        within = omega (arith, lt, long)

        pub here : (d : Heard P) → slice_index_or served j d ≡ marked
        here d = untouched d ∙ set_same old j marked d lt

        -- out of memory
        pub keeps-later : MetFirst (HeardFrom rule stands from) marked (stage_list rules input j).cells (gave (suc j)) cut
            → AllOf from n (drop n served) → AllOf from j (drop j served)
        keeps-later met rest =
            subst (AllOf from j) (sym (drop-at served j marked within)) (
              subst (λ (x : Heard P). MetFirst (HeardFrom rule stands from) x (stage_list rules input j).cells (gave (suc j)) cut) (sym (here marked)) met,
              subst (λ (k : ℕ). AllOf from k (drop k served)) (sym next) rest,
            )

        -- and then gave its lines
        pub takes-more : IsMarkedTo rule stands from marked (stage_list rules input j).cells (gave (suc j)) cut → rule marked.plugin ≡ rule own.plugin
            → (others : List ToldLine) → TakesRest rule stands rules input gave from cut n (drop n (slice_set old j marked)) (drop n served) others
            → (taken : Heard P) → taken.plugin ≡ marked.plugin → taken.lines.items ≡ [] → (lines : List Line) → lines ≡ marked.lines.items
            → TakesRest rule stands rules input gave from cut j (drop j old) (drop j (slice_set served j taken)) (merged place_of (map (told_by (suc j)) lines) others)
        takes-more has same others rest taken is_plugin none lines are =
            let own_rest = rest-taken from cut (gave (suc j)) (stage_list rules input j).cells marked has.met has.mark_is taken is_plugin none in
            let own_lines : lines ≡ placed_between (rule own.plugin) (met_of j) from cut =
            are ∙ (own_rest.1 ∙ ap (λ (r : PluginRule). placed_between r (met_of j) from cut) same) in
            let later : others ≡ told_merged met_of from cut (suc j) (rules_by rule (drop (suc j) old)) =
            rest.lines_are
            ∙ (ap (λ (k : ℕ). told_merged met_of from cut k (rules_by rule (drop k (slice_set old j marked)))) (sym next)
            ∙ ap (λ (l : List (Heard P)). told_merged met_of from cut (suc j) (rules_by rule l)) (drop-later old j marked)) in
            record {
              met = subst (AllOf cut j) (sym (drop-set served j taken within))
                  (own_rest.0, subst (λ (k : ℕ). AllOf cut k (drop k served)) (sym next) rest.met);
              lines_are = (λ i. merged place_of (map (told_by (suc j)) (own_lines i)) (later i))
                  ∙ sym (ap (λ (l : List (Heard P)). told_merged met_of from cut j (rules_by rule l)) front);
            }
