-- A plugin of which lines were taken away.
use Rattle.std.proofs.Common.{◌≡◌, ◌≤◌, ℕ, zero, suc, List, [], ◌∷◌, ◌++◌, length, take, drop, Bool, true, false, Option, Result, is_ok, is_some, if◌then◌else◌, refl, ap, sym, ◌∙◌, arith, append-nil, subst}
use Rattle.std.proofs.lemmas.List.{take-append-le}
use Rattle.ts_packet.specs.declared.cell.Cell.{Cell}
use Rattle.chain_model.specs.PluginRule.{PluginRule}
use Rattle.plugin_trait.specs.PlacedLines.{placed_after, placed_between}
use Rattle.plugin_trait.specs.HeardStands.{HeardStands}
use Rattle.plugin_trait.specs.declared.heard.Heard.{Heard}
use Rattle.plugin_trait.specs.declared.line.Line.{Line}
use Rattle.std.specs.declared.alloc.AllocError.{AllocError}
use Rattle.chain_model.specs.Apply.{apply}
use Rattle.chain_model.specs.Joint.{agreement_of}
use Rattle.chain_core.specs.declared.stage_end.StageEnd.{StageEnd}
use Rattle.plugin_trait.proofs.Giving.{joined}
use Rattle.stage_run.specs.HeardSince.{HeardSince}
use Rattle.stage_run.specs.PartLists.{PartLists, marked_by, lines_taken}
use Rattle.stage_run.specs.PluginStands.{PluginStands}
use Rattle.stage_run.specs.declared.plugin_stage.PluginStage.{PluginStage}

-- cells that are met later change no line before them
pub between-more : (rule : PluginRule) (history more : List Cell) (from to : ℕ) → from ≤ to → to ≤ length history
    → placed_between rule history from to ≡ placed_between rule (history ++ more) from to
between-more rule history more from to low high =
    ap (λ (cells : List Cell). placed_after rule cells (drop from (take to history))) (sym (take-append-le from history more (omega arith)))
    ∙ ap (λ (cells : List Cell). placed_after rule (take from (history ++ more)) (drop from cells)) (sym (take-append-le to history more high))

module _ {P : Type 0} (rule : P → PluginRule) (stands : P → List Cell → ℕ → Type 0) (heard : Heard P) (history : List Cell) (mark : ℕ) where
  -- where none was taken away it has all lines below its mark
  pub since-first : HeardStands rule stands heard history mark → HeardSince rule stands 0 heard history mark
  since-first all = record { holds = all.holds; lines = all.lines; taken = omega arith }

  pub all-since : (from : ℕ) → from ≡ 0 → HeardSince rule stands from heard history mark → HeardStands rule stands heard history mark
  all-since from none since = record { holds = since.holds; lines = since.lines ∙ ap (λ (n : ℕ). placed_between (rule heard.plugin) history n mark) none }

drop-taken : (cells : List Cell) (n : ℕ) → drop n (take n cells) ≡ []
drop-taken [] zero = refl
drop-taken [] (suc n) = refl
drop-taken (x ∷ xs) zero = refl
drop-taken (x ∷ xs) (suc n) = drop-taken xs n

-- between a mark and itself no line is
none-between : (rule : PluginRule) (history : List Cell) (mark : ℕ) → placed_between rule history mark mark ≡ []
none-between rule history mark = ap (λ (cells : List Cell). placed_after rule (take mark history) cells) (drop-taken history mark)

-- the lines that it has after a mark, or as they were
module _ (rule new_rule : PluginRule) (history : List Cell) (from mark written : ℕ) (first : from ≤ mark) (low : mark ≤ written) (same : new_rule ≡ rule)
    (before after : List Line) (was : before ≡ placed_between rule history from mark) where
  lines-noted : (ok : Bool) → after ≡ before ++ (if ok then placed_between rule history mark written else []) → after ≡ placed_between new_rule history from (if ok then written else mark)
  lines-noted true given =
      given
      ∙ (ap (λ (lines : List Line). lines ++ placed_between rule history mark written) was
      ∙ (joined rule history from mark written first low
      ∙ ap (λ (r : PluginRule). placed_between r history from written) (sym same)))
  lines-noted false given =
      given ∙ (append-nil before ∙ (was ∙ ap (λ (r : PluginRule). placed_between r history from mark) (sym same)))

  still-from : (ok : Bool) → from ≤ (if ok then written else mark)
  still-from true = omega arith
  still-from false = first

module _ {P : Type 0} (rule : P → PluginRule) (stands : P → List Cell → ℕ → Type 0) (old new : PluginStage P) (lists : PartLists) (told : Option StageEnd)
    (was : PluginStands rule stands old lists told) (agreed_same : new.agreed ≡ old.agreed) where
  pub stands-noted : (written : ℕ) (answer : Result Unit AllocError) → lists.mark ≤ written → rule new.heard.plugin ≡ rule old.heard.plugin
      → stands new.heard.plugin lists.met (if is_ok answer then written else lists.mark)
      × (new.heard.lines.items ≡ old.heard.lines.items ++ (if is_ok answer then placed_between (rule old.heard.plugin) lists.met lists.mark written else []))
      → PluginStands rule stands new (marked_by lists written answer) told
  stands-noted written answer low same gives = record {
    heard = record {
      holds = gives.0;
      lines = lines-noted (rule old.heard.plugin) (rule new.heard.plugin) lists.met lists.from lists.mark written was.heard.taken low same old.heard.lines.items new.heard.lines.items was.heard.lines (is_ok answer) gives.1;
      taken = still-from (rule old.heard.plugin) (rule new.heard.plugin) lists.met lists.from lists.mark written was.heard.taken low same old.heard.lines.items new.heard.lines.items was.heard.lines (is_ok answer);
    };
    given = was.given ∙ ap (λ (r : PluginRule). (apply r lists.met).cells) (sym same);
    length_same = was.length_same;
    ended = ap (λ (r : PluginRule). (apply r lists.met).ended) same ∙ was.ended;
    agreed = agreed_same ∙ (was.agreed ∙ ap (λ (r : PluginRule). is_some (agreement_of r lists.met)) (sym same));
  }

  pub stands-taken : new.heard.plugin ≡ old.heard.plugin → new.heard.lines.items ≡ [] → PluginStands rule stands new (lines_taken lists) told
  stands-taken same none =
      let rules : rule new.heard.plugin ≡ rule old.heard.plugin = ap rule same in
      record {
        heard = record {
          holds = subst (λ (p : P). stands p lists.met lists.mark) (sym same) was.heard.holds;
          lines = none ∙ sym (none-between (rule new.heard.plugin) lists.met lists.mark);
          taken = omega arith;
        };
        given = was.given ∙ ap (λ (r : PluginRule). (apply r lists.met).cells) (sym rules);
        length_same = was.length_same;
        ended = ap (λ (r : PluginRule). (apply r lists.met).ended) rules ∙ was.ended;
        agreed = agreed_same ∙ (was.agreed ∙ ap (λ (r : PluginRule). is_some (agreement_of r lists.met)) (sym rules));
      }
