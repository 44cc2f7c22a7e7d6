-- Lemmas on the lines of the summary, one after another.
use Rattle.std.proofs.Common.{◌≡◌, ℕ, List, [], ◌∷◌, ◌++◌, ap, sym, ◌∙◌, append-nil, append_assoc, Bool, true, false, if◌then◌else◌}
use Rattle.std.proofs.lemmas.Grind.{flat_map-append}
use Rattle.plugin_trait.specs.declared.line.Line.{Line}
use Rattle.plugin_trait.specs.PlacedLines.{placed_at}
use Rattle.plugin_notes.proofs.PidLemmas.{placed_at-append}
use Rattle.monitor_lines.specs.ErrorTexts.{count_text}
use Rattle.monitor_lines.specs.Indicators.{indicators, title_of}
use Rattle.monitor_lines.specs.declared.indicator.Indicator.{Indicator}
use Rattle.plug_monitor.specs.MonitorTexts.{all_text, count_if, counts_in, first_indicators, is_asked, second_indicators, summary_texts, third_indicators}
use Rattle.plug_monitor.specs.declared.monitor_conf.MonitorConf.{MonitorConf}

-- some lines, and then the others
pub text-next : (cut : ℕ) (old now new : List Line) (first rest : List (List ℕ)) → now ≡ old ++ placed_at cut first → new ≡ now ++ placed_at cut rest
    → new ≡ old ++ placed_at cut (first ++ rest)
text-next cut old now new first rest one more =
    more
    ∙ (ap (λ (ls : List Line). ls ++ placed_at cut rest) one
    ∙ (append_assoc old (placed_at cut first) (placed_at cut rest) ∙ ap (λ (ls : List Line). old ++ ls) (sym (placed_at-append cut first rest))))

-- and no more
pub text-last : (cut : ℕ) (old new : List Line) (some : List (List ℕ)) → new ≡ old ++ placed_at cut some → new ≡ old ++ placed_at cut (some ++ [])
text-last cut old new some is = is ∙ ap (λ (ts : List (List ℕ)). old ++ placed_at cut ts) (sym (append-nil some))

module _ (conf : MonitorConf) (count : Indicator → ℕ) (cut : ℕ) where
  -- an indicator that is not asked for has no line
  pub count-silent : (indicator : Indicator) (lines : List Line) → is_asked conf indicator ≡ false → lines ≡ lines ++ placed_at cut (count_if conf count indicator)
  count-silent indicator lines unasked =
      sym (ap (λ (b : Bool). lines ++ placed_at cut (if b then count_text (title_of indicator) (count indicator) ∷ [] else [])) unasked ∙ append-nil lines)

  -- one that is has that of its count
  pub count-told : (indicator : Indicator) (lines new : List Line) (text : List ℕ) → is_asked conf indicator ≡ true → text ≡ count_text (title_of indicator) (count indicator)
      → new ≡ lines ++ placed_at cut (text ∷ []) → new ≡ lines ++ placed_at cut (count_if conf count indicator)
  count-told indicator lines new text asked is told =
      told
      ∙ (ap (λ (t : List ℕ). lines ++ placed_at cut (t ∷ [])) is
      ∙ sym (ap (λ (b : Bool). lines ++ placed_at cut (if b then count_text (title_of indicator) (count indicator) ∷ [] else [])) asked))

  -- the counts of all priorities are those of each
  all-counts : counts_in conf count indicators
      ≡ counts_in conf count first_indicators ++ (counts_in conf count second_indicators ++ counts_in conf count third_indicators)
  all-counts =
      flat_map-append (count_if conf count) first_indicators (second_indicators ++ third_indicators)
      ∙ ap (λ (ts : List (List ℕ)). counts_in conf count first_indicators ++ ts) (flat_map-append (count_if conf count) second_indicators third_indicators)

  -- the summary: the counts of each priority, and that of all errors
  pub summary-told : (all : ℕ) (old one two three new : List Line) (text : List ℕ) → one ≡ old ++ placed_at cut (counts_in conf count first_indicators)
      → two ≡ one ++ placed_at cut (counts_in conf count second_indicators) → three ≡ two ++ placed_at cut (counts_in conf count third_indicators)
      → text ≡ all_text all → new ≡ three ++ placed_at cut (text ∷ []) → new ≡ old ++ placed_at cut (summary_texts conf count all)
  summary-told all old one two three new text first second third is last =
      text-next cut old three new (counts_in conf count first_indicators ++ (counts_in conf count second_indicators ++ counts_in conf count third_indicators)) (all_text all ∷ [])
      (text-next cut old one three (counts_in conf count first_indicators) (counts_in conf count second_indicators ++ counts_in conf count third_indicators) first
      (text-next cut one two three (counts_in conf count second_indicators) (counts_in conf count third_indicators) second third))
      (last ∙ ap (λ (t : List ℕ). three ++ placed_at cut (t ∷ [])) is)
      ∙ ap (λ (ts : List (List ℕ)). old ++ placed_at cut (ts ++ all_text all ∷ [])) (sym all-counts)
