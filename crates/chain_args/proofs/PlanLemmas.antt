-- The loop over segments, and the plan at its end.
use Rattle.std.proofs.Common.{◌≡◌, ◌∙◌, ◌+◌, ℕ, true, List, [], ◌∷◌, ◌++◌, length, map, Option, Some, None, is_some, Result, Ok, Err, refl, ap, ap₂, sym, subst, arith, append_assoc}
use Rattle.std.specs.Prelude.{if◌then◌else◌}
use Rattle.std.specs.Result.{IfErr, IsErrAnd}
use Rattle.chain_args.specs.General.{general}
use Rattle.chain_args.specs.PlanBuilder.{RefusesBy, StandsFor, parts_plan, segment}
use Rattle.chain_args.specs.PlanOf.{plan_made, plan_of}
use Rattle.plugin_options.specs.OptionTable.{OptionTable, broken_option, settings_of}
use Rattle.plugin_options.specs.Refusal.{Reads}
use Rattle.chain_args.specs.Rules.{broken_rule, fault_at, first_fault, first_word_fault}
use Rattle.chain_args.specs.Segments.{Segment, cut, general_words, is_segment_word, segments}
use Rattle.chain_args.specs.WordsFault.{FaultsBy, fault_of_refusal}
use Rattle.chain_args.specs.declared.general_conf.GeneralConf.{GeneralConf}
use Rattle.chain_args.specs.declared.plan_builder.PlanBuilder.{PlanBuilder}
use Rattle.plugin_options.specs.declared.refusal.Refusal.{Refusal}
use Rattle.plugin_options.specs.declared.refusal.Refusal.TheVariants.{Broken, NoMemory}
use Rattle.chain_args.specs.declared.words_fault.WordsFault.{WordsFault}
use Rattle.plugin_options.specs.declared.words_rule.WordsRule.{WordsRule}
use Rattle.chain_args.proofs.SegmentLemmas.{cut-head}

-- ---- one turn of the loop: words that begin with a segment

module _ (words after others next : List (List ℕ)) (first : List ℕ) (begin : words ≡ first ∷ after) (begins : general_words words ≡ [])
    (front : others ≡ general_words after) (rest : cut next ≡ ([], segments after)) where
  head : (is_segment_word first ≡ true) × (segments (first ∷ after) ≡ record { first = first; others = (cut after).0 } ∷ segments after)
  head = cut-head first after (ap general_words (sym begin) ∙ begins)

  pub first_begins : is_segment_word first ≡ true
  first_begins = head.0

  pub segments_step : segments words ≡ segment first others ∷ segments next
  segments_step = ap segments begin ∙ head.1 ∙ ap₂ (λ o later. segment first o ∷ later) (sym front) (ap (λ p. p.1) (sym rest))

  pub next_begins : general_words next ≡ []
  next_begins = ap (λ p. p.0) rest

  pub whole_step : (before all : List Segment) → before ++ segments words ≡ all → (before ++ segment first others ∷ []) ++ segments next ≡ all
  whole_step before all e = append_assoc before (segment first others ∷ []) (segments next) ∙ ap (λ xs. before ++ xs) (sym segments_step) ∙ e

  unfolded : (before : List Segment) (at : ℕ) → first_fault before at (segment first others ∷ segments next) ≡ fault_at at (broken_rule before (segment first others)) (first_fault (before ++ segment first others ∷ []) (at + (1 + length others)) (segments next))
  unfolding first_fault
  unfolded before at = refl

  pub fault_step : (before : List Segment) (at : ℕ) → first_fault before at (segments words) ≡ fault_at at (broken_rule before (segment first others)) (first_fault (before ++ segment first others ∷ []) (at + (1 + length others)) (segments next))
  fault_step before at = ap (first_fault before at) segments_step ∙ unfolded before at

  pub fault_passed : (before : List Segment) (at : ℕ) → broken_rule before (segment first others) ≡ None → first_fault before at (segments words) ≡ first_fault (before ++ segment first others ∷ []) (at + (1 + length others)) (segments next)
  fault_passed before at e = fault_step before at ∙ ap (λ rule. fault_at at rule (first_fault (before ++ segment first others ∷ []) (at + (1 + length others)) (segments next))) e

-- the fault of a refusal is that of the rule that it names
pub refused_here : (at : ℕ) (rule : Option WordsRule) (later fault : Option (ℕ × WordsRule)) (refusal : Refusal) (r : WordsFault) → r ≡ fault_of_refusal at refusal → RefusesBy rule refusal → fault ≡ fault_at at rule later → FaultsBy fault r
refused_here at rule later fault (Broken broken) r is by e = subst (FaultsBy fault) (sym is) (e ∙ ap (λ o. fault_at at o later) by)
refused_here at rule later fault NoMemory r is by e = subst (FaultsBy fault) (sym is) tt

-- ---- no words are left

pub ended : (words : List (List ℕ)) → words ≡ [] → segments words ≡ []
unfolding cut
ended words e = ap segments e

pub no_fault_left : (before : List Segment) (at : ℕ) → first_fault before at [] ≡ None
unfolding first_fault
no_fault_left before at = refl

pub no_words : {W : Type 0} (text : W → List ℕ) (rest : List W) → length rest ≡ 0 → map text rest ≡ []
no_words text [] e = refl
no_words text (w ∷ rest) e = absurd (omega (arith, e))

-- ---- the general options and the segments together

pub reads_refuses : {C : Type 0} (p : OptionTable C) (words own : List (List ℕ)) (refusal : Refusal) → own ≡ words → Reads p own (Err refusal) → RefusesBy (broken_option p words) refusal
reads_refuses p words own (Broken rule) same reads = ap (broken_option p) (sym same) ∙ reads
reads_refuses p words own NoMemory same reads = tt

pub general_fault : (words : List (List ℕ)) → first_word_fault words ≡ fault_at 0 (broken_option general (general_words words)) (first_fault [] (length (general_words words)) (segments words))
unfolding first_word_fault
general_fault words = refl

module _ (words own rest : List (List ℕ)) (count : ℕ) (front : own ≡ general_words words) (back : cut rest ≡ ([], segments words)) (counted : count ≡ length own) (passed : broken_option general own ≡ None) where
  pub segments_fault : first_word_fault words ≡ first_fault [] count (segments rest)
  segments_fault = general_fault words
      ∙ ap (λ rule. fault_at 0 rule (first_fault [] (length (general_words words)) (segments words))) (ap (broken_option general) (sym front) ∙ passed)
      ∙ ap₂ (λ n later. first_fault [] n later) (ap length (sym front) ∙ sym counted) (sym (ap (λ p. p.1) back))

-- the plan of parts that stand for all segments
pub plan_from : (words own : List (List ℕ)) (conf : GeneralConf) (parts : PlanBuilder) → own ≡ general_words words → first_word_fault words ≡ None → conf ≡ settings_of general own → StandsFor parts (segments words) → plan_of words ≡ Some (parts_plan conf parts)
unfolding plan_of
plan_from words own conf parts front clean is stands =
    ap (λ fault. if is_some fault then None else Some (plan_made words)) clean
    ∙ ap Some (cc (stands.input, stands.plugins, stands.output, ap (settings_of general) front, is))

-- an error that is handed on
pub handed_on : {T E : Type 0} (P : E → Type 0) (e : E) (r : Result T E) → IsErrAnd r (λ y. y ≡ e) → P e → IfErr r P
handed_on P e (Ok x) is h = absurd is
handed_on P e (Err y) is h = subst P (sym is) h
