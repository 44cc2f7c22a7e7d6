-- What holds of a match arm that makes a value of one kind a value of any kind.
use Rattle.std.proofs.Common.{◌≡◌, List, Result, Ok, Err, IfOk, MatchResult, ap, sym, subst, ◌∙◌}
use Rattle.std.specs.Prelude.{IsOkAnd}
use Rattle.clap.specs.Walk.{Row}
use Rattle.plugin_options.specs.OptionTable.{OptionTable, made_into}
use Rattle.plugin_options.specs.Refusal.{ReadsParsed}
use Rattle.plugin_options.specs.declared.refusal.Refusal.{Refusal}
use Rattle.plugin_options.specs.declared.refusal.Refusal.TheVariants.{Broken, NoMemory}

-- what holds of a value of one kind, where there is one, holds of it as a value of any kind
pub made : {A B E : Type 0} (make : A → B) (P : A → Type 0) (Q : B → Type 0) (r : Result A E) (s : Result B E)
    → MatchResult r (λ x. IsOkAnd s (λ y. y ≡ make x)) (λ e. s ≡ Err e) → ((x : A) → P x → Q (make x)) → IfOk r P → IfOk s Q
made make P Q (Ok x) (Ok y) cases same holds = subst Q (sym cases) (same x holds)
made make P Q (Ok x) (Err e) cases same holds = tt
made {A} {B} {E} make P Q (Err e) s cases same holds = subst (λ (q : Result B E). IfOk q Q) (sym cases) tt

-- the settings that are read of one kind are read of any kind
pub read_into : {A B : Type 0} (make : A → B) (table : OptionTable A) (found : List Row) (r : Result A Refusal) (s : Result B Refusal)
    → MatchResult r (λ x. IsOkAnd s (λ y. y ≡ make x)) (λ e. s ≡ Err e) → ReadsParsed table found r → ReadsParsed (made_into make table) found s
read_into make table found (Ok x) (Ok y) cases reads = (reads.0, cases ∙ ap make reads.1)
read_into make table found (Ok x) (Err e) cases reads = absurd cases
read_into {A} {B} make table found (Err e) s cases reads = subst (λ (q : Result B Refusal). ReadsParsed (made_into make table) found q) (sym cases) (same e reads)
  where
    same : (e : Refusal) → ReadsParsed table found (Err e) → ReadsParsed (made_into make table) found (Err e)
    same (Broken rule) broken = broken
    same NoMemory broken = tt
