-- From the ranges in which the readers of words find numbers to valid settings.
use Rattle.std.proofs.Common.{◌≡◌, ◌∙◌, ◌≤◌, ◌<◌, ◌+◌, ◌++◌, ◌&&◌, ℕ, Bool, true, false, not, cond, ap, ap₂, List, [], ◌∷◌, Option, None, Some, Result, Ok, Err, arith, subst, sym}
use Rattle.std.specs.Prelude.{IfOk, IfSome, MatchResult}
use Rattle.std.specs.List.{All}
use Rattle.std.specs.Option.{ForSome}
use Rattle.std.specs.Result.{IsErrAnd}
use Rattle.std.proofs.lemmas.List.Elements.{All-weaker}
use Rattle.clap.specs.Walk.{Row}
use Rattle.plugin_options.specs.Options.{OptionRow, are_well_formed, is_well_formed}
use Rattle.plugin_options.specs.OptionTable.{OptionTable, first_broken, tests_of_parsed}
use Rattle.plugin_options.specs.Refusal.{IsRefusedBy}
use Rattle.plugin_options.specs.declared.refusal.Refusal.{Refusal}
use Rattle.plugin_options.specs.declared.refusal.Refusal.TheVariants.{Broken, NoMemory}
use Rattle.plugin_options.specs.declared.words_rule.WordsRule.TheVariants.{Conflict, Missing, Value}

-- a number up to a most is below the next one
pub below_next : {E : Type 0} (r : Result (Option ℕ) E) (least most : ℕ) → IfOk r (λ n. IfSome n (λ k. (least ≤ k) × (k ≤ most))) → IfOk r (λ n. ForSome n (λ k. k < most + 1))
below_next (Ok None) least most h = λ x e. absurd (cc e)
below_next (Ok (Some n)) least most h = λ x e. let same : n ≡ x = cc e in omega (arith, h.1, same)
below_next (Err e) least most h = tt

-- things that all are of one kind, where each of them is then of another
pub all_of_kind : {E X : Type 0} (P Q : X → Type 0) → ((p : X) → P p → Q p) → (r : Result (List X) E) → IfOk r (All P) → IfOk r (All Q)
all_of_kind P Q f (Ok pairs) h = All-weaker P Q f pairs h
all_of_kind P Q f (Err e) h = tt

-- all is given that has to be, and each value has its form, but they do not go together
pub conflict_broken : {C : Type 0} (p : OptionTable C) (found : List Row) → p.has_needed found ≡ true → are_well_formed p.rows found ≡ true → p.go_together found ≡ false → first_broken (tests_of_parsed p found) ≡ Some Conflict
conflict_broken p found needed formed together =
    ap₂ (λ a b. cond (not a) (Some Missing) (cond (not b) (Some Value) (cond (not (p.go_together found)) (Some Conflict) None))) needed formed
    ∙ ap (λ c. cond (not c) (Some Conflict) None) together

-- the rows of two tables are formed where those of each are
pub both_formed : (rows more : List OptionRow) (found : List Row) → are_well_formed rows found ≡ true → are_well_formed more found ≡ true → are_well_formed (rows ++ more) found ≡ true
both_formed [] more found e f = f
both_formed (row ∷ rows) more found e f = go (is_well_formed row.name row.kind found) (λ g. both_formed rows more found g f) e
  where
    go : (b : Bool) → (are_well_formed rows found ≡ true → are_well_formed (rows ++ more) found ≡ true) → (b && are_well_formed rows found) ≡ true → (b && are_well_formed (rows ++ more) found) ≡ true
    go true later g = later g
    go false later g = cc

-- a refusal that is passed on, for a reason that follows from its own
pub refused_for : {T : Type 0} (P : T → Type 0) (reason other : Type 0) (e : Refusal) (r : Result T Refusal) → IsErrAnd r (λ y. y ≡ e) → IsRefusedBy Value reason e → (reason → other) →
    MatchResult r P (IsRefusedBy Value other)
refused_for P reason other e (Ok x) is refused why = absurd is
refused_for {T} P reason other e (Err y) is refused why = subst (IsRefusedBy Value other) (sym is) (go e refused)
  where
    go : (z : Refusal) → IsRefusedBy Value reason z → IsRefusedBy Value other z
    go (Broken rule) q = (q.0, why q.1)
    go NoMemory q = tt
