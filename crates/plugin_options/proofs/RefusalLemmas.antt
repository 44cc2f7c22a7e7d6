-- What a reader returns where a table has many rows.
use Rattle.std.proofs.Common.{◌≡◌, ◌∙◌, ◌&&◌, Bool, true, false, not, cond, List, Some, None, Result, Ok, Err, refl, ap, ap₂, sym, subst, ℕ, zero, suc, [], ◌∷◌}
use Rattle.std.specs.Prelude.{slice_get}
use Rattle.std.specs.Result.{IsErrAnd}
use Rattle.clap.specs.Walk.{Row}
use Rattle.plugin_options.specs.Options.{OptionRow, are_well_formed, is_well_formed}
use Rattle.plugin_options.specs.OptionTable.{OptionTable, first_broken, tests_of_parsed}
use Rattle.plugin_options.specs.Refusal.{IsRefusedBy, ReadsParsed}
use Rattle.plugin_options.specs.declared.refusal.Refusal.{Refusal}
use Rattle.plugin_options.specs.declared.refusal.Refusal.TheVariants.{Broken, NoMemory}
use Rattle.plugin_options.specs.declared.words_rule.WordsRule.TheVariants.{Conflict, Missing, Value}

-- one row of the table is malformed
pub malformed : (rows : List OptionRow) (found : List Row) (k : ℕ) (row : OptionRow) → slice_get rows k ≡ Some row → is_well_formed row.name row.kind found ≡ false → are_well_formed rows found ≡ false
malformed [] found k row at e = cc
malformed (r ∷ rows) found zero row at e = let same : r ≡ row = cc in rw same (ap (λ b. b && are_well_formed rows found) e)
malformed (r ∷ rows) found (suc k) row at e = go (is_well_formed r.name r.kind found) (malformed rows found k row at e)
  where
    go : (b : Bool) → are_well_formed rows found ≡ false → (b && are_well_formed rows found) ≡ false
    go false h = refl
    go true h = h

pub all_true : (a b : Bool) → a ≡ true → b ≡ true → (a && b) ≡ true
all_true a b e f = ap₂ (λ x y. x && y) e f

-- a value does not have its form
pub value_broken : {C : Type 0} (p : OptionTable C) (found : List Row) → p.has_needed found ≡ true → are_well_formed p.rows found ≡ false → first_broken (tests_of_parsed p found) ≡ Some Value
value_broken p found needed formed =
    ap₂ (λ a b. cond (not a) (Some Missing) (cond (not b) (Some Value) (cond (not (p.go_together found)) (Some Conflict) None))) needed formed

-- an error that is passed on, and says that a value does not have its form
pub value_refused : {C : Type 0} (p : OptionTable C) (found : List Row) (reason : Type 0) (e : Refusal) (r : Result C Refusal) → IsErrAnd r (λ y. y ≡ e) → IsRefusedBy Value reason e
    → p.has_needed found ≡ true → (reason → are_well_formed p.rows found ≡ false) → ReadsParsed p found r
value_refused p found reason e (Ok conf) is refused needed why = absurd is
value_refused {C} p found reason e (Err y) is refused needed why = subst (λ (z : Refusal). ReadsParsed p found (Err z)) (sym is) (go e refused)
  where
    go : (z : Refusal) → IsRefusedBy Value reason z → ReadsParsed p found (Err z)
    go (Broken rule) q = value_broken p found needed (why q.1) ∙ ap Some (sym q.0)
    go NoMemory q = tt

-- nothing is broken
pub nothing_broken : {C : Type 0} (p : OptionTable C) (found : List Row) → p.has_needed found ≡ true → are_well_formed p.rows found ≡ true → p.go_together found ≡ true → first_broken (tests_of_parsed p found) ≡ None
nothing_broken p found needed formed together =
    ap₂ (λ a b. cond (not a) (Some Missing) (cond (not b) (Some Value) (cond (not (p.go_together found)) (Some Conflict) None))) needed formed
    ∙ ap (λ c. cond (not c) (Some Conflict) None) together
