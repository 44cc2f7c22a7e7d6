-- When a plugin agrees, over a first part of its cells and over all of them.
use Rattle.std.proofs.Common.{◌≡◌, ℕ, suc, ◌+◌, ◌≤◌, List, [], ◌∷◌, ◌++◌, length, true, false, Some, None, sym, ◌∙◌, arith, length-append, inl, inr}
use Rattle.std.proofs.lemmas.Bool.{cond-true, cond-false, cases_Bool}
use Rattle.ts_packet.specs.declared.cell.Cell.{Cell}
use Rattle.chain_model.specs.PluginRule.{PluginRule}
use Rattle.chain_model.specs.Joint.{agreement_after, agreement_of}

-- a rule that agrees after the history agrees there
agreement_after-here : (rule : PluginRule) (history xs : List Cell) → rule.agrees history ≡ true → agreement_after rule history xs ≡ Some (length history)
agreement_after-here rule history [] yes_ = cond-true (rule.agrees history) (Some (length history)) None yes_
agreement_after-here rule history (x ∷ xs) yes_ =
    cond-true (rule.agrees history) (Some (length history)) (agreement_after rule (history ++ x ∷ []) xs) yes_

agreement_after-none : (rule : PluginRule) (history : List Cell) → rule.agrees history ≡ false → agreement_after rule history [] ≡ None
agreement_after-none rule history no_ = cond-false (rule.agrees history) (Some (length history)) None no_

agreement_after-on : (rule : PluginRule) (history : List Cell) (x : Cell) (xs : List Cell) → rule.agrees history ≡ false → agreement_after rule history (x ∷ xs) ≡ agreement_after rule (history ++ x ∷ []) xs
agreement_after-on rule history x xs no_ =
    cond-false (rule.agrees history) (Some (length history)) (agreement_after rule (history ++ x ∷ []) xs) no_

length-snoc : (history : List Cell) (x : Cell) → length (history ++ x ∷ []) ≡ suc (length history)
length-snoc history x = omega (arith, length-append history (x ∷ []))

agreement_after-within : (rule : PluginRule) (history xs : List Cell) (agreed : ℕ) → agreement_after rule history xs ≡ Some agreed → (length history ≤ agreed) × (agreed ≤ length history + length xs)
agreement_after-within rule history [] agreed e =
    elim (cases_Bool (rule.agrees history)) [
      | inl yes_ ↦ (let h = agreement_after-here rule history [] yes_ in let same : length history ≡ agreed = cc in (omega arith, omega arith))
      | inr no_ ↦ (let h = agreement_after-none rule history no_ in absurd cc)
    ]
agreement_after-within rule history (x ∷ xs) agreed e =
    elim (cases_Bool (rule.agrees history)) [
      | inl yes_ ↦ (let h = agreement_after-here rule history (x ∷ xs) yes_ in let same : length history ≡ agreed = cc in (omega arith, omega arith))
      | inr no_ ↦ (let h = agreement_after-within rule (history ++ x ∷ []) xs agreed (sym (agreement_after-on rule history x xs no_) ∙ e) in let s = length-snoc history x in (omega arith, omega arith))
    ]

-- an agreement is at a number of cells that were met
pub agreement_of-within : (rule : PluginRule) (xs : List Cell) (agreed : ℕ) → agreement_of rule xs ≡ Some agreed → agreed ≤ length xs
agreement_of-within rule xs agreed e =
    let h = agreement_after-within rule [] xs agreed e in omega arith

agreement_after-more : (rule : PluginRule) (history xs ys : List Cell) (agreed : ℕ) → agreement_after rule history xs ≡ Some agreed → agreement_after rule history (xs ++ ys) ≡ Some agreed
agreement_after-more rule history [] ys agreed e =
    elim (cases_Bool (rule.agrees history)) [
      | inl yes_ ↦ agreement_after-here rule history ys yes_ ∙ (sym (agreement_after-here rule history [] yes_) ∙ e)
      | inr no_ ↦ (let h = agreement_after-none rule history no_ in absurd cc)
    ]
agreement_after-more rule history (x ∷ xs) ys agreed e =
    elim (cases_Bool (rule.agrees history)) [
      | inl yes_ ↦ agreement_after-here rule history (x ∷ (xs ++ ys)) yes_ ∙ (sym (agreement_after-here rule history (x ∷ xs) yes_) ∙ e)
      | inr no_ ↦ agreement_after-on rule history x (xs ++ ys) no_ ∙ agreement_after-more rule (history ++ x ∷ []) xs ys agreed (sym (agreement_after-on rule history x xs no_) ∙ e)
    ]

-- an agreement stays, whatever cells follow
pub agreement_of-more : (rule : PluginRule) (xs ys : List Cell) (agreed : ℕ) → agreement_of rule xs ≡ Some agreed → agreement_of rule (xs ++ ys) ≡ Some agreed
agreement_of-more rule xs ys agreed e = agreement_after-more rule [] xs ys agreed e

agreement_after-first : (rule : PluginRule) (history xs ys : List Cell) (agreed : ℕ) → agreement_after rule history (xs ++ ys) ≡ Some agreed → agreed ≤ length history + length xs → agreement_after rule history xs ≡ Some agreed
agreement_after-first rule history [] [] agreed e le = e
agreement_after-first rule history [] (y ∷ ys) agreed e le =
    elim (cases_Bool (rule.agrees history)) [
      | inl yes_ ↦ agreement_after-here rule history [] yes_ ∙ (sym (agreement_after-here rule history (y ∷ ys) yes_) ∙ e)
      | inr no_ ↦ (let h = agreement_after-within rule (history ++ y ∷ []) ys agreed (sym (agreement_after-on rule history y ys no_) ∙ e) in let s = length-snoc history y in absurd (omega arith))
    ]
agreement_after-first rule history (x ∷ xs) ys agreed e le =
    elim (cases_Bool (rule.agrees history)) [
      | inl yes_ ↦ agreement_after-here rule history (x ∷ xs) yes_ ∙ (sym (agreement_after-here rule history (x ∷ (xs ++ ys)) yes_) ∙ e)
      | inr no_ ↦ (let s = length-snoc history x in agreement_after-on rule history x xs no_ ∙ agreement_after-first rule (history ++ x ∷ []) xs ys agreed (sym (agreement_after-on rule history x (xs ++ ys) no_) ∙ e) (omega arith))
    ]

-- an agreement within a first part of the cells holds of that part
pub agreement_of-first : (rule : PluginRule) (xs ys : List Cell) (agreed : ℕ) → agreement_of rule (xs ++ ys) ≡ Some agreed → agreed ≤ length xs → agreement_of rule xs ≡ Some agreed
agreement_of-first rule xs ys agreed e le =
    agreement_after-first rule [] xs ys agreed e (omega arith)

-- a rule that agrees late has no agreement over nothing
pub agreement_of-nothing : (rule : PluginRule) → rule.agrees [] ≡ false → agreement_of rule [] ≡ None
agreement_of-nothing rule no_ = agreement_after-none rule [] no_
