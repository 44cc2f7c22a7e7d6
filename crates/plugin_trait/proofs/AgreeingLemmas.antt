-- A plugin's agreement, cell by cell.
use Rattle.std.proofs.Common.{◌≡◌, ℕ, ◌+◌, ◌<◌, ◌≤◌, if◌then◌else◌, Bool, true, false, List, [], ◌∷◌, ◌++◌, length, refl, ap, sym, ◌∙◌, arith, append_assoc, length-append, length-take, take, get_or, subst, Option, None, Some, is_some, inl, inr}
use Rattle.std.specs.Option.{option_or}
use Rattle.std.proofs.lemmas.Bool.{cond-true, cond-false, cases_Bool, lt-ltb, le-ltb}
use Rattle.ts_packet.specs.declared.cell.Cell.{Cell}
use Rattle.chain_model.specs.PluginRule.{PluginRule}
use Rattle.chain_model.specs.Joint.{agreement_after, agreement_of}
use Rattle.chain_model.proofs.AgreementLaws.{agreement_of-more}
use Rattle.plugin_trait.proofs.Going.{met-more}
use Rattle.plugin_trait.specs.Driving.{newly_agreed, AgreesNow, TellsAgreement}

agreement_after-here : (rule : PluginRule) (history xs : List Cell) → rule.agrees history ≡ true → agreement_after rule history xs ≡ Some (length history)
agreement_after-here rule history [] yes_ = cond-true (rule.agrees history) (Some (length history)) None yes_
agreement_after-here rule history (x ∷ xs) yes_ =
    cond-true (rule.agrees history) (Some (length history)) (agreement_after rule (history ++ x ∷ []) xs) yes_

agreement_after-on : (rule : PluginRule) (history : List Cell) (x : Cell) (xs : List Cell) → rule.agrees history ≡ false → agreement_after rule history (x ∷ xs) ≡ agreement_after rule (history ++ x ∷ []) xs
agreement_after-on rule history x xs no_ =
    cond-false (rule.agrees history) (Some (length history)) (agreement_after rule (history ++ x ∷ []) xs) no_

-- one cell more, where there was no agreement
agreement_after-push : (rule : PluginRule) (history xs : List Cell) (x : Cell) (b : Bool) → agreement_after rule history xs ≡ None
    → rule.agrees (history ++ (xs ++ x ∷ [])) ≡ b
    → agreement_after rule history (xs ++ x ∷ []) ≡ (if b then Some (length history + length xs + 1) else None)
agreement_after-push rule history [] x b none is =
    elim (cases_Bool (rule.agrees history)) [
      | inl yes_ ↦ (let here = agreement_after-here rule history [] yes_ in let e : None ≡ Some (length history) = sym none ∙ here in cc)
      | inr no_ ↦
          agreement_after-on rule history x [] no_
          ∙ ap (λ (v : Bool). if v then Some (length (history ++ x ∷ [])) else None) is
          ∙ ap (λ (n : ℕ). if b then Some n else None) (length-append history (x ∷ []) ∙ omega arith)
    ]
agreement_after-push rule history (y ∷ ys) x b none is =
    elim (cases_Bool (rule.agrees history)) [
      | inl yes_ ↦ (let here = agreement_after-here rule history (y ∷ ys) yes_ in let e : None ≡ Some (length history) = sym none ∙ here in cc)
      | inr no_ ↦
          agreement_after-on rule history y (ys ++ x ∷ []) no_
          ∙ agreement_after-push rule (history ++ y ∷ []) ys x b (sym (agreement_after-on rule history y ys no_) ∙ none)
          (ap rule.agrees (append_assoc history (y ∷ []) (ys ++ x ∷ [])) ∙ is)
          ∙ ap (λ (n : ℕ). if b then Some n else None) (omega (arith, length-append history (y ∷ [])))
    ]

agreement_of-push : (rule : PluginRule) (xs : List Cell) (x : Cell) (b : Bool) → agreement_of rule xs ≡ None → rule.agrees (xs ++ x ∷ []) ≡ b
    → agreement_of rule (xs ++ x ∷ []) ≡ (if b then Some (length xs + 1) else None)
agreement_of-push rule xs x b none is =
    agreement_after-push rule [] xs x b none is ∙ ap (λ (n : ℕ). if b then Some n else None) (omega arith)

option_or-none : (o : Option ℕ) → option_or o None ≡ o
option_or-none None = refl
option_or-none (Some n) = refl

newly_agreed-above : (before n : ℕ) → before < n → newly_agreed before (Some n) ≡ Some n
newly_agreed-above before n above = cond-true _ _ _ (lt-ltb before n above)

tells_step : (rule : PluginRule) (met : List Cell) (x : Cell) (before : ℕ) (told r : Option ℕ) (noted noted' : Bool) (a : Option ℕ) (b : Bool)
    → agreement_of rule met ≡ a → rule.agrees (met ++ x ∷ []) ≡ b → told ≡ newly_agreed before a → before ≤ length met
    → AgreesNow (is_some a) b (length met + 1) r noted' → TellsAgreement rule (met ++ x ∷ []) before (option_or told r) noted'
tells_step rule met x before told r noted noted' (Some n) b has is tells within now =
    let more : agreement_of rule (met ++ x ∷ []) ≡ Some n = agreement_of-more rule met (x ∷ []) n has in
    record {
      tells = ap (option_or told) now.0 ∙ option_or-none told ∙ tells ∙ ap (newly_agreed before) (sym more);
      notes = now.1 ∙ ap (λ (o : Option ℕ). is_some o) (sym more);
    }
tells_step rule met x before told r noted noted' None true has is tells within now =
    let more : agreement_of rule (met ++ x ∷ []) ≡ Some (length met + 1) = agreement_of-push rule met x true has is in
    record {
      tells = ap (λ (o : Option ℕ). option_or o r) tells ∙ now.0 ∙ sym (newly_agreed-above before (length met + 1) (omega arith)) ∙ ap (newly_agreed before) (sym more);
      notes = now.1 ∙ ap (λ (o : Option ℕ). is_some o) (sym more);
    }
tells_step rule met x before told r noted noted' None false has is tells within now =
    let more : agreement_of rule (met ++ x ∷ []) ≡ None = agreement_of-push rule met x false has is in
    record {
      tells = ap (λ (o : Option ℕ). option_or o r) tells ∙ now.0 ∙ ap (newly_agreed before) (sym more);
      notes = now.1 ∙ ap (λ (o : Option ℕ). is_some o) (sym more);
    }

-- one cell more was met, and the plugin was asked after it
pub TellsAgreement-step : (rule : PluginRule) (met : List Cell) (x : Cell) (before : ℕ) (told r : Option ℕ) (noted noted' : Bool)
    → TellsAgreement rule met before told noted → before ≤ length met → AgreesNow noted (rule.agrees (met ++ x ∷ [])) (length met + 1) r noted'
    → TellsAgreement rule (met ++ x ∷ []) before (option_or told r) noted'
TellsAgreement-step rule met x before told r noted noted' was within now =
    tells_step rule met x before told r noted noted' (agreement_of rule met) (rule.agrees (met ++ x ∷ [])) refl refl was.tells within
    (subst (λ (v : Bool). AgreesNow v (rule.agrees (met ++ x ∷ [])) (length met + 1) r noted') was.notes now)

-- the same where the cell is the next one of a list
pub agreed_step : (rule rule' : PluginRule) (history cells : List Cell) (i at : ℕ) (cell : Cell) (told r told' : Option ℕ) (noted noted' : Bool)
    → i < length cells → get_or cells i cell ≡ cell → length history ≡ at → TellsAgreement rule (history ++ take i cells) at told noted
    → rule' ≡ rule → AgreesNow noted (rule'.agrees ((history ++ take i cells) ++ cell ∷ [])) (at + i + 1) r noted' → told' ≡ option_or told r
    → TellsAgreement rule (history ++ take (i + 1) cells) at told' noted'
agreed_step rule rule' history cells i at cell told r told' noted noted' within is count was same now tells =
    let met : List Cell = history ++ take i cells in
    let n : length met ≡ at + i = omega (arith, length-append history (take i cells), length-take i cells) in
    let asked : AgreesNow noted (rule.agrees (met ++ cell ∷ [])) (length met + 1) r noted' =
    subst (λ (k : ℕ). AgreesNow noted (rule.agrees (met ++ cell ∷ [])) (k + 1) r noted') (sym n)
    (subst (λ (p : PluginRule). AgreesNow noted (p.agrees (met ++ cell ∷ [])) (at + i + 1) r noted') same now) in
    let step = TellsAgreement-step rule met cell at told r noted noted' was (omega arith) asked in
    subst (λ (l : List Cell). TellsAgreement rule l at told' noted') (sym (met-more history cells i cell within is))
    (subst (λ (t : Option ℕ). TellsAgreement rule (met ++ cell ∷ []) at t noted') (sym tells) step)

-- an agreement that was known before is not reported again
pub newly_agreed-within : (before : ℕ) (a : Option ℕ) → ((m : ℕ) → a ≡ Some m → m ≤ before) → newly_agreed before a ≡ None
newly_agreed-within before None within = refl
newly_agreed-within before (Some m) within =
    let few : m ≤ before = within m refl in cond-false _ _ _ (le-ltb before m few)
