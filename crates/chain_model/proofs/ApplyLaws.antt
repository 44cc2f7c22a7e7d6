-- What a plugin makes of a first part of its cells, against what it makes of all of them.
use Rattle.std.proofs.Common.{◌≡◌, ◌≢◌, ℕ, suc, ◌<◌, ◌≤◌, List, [], ◌∷◌, ◌++◌, length, Some, None, refl, ap, arith}
use Rattle.ts_packet.specs.declared.cell.Cell.{Cell}
use Rattle.ts_packet.specs.Cells.{Live, Dropped}
use Rattle.chain_model.specs.PluginRule.{PluginRule, RuleOutcome, passes, drops, lasts, stops, refuses, passing_rule}
use Rattle.chain_model.specs.Apply.{OwnEnd, last_passed, StageList, CellOutcome, goes_on, ends_after, ends_before, outcome_of_live, became, onto, apply_after, apply}

onto-ended : (action : CellOutcome) (a b : StageList) (own : OwnEnd) → (a.ended ≡ Some own → (b.cells ≡ a.cells) × (b.ended ≡ Some own)) → (onto action a).ended ≡ Some own → ((onto action b).cells ≡ (onto action a).cells) × ((onto action b).ended ≡ Some own)
onto-ended (goes_on cell) a b own step e =
    let s = step e in (ap (λ cells. cell ∷ cells) s.0, s.1)
onto-ended (ends_after cell) a b own step e = (refl, e)
onto-ended (ends_before how) a b own step e = (refl, e)

apply_after-ended : (rule : PluginRule) (history xs ys : List Cell) (own : OwnEnd) → (apply_after rule history xs).ended ≡ Some own → ((apply_after rule history (xs ++ ys)).cells ≡ (apply_after rule history xs).cells) × ((apply_after rule history (xs ++ ys)).ended ≡ Some own)
apply_after-ended rule history [] ys own e = absurd cc
apply_after-ended rule history (x ∷ xs) ys own e =
    onto-ended (became rule history x) (apply_after rule (history ++ x ∷ []) xs)
    (apply_after rule (history ++ x ∷ []) (xs ++ ys)) own (apply_after-ended rule (history ++ x ∷ []) xs ys own) e

-- a list that has ended stays so, whatever cells follow
pub apply-ended : (rule : PluginRule) (xs ys : List Cell) (own : OwnEnd) → (apply rule xs).ended ≡ Some own → ((apply rule (xs ++ ys)).cells ≡ (apply rule xs).cells) × ((apply rule (xs ++ ys)).ended ≡ Some own)
apply-ended rule xs ys own e = apply_after-ended rule [] xs ys own e

last-action : (action : RuleOutcome) (labels : ℕ) (rest : StageList) → (onto (outcome_of_live action labels) rest).ended ≡ Some last_passed → 1 ≤ length (onto (outcome_of_live action labels) rest).cells
last-action (passes packet) labels rest e = omega arith
last-action drops labels rest e = omega arith
last-action (lasts packet) labels rest e = omega arith
last-action stops labels rest e = absurd cc
last-action (refuses reason) labels rest e = absurd cc

apply_after-last_some : (rule : PluginRule) (history xs : List Cell) → (apply_after rule history xs).ended ≡ Some last_passed → 1 ≤ length (apply_after rule history xs).cells
apply_after-last_some rule history [] e = absurd cc
apply_after-last_some rule history (Live packet labels ∷ xs) e =
    last-action (rule.outcome_of history packet labels) (rule.labels_of history packet labels) (apply_after rule (history ++ Live packet labels ∷ []) xs) e
apply_after-last_some rule history (Dropped ∷ xs) e = omega arith

-- a list that ends after a last packet is not empty
pub apply-last_some : (rule : PluginRule) (xs : List Cell) → (apply rule xs).ended ≡ Some last_passed → 1 ≤ length (apply rule xs).cells
apply-last_some rule xs e = apply_after-last_some rule [] xs e

onto-last : (action : CellOutcome) (a b : StageList) → (b.ended ≡ Some last_passed → length b.cells ≤ length a.cells → a.ended ≡ Some last_passed) → (onto action b).ended ≡ Some last_passed → length (onto action b).cells ≤ length (onto action a).cells → (onto action a).ended ≡ Some last_passed
onto-last (goes_on cell) a b step e le = step e (omega arith)
onto-last (ends_after cell) a b step e le = refl
onto-last (ends_before how) a b step e le = e

apply_after-last : (rule : PluginRule) (history xs ys : List Cell) → (apply_after rule history (xs ++ ys)).ended ≡ Some last_passed → length (apply_after rule history (xs ++ ys)).cells ≤ length (apply_after rule history xs).cells → (apply_after rule history xs).ended ≡ Some last_passed
apply_after-last rule history [] ys e le =
    let some : 1 ≤ length (apply_after rule history ys).cells = apply_after-last_some rule history ys e in absurd (omega arith)
apply_after-last rule history (x ∷ xs) ys e le =
    onto-last (became rule history x) (apply_after rule (history ++ x ∷ []) xs)
    (apply_after rule (history ++ x ∷ []) (xs ++ ys)) (apply_after-last rule (history ++ x ∷ []) xs ys) e le

-- where a list ends after a last packet, it ended so as soon as that packet was given
pub apply-last : (rule : PluginRule) (xs ys : List Cell) → (apply rule (xs ++ ys)).ended ≡ Some last_passed → length (apply rule (xs ++ ys)).cells ≤ length (apply rule xs).cells → (apply rule xs).ended ≡ Some last_passed
apply-last rule xs ys e le = apply_after-last rule [] xs ys e le

onto-length : (action : CellOutcome) (a : StageList) (n : ℕ) → length a.cells ≤ n → length (onto action a).cells ≤ suc n
onto-length (goes_on cell) a n le = omega arith
onto-length (ends_after cell) a n le = omega arith
onto-length (ends_before how) a n le = omega arith

apply_after-length : (rule : PluginRule) (history xs : List Cell) → length (apply_after rule history xs).cells ≤ length xs
apply_after-length rule history [] = omega arith
apply_after-length rule history (x ∷ xs) =
    onto-length (became rule history x) (apply_after rule (history ++ x ∷ []) xs) (length xs)
    (apply_after-length rule (history ++ x ∷ []) xs)

-- no more cells are given than were met
pub apply-length : (rule : PluginRule) (xs : List Cell) → length (apply rule xs).cells ≤ length xs
apply-length rule xs = apply_after-length rule [] xs

onto-before : (action : CellOutcome) (a : StageList) (own : OwnEnd) (n : ℕ) → own ≢ last_passed → (a.ended ≡ Some own → length a.cells < n) → (onto action a).ended ≡ Some own → length (onto action a).cells < suc n
onto-before (goes_on cell) a own n other step e =
    let le : length a.cells < n = step e in omega arith
onto-before (ends_after cell) a own n other step e =
    let same : own ≡ last_passed = cc in absurd (other same)
onto-before (ends_before how) a own n other step e = omega arith

apply_after-before : (rule : PluginRule) (history xs : List Cell) (own : OwnEnd) → own ≢ last_passed → (apply_after rule history xs).ended ≡ Some own → length (apply_after rule history xs).cells < length xs
apply_after-before rule history [] own other e = absurd cc
apply_after-before rule history (x ∷ xs) own other e =
    onto-before (became rule history x) (apply_after rule (history ++ x ∷ []) xs) own (length xs) other
    (apply_after-before rule (history ++ x ∷ []) xs own other) e

-- a plugin that stops or refuses has met one cell more than it gave
pub apply-before : (rule : PluginRule) (xs : List Cell) (own : OwnEnd) → own ≢ last_passed → (apply rule xs).ended ≡ Some own → length (apply rule xs).cells < length xs
apply-before rule xs own other e = apply_after-before rule [] xs own other e

apply_after-passes : (history xs : List Cell) → ((apply_after passing_rule history xs).cells ≡ xs) × ((apply_after passing_rule history xs).ended ≡ None)
unfolding passing_rule
apply_after-passes history [] = (refl, refl)
apply_after-passes history (Live packet labels ∷ xs) =
    let s = apply_after-passes (history ++ Live packet labels ∷ []) xs in
    (ap (λ cells. Live packet labels ∷ cells) s.0, s.1)
apply_after-passes history (Dropped ∷ xs) =
    let s = apply_after-passes (history ++ Dropped ∷ []) xs in (ap (λ cells. Dropped ∷ cells) s.0, s.1)

-- the rule that changes nothing gives the cells as they are
pub apply-passes : (xs : List Cell) → ((apply passing_rule xs).cells ≡ xs) × ((apply passing_rule xs).ended ≡ None)
apply-passes xs = apply_after-passes [] xs
