-- The cause of the run without faults is joint termination exactly where the joint position is the cut.
use Rattle.std.proofs.Common.{◌≡◌, ◌≢◌, ◌⊎◌, ℕ, zero, suc, min, List, [], ◌∷◌, ◌++◌, length, Bool, true, false, Option, Some, None, if◌then◌else◌, refl, ap, sym, subst, inl, inr, arith, map}
use Rattle.std.specs.Prelude.{◌==◌, unwrap_or, is_some, find, filter}
use Rattle.std.specs.Option.{option_or}
use Rattle.std.specs.List.{last_or}
use Rattle.std.proofs.lemmas.Bool.{eq-eqb, eqb-true}
use Rattle.ts_packet.specs.declared.cell.Cell.{Cell}
use Rattle.chain_model.specs.declared.cause.Cause.{Cause}
use Rattle.chain_model.specs.declared.cause.Cause.TheVariants.{Joint}
use Rattle.chain_model.specs.PluginRule.{PluginRule}
use Rattle.chain_model.specs.Apply.{OwnEnd, input_over, last_passed, stopped, refused, StageList, CellOutcome, goes_on, ends_after, ends_before, became, onto, apply_after}
use Rattle.chain_model.specs.StageLists.{rule_after, stage_list, end_list}
use Rattle.chain_model.specs.Joint.{joint_position}
use Rattle.chain_model.specs.Cut.{Ending, lesser_end, is_until, first_cause, causes_at, cause_among, cause_of_end, ending_of, endings_to, endings_of, cut_of, cause_of}

-- a list that a plugin did not end has a cell for each that came
onto-follows : (action : CellOutcome) (a : StageList) (n : ℕ) → (a.ended ≡ None → length a.cells ≡ n) → (onto action a).ended ≡ None → length (onto action a).cells ≡ suc n
onto-follows (goes_on cell) a n step e = ap suc (step e)
onto-follows (ends_after cell) a n step e = absurd cc
onto-follows (ends_before how) a n step e = absurd cc

apply_after-follows : (rule : PluginRule) (history xs : List Cell) → (apply_after rule history xs).ended ≡ None → length (apply_after rule history xs).cells ≡ length xs
apply_after-follows rule history [] e = refl
apply_after-follows rule history (x ∷ xs) e =
    onto-follows (became rule history x) (apply_after rule (history ++ x ∷ []) xs) (length xs) (apply_after-follows rule (history ++ x ∷ []) xs) e

-- none of these endings gives joint termination, and none of these causes is it
abbrev AllOwn : List Ending → Type 0
AllOwn [] = Unit {0}
AllOwn (e ∷ es) = (e.cause ≢ Joint) × AllOwn es

abbrev NoneJoint : List Cause → Type 0
NoneJoint [] = Unit {0}
NoneJoint (c ∷ cs) = (c ≢ Joint) × NoneJoint cs

-- one of these endings is at this place
abbrev SomeAt : ℕ → List Ending → Type 0
SomeAt m [] = ⊥
SomeAt m (e ∷ es) = (e.at ≡ m) ⊎ SomeAt m es

all-own-append : (xs ys : List Ending) → AllOwn xs → AllOwn ys → AllOwn (xs ++ ys)
all-own-append [] ys p q = q
all-own-append (x ∷ xs) ys p q = (p.0, all-own-append xs ys p.1 q)

some-left : (m : ℕ) (xs ys : List Ending) → SomeAt m xs → SomeAt m (xs ++ ys)
some-left m [] ys p = absurd p
some-left m (x ∷ xs) ys (inl p) = inl p
some-left m (x ∷ xs) ys (inr p) = inr (some-left m xs ys p)

some-right : (m : ℕ) (xs ys : List Ending) → SomeAt m ys → SomeAt m (xs ++ ys)
some-right m [] ys p = p
some-right m (x ∷ xs) ys p = inr (some-right m xs ys p)

-- the causes at a place, by whether the first ending is there
taken-cond : (b : Bool) (e : Ending) (es : List Ending) → e.cause ≢ Joint → NoneJoint (map (λ (x : Ending). x.cause) es)
    → NoneJoint (map (λ (x : Ending). x.cause) (if b then e ∷ es else es))
taken-cond true e es own rest = (own, rest)
taken-cond false e es own rest = rest

causes-own : (m : ℕ) (es : List Ending) → AllOwn es → NoneJoint (causes_at m es)
causes-own m [] own = tt
causes-own m (e ∷ es) own = taken-cond (e.at == m) e (filter (λ (x : Ending). x.at == m) es) own.0 (causes-own m es own.1)

-- there is a first cause
abbrev IsFull : List Cause → Type 0
IsFull [] = ⊥
IsFull (c ∷ cs) = Unit {0}

full-cond : (b : Bool) (e : Ending) (es : List Ending) → (b ≡ true) ⊎ IsFull (map (λ (x : Ending). x.cause) es)
    → IsFull (map (λ (x : Ending). x.cause) (if b then e ∷ es else es))
full-cond true e es h = tt
full-cond false e es (inl h) = absurd cc
full-cond false e es (inr h) = h

causes-full : (m : ℕ) (es : List Ending) → SomeAt m es → IsFull (causes_at m es)
causes-full m [] some = absurd some
causes-full m (e ∷ es) (inl at) = full-cond (e.at == m) e (filter (λ (x : Ending). x.at == m) es) (inl (eq-eqb e.at m at))
causes-full m (e ∷ es) (inr some) = full-cond (e.at == m) e (filter (λ (x : Ending). x.at == m) es) (inr (causes-full m es some))

-- the first of them that is an `until`, and the last of them, are no joint termination
abbrev IsNotJoint : Option Cause → Type 0
IsNotJoint None = Unit {0}
IsNotJoint (Some c) = c ≢ Joint

find-cond : (b : Bool) (c : Cause) (rest : Option Cause) → c ≢ Joint → IsNotJoint rest → IsNotJoint (if b then Some c else rest)
find-cond true c rest own h = own
find-cond false c rest own h = h

find-own : (cs : List Cause) → NoneJoint cs → IsNotJoint (find is_until cs)
find-own [] own = tt
find-own (c ∷ cs) own = find-cond (is_until c) c (find is_until cs) own.0 (find-own cs own.1)

last-own : (c : Cause) (cs : List Cause) → c ≢ Joint → NoneJoint cs → unwrap_or (last_or (Some c) cs) Joint ≢ Joint
last-own c [] here own = here
last-own c (x ∷ cs) here own = last-own x cs own.0 own.1

either-own : (found last : Option Cause) → IsNotJoint found → unwrap_or last Joint ≢ Joint → unwrap_or (option_or found last) Joint ≢ Joint
either-own None last found h = h
either-own (Some c) last found h = found

first-own : (cs : List Cause) → IsFull cs → NoneJoint cs → unwrap_or (first_cause cs) Joint ≢ Joint
first-own [] full own = absurd full
first-own (c ∷ cs) full own = either-own (find is_until (c ∷ cs)) (last_or None (c ∷ cs)) (find-own (c ∷ cs) own) (last-own c cs own.0 own.1)

-- how a stage ends its list is no joint termination
end-own : (k : ℕ) (how : OwnEnd) → cause_of_end k how ≢ Joint
end-own k (input_over how) = λ e. cc
end-own k last_passed = λ e. cc
end-own k stopped = λ e. cc
end-own k (refused reason) = λ e. cc

ending-own : (k : ℕ) (cells : List Cell) (ended : Option OwnEnd) → AllOwn (ending_of k (record { cells = cells; ended = ended }))
ending-own k cells None = tt
ending-own k cells (Some how) = (end-own k how, tt)

endings-own : (rules : List PluginRule) (input : StageList) (j : ℕ) → AllOwn (endings_to rules input j)
endings-own rules input zero = ending-own 0 input.cells input.ended
endings-own rules input (suc j) =
    let list : StageList = stage_list rules input (suc j) in
    all-own-append (endings_to rules input j) (ending_of (suc j) list) (endings-own rules input j) (ending-own (suc j) list.cells list.ended)

-- some stage ended its list where the last one's ends
ending-here : (k : ℕ) (cells : List Cell) (ended : Option OwnEnd) → is_some ended ≡ true → SomeAt (length cells) (ending_of k (record { cells = cells; ended = ended }))
ending-here k cells None some = absurd cc
ending-here k cells (Some how) some = inl refl

ends-next : (rules : List PluginRule) (input : StageList) (j : ℕ) (ended : Option OwnEnd) → (stage_list rules input (suc j)).ended ≡ ended
    → SomeAt (length (stage_list rules input j).cells) (endings_to rules input j)
    → SomeAt (length (stage_list rules input (suc j)).cells) (endings_to rules input (suc j))
ends-next rules input j None e before =
    let same : length (stage_list rules input (suc j)).cells ≡ length (stage_list rules input j).cells =
    apply_after-follows (rule_after rules j) [] (stage_list rules input j).cells e in
    some-left (length (stage_list rules input (suc j)).cells) (endings_to rules input j) (ending_of (suc j) (stage_list rules input (suc j)))
    (subst (λ (m : ℕ). SomeAt m (endings_to rules input j)) (sym same) before)
ends-next rules input j (Some how) e before =
    let list : StageList = stage_list rules input (suc j) in
    some-right (length list.cells) (endings_to rules input j) (ending_of (suc j) list) (ending-here (suc j) list.cells list.ended (ap is_some e))

ends-there : (rules : List PluginRule) (input : StageList) (j : ℕ) → is_some input.ended ≡ true → SomeAt (length (stage_list rules input j).cells) (endings_to rules input j)
ends-there rules input zero some = ending-here 0 input.cells input.ended some
ends-there rules input (suc j) some = ends-next rules input j (stage_list rules input (suc j)).ended refl (ends-there rules input j some)

-- where the list ends, some stage's own end is the cause
own-there : (rules : List PluginRule) (input : StageList) → is_some input.ended ≡ true
    → unwrap_or (first_cause (causes_at (length (end_list rules input).cells) (endings_of rules input))) Joint ≢ Joint
own-there rules input some =
    let m : ℕ = length (end_list rules input).cells in
    first-own (causes_at m (endings_of rules input)) (causes-full m (endings_of rules input) (ends-there rules input (length rules) some))
    (causes-own m (endings_of rules input) (endings-own rules input (length rules)))

-- the cut is the joint position, or it is where the list ends
only-joint : (end : ℕ) (joint : Option ℕ) (endings : List Ending) → unwrap_or (first_cause (causes_at end endings)) Joint ≢ Joint
    → cause_among (lesser_end end joint) joint endings ≡ Joint → joint ≡ Some (lesser_end end joint)
only-joint end None endings own e = absurd (own e)
only-joint end (Some j) endings own e =
    by-test (j == min end j) refl
  where
    other : (a b : ℕ) → min a b ≢ b → min a b ≡ a
    other a b = grind arith

    apart : (b : Bool) → (j == min end j) ≡ b → b ≡ false → j ≢ min end j
    apart b is off same = let on : (j == min end j) ≡ true = eq-eqb j (min end j) same in cc

    by-test : (b : Bool) → (j == min end j) ≡ b → Some j ≡ Some (min end j)
    by-test true is = ap Some (eqb-true j (min end j) is)
    by-test false is =
        let at_end : min end j ≡ end = other end j (λ same. apart false is refl (sym same)) in
        let C : Bool → Type 0 = λ b. (if b then Joint else unwrap_or (first_cause (causes_at (min end j) endings)) Joint) ≡ Joint in
        let told : unwrap_or (first_cause (causes_at (min end j) endings)) Joint ≡ Joint = subst C is e in
        absurd (own (subst (λ (m : ℕ). unwrap_or (first_cause (causes_at m endings)) Joint ≡ Joint) at_end told))

pub joint-only : (rules : List PluginRule) (input : StageList) (users : List ℕ) → is_some input.ended ≡ true → cause_of rules input users ≡ Joint
    → joint_position rules input users ≡ Some (cut_of rules input users)
joint-only rules input users some e =
    only-joint (length (end_list rules input).cells) (joint_position rules input users) (endings_of rules input) (own-there rules input some) e

-- at the joint position the cause is joint termination
joint-among : (cut : ℕ) (joint : Option ℕ) (endings : List Ending) → joint ≡ Some cut → cause_among cut joint endings ≡ Joint
joint-among cut joint endings is =
    let C : Option ℕ → Type 0 = λ o. cause_among cut o endings ≡ Joint in
    let P : Bool → Type 0 = λ b. (if b then Joint else unwrap_or (first_cause (causes_at cut endings)) Joint) ≡ Joint in
    let at : C (Some cut) = subst P (sym (eq-eqb cut cut refl)) refl in
    subst C (sym is) at

pub joint-always : (rules : List PluginRule) (input : StageList) (users : List ℕ) → joint_position rules input users ≡ Some (cut_of rules input users)
    → cause_of rules input users ≡ Joint
joint-always rules input users is = joint-among (cut_of rules input users) (joint_position rules input users) (endings_of rules input) is
