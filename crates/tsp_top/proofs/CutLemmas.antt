-- What is written up to a cut begins what the run without faults writes.
use Rattle.std.proofs.Common.{◌≡◌, ◌≢◌, ◌⊎◌, ℕ, zero, suc, ◌-◌, ◌<◌, ◌≤◌, min, List, [], ◌∷◌, ◌++◌, length, take, drop, Bool, Option, None, Some, if◌then◌else◌, refl, ap, sym, ◌∙◌, subst, inl, inr, arith, append-nil, append_assoc}
use Rattle.std.specs.Prelude.{unwrap_or}
use Rattle.std.proofs.lemmas.Bool.{eq-eqb}
use Rattle.ts_packet.specs.declared.cell.Cell.{Cell}
use Rattle.ts_packet.specs.Cells.{Live, Dropped}
use Rattle.chain_model.specs.Prefix.{IsPrefix}
use Rattle.chain_model.specs.Written.{written, IsPartOfFirst}
use Rattle.stage_run.proofs.WritingLemmas.{written-take-add}
use Rattle.chain_model.specs.PluginRule.{PluginRule}
use Rattle.chain_model.specs.Apply.{StageList}
use Rattle.chain_model.specs.StageLists.{end_list}
use Rattle.chain_model.specs.Joint.{joint_position}
use Rattle.chain_model.specs.Cut.{Ending, lesser_end, first_cause, causes_at, cause_among, endings_of, cut_of, cause_of, IsValidFault, IsPureClose}
use Rattle.chain_model.specs.declared.cause.Cause.{Cause}
use Rattle.chain_model.specs.declared.cause.Cause.TheVariants.{Input, Joint, Until, Stop, Refuse, WriteFault, NoMemory}
use Rattle.tsp_top.specs.StreamTheorem.{IsCutPart}

-- the cut is where the list ends, or the joint position
cut-is : (end : ℕ) (joint : Option ℕ) → (lesser_end end joint ≡ end) ⊎ (joint ≡ Some (lesser_end end joint))
cut-is end None = inl refl
cut-is end (Some j) = elim (min-either end j) [ inl left ↦ inl left | inr right ↦ inr (ap Some (sym right)) ]
  where
    min-either : (a b : ℕ) → (min a b ≡ a) ⊎ (min a b ≡ b)
    min-either a b = grind arith

-- at the joint position the cause is joint termination
joint-cause : (cut : ℕ) (joint : Option ℕ) (endings : List Ending) → joint ≡ Some cut → cause_among cut joint endings ≡ Joint
joint-cause cut joint endings is =
    let C : Option ℕ → Type 0 = λ o. cause_among cut o endings ≡ Joint in
    let P : Bool → Type 0 = λ b. (if b then Joint else unwrap_or (first_cause (causes_at cut endings)) Joint) ≡ Joint in
    let at : C (Some cut) = subst P (sym (eq-eqb cut cut refl)) refl in
    subst C (sym is) at

-- after a failed write there is a packet left before the list's end
part-below : (m : ℕ) (cells : List Cell) (part : List ℕ) → IsPartOfFirst (drop m cells) part → m < length cells
part-below zero [] part is = absurd is
part-below zero (x ∷ cells) part is = omega arith
part-below (suc m) [] part is = absurd is
part-below (suc m) (x ∷ cells) part is = omega (arith, part-below m cells part is)

-- so the cut is before that of the run without faults, unless it is the joint position
below-end : (m end : ℕ) (joint : Option ℕ) → m < end → m ≤ lesser_end end joint → joint ≢ Some m → m < lesser_end end joint
below-end m end None less le apart = less
below-end m end (Some j) less le apart = elim (order m (min end j) le) [
  | inl below ↦ below
  | inr same ↦ absurd (elim (cut-is end (Some j)) [
    | inl left ↦ omega arith
    | inr joint ↦ apart (joint ∙ ap Some (sym same))
  ])
]
  where
    order : (a b : ℕ) → a ≤ b → (a < b) ⊎ (a ≡ b)
    order a b le = grind arith

-- a first part of the first packet begins what the cells write
part-begins : (cells : List Cell) (part : List ℕ) → IsPartOfFirst cells part → IsPrefix part (written cells)
part-begins [] part is = absurd is
part-begins (Dropped ∷ cells) part is = absurd is
part-begins (Live packet labels ∷ cells) part is = (is.0 ++ written cells, ap (λ (b : List ℕ). b ++ written cells) is.2 ∙ append_assoc part is.0 (written cells))

-- and of the first of them, if there is one
part-of-some : (n : ℕ) (cells : List Cell) (part : List ℕ) → IsPartOfFirst cells part → IsPartOfFirst (take (suc n) cells) part
part-of-some n [] part is = absurd is
part-of-some n (Dropped ∷ cells) part is = absurd is
part-of-some n (Live packet labels ∷ cells) part is = is

-- the bytes up to a cut begin those up to a later one, and so they do with a part of the packet between
cells-begin : (cells : List Cell) (cut all : ℕ) → cut ≤ all → IsPrefix (written (take cut cells) ++ []) (written (take all cells))
cells-begin cells cut all le =
    let more : List Cell = take (all - cut) (drop cut cells) in (
      written more,
      ap (λ (n : ℕ). written (take n cells)) (omega arith)
          ∙ written-take-add cut (all - cut) cells
          ∙ ap (λ (b : List ℕ). b ++ written more) (sym (append-nil (written (take cut cells)))),
    )

part-begins-too : (cells : List Cell) (cut all : ℕ) (part : List ℕ) → cut < all → IsPartOfFirst (drop cut cells) part
    → IsPrefix (written (take cut cells) ++ part) (written (take all cells))
part-begins-too cells cut all part less is =
    let n : ℕ = all - suc cut in
    let more : List Cell = take (suc n) (drop cut cells) in
    let begins : IsPrefix part (written more) = part-begins more part (part-of-some n (drop cut cells) part is) in (
      begins.0,
      ap (λ (k : ℕ). written (take k cells)) (omega arith)
          ∙ written-take-add cut (suc n) cells
          ∙ ap (λ (b : List ℕ). written (take cut cells) ++ b) begins.1
          ∙ sym (append_assoc (written (take cut cells)) part begins.0),
    )

-- a part after the cut is none, or the run ended by a failed write
by-part : (cells : List Cell) (cut : ℕ) (why : Cause) (part : List ℕ) (G : Type 0) → IsCutPart cells cut why part
    → (part ≡ [] → G) → (why ≡ WriteFault → IsPartOfFirst (drop cut cells) part → G) → G
by-part cells cut WriteFault part G is none some = some refl is
by-part cells cut (Input how) part G is none some = none is
by-part cells cut Joint part G is none some = none is
by-part cells cut (Until j) part G is none some = none is
by-part cells cut (Stop j) part G is none some = none is
by-part cells cut (Refuse j reason) part G is none some = none is
by-part cells cut (NoMemory k) part G is none some = none is

-- a chain with a right cut is not cut after that of the run without faults
cut-within : (rules : List PluginRule) (list : StageList) (users : List ℕ) (cut : ℕ) (why : Cause)
    → IsPureClose rules list users cut why ⊎ IsValidFault rules list users cut why → cut ≤ cut_of rules list users
cut-within rules list users cut why (inl pure) = omega (arith, pure.0)
cut-within rules list users cut why (inr fault) = fault.within

-- where a failed write ended it, joint termination did not
write-not-joint : (rules : List PluginRule) (list : StageList) (users : List ℕ) (cut : ℕ) (why : Cause)
    → IsPureClose rules list users cut why ⊎ IsValidFault rules list users cut why → why ≡ WriteFault → joint_position rules list users ≢ Some cut
write-not-joint rules list users cut why (inr fault) is = fault.not_joint
write-not-joint rules list users cut why (inl pure) is = λ joint.
    let at : joint_position rules list users ≡ Some (cut_of rules list users) = joint ∙ ap Some pure.0 in
    let named : cause_of rules list users ≡ Joint = joint-cause (cut_of rules list users) (joint_position rules list users) (endings_of rules list) at in
    differ (sym is ∙ pure.1 ∙ named)
  where
    differ : WriteFault ≡ Joint → ⊥
    differ e = cc

-- what is written up to the cut, with the part after it, begins what the run without faults writes
pub written-begins : (rules : List PluginRule) (list : StageList) (users : List ℕ) (cut : ℕ) (why : Cause) (part : List ℕ)
    → IsPureClose rules list users cut why ⊎ IsValidFault rules list users cut why → IsCutPart (end_list rules list).cells cut why part
    → IsPrefix (written (take cut (end_list rules list).cells) ++ part) (written (take (cut_of rules list users) (end_list rules list).cells))
written-begins rules list users cut why part closes is =
    let cells : List Cell = (end_list rules list).cells in
    let all : ℕ = cut_of rules list users in
    let within : cut ≤ all = cut-within rules list users cut why closes in
    let G : Type 0 = IsPrefix (written (take cut cells) ++ part) (written (take all cells)) in
    by-part cells cut why part G is
    (λ none. rw none (cells-begin cells cut all within))
    (λ failed some.
    let less : cut < all = below-end cut (length cells) (joint_position rules list users) (part-below cut cells part some) within (write-not-joint rules list users cut why closes failed) in
    part-begins-too cells cut all part less some)
