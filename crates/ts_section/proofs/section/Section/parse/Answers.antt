use Rattle.std.proofs.Common.{◌≡◌, ◌<◌, ℕ, List, None, sym, ◌∙◌, subst}
use Rattle.std.proofs.lemmas.List.Elements.{All-from_get_or}
use Rattle.ts_section.specs.ValidSection.{IsSection}
use Rattle.ts_section.specs.FirstBroken.{first_broken}
use Rattle.ts_section.proofs.HeadBytes.{IsBytes}
use Rattle.ts_section.proofs.RuleLemmas.{valid_from_none, none_from_valid, fault_and_none}
use Rattle.ts_section.proofs.section.Section.parse.Goals as goal

pub returns-in-Some-clause-every_section : goal.returns-in-Some-clause-every_section
returns-in-Some-clause-every_section c = λ valid. absurd (fault_and_none (first_broken c.args.from.now) c.in-Some.fault (sym c.in-Some.ensures) (none_from_valid c.args.from.now valid))

-- the copy of a row in which no rule is broken
copy_valid : (from items : List ℕ) → IsBytes from → first_broken from ≡ None → items ≡ from → IsSection items
copy_valid from items small none same =
    subst IsSection (sym same) (valid_from_none from (All-from_get_or (λ x. x < 256) from 0 (λ i inside. small i)) none)

pub invariant_of-result : goal.invariant_of-result
invariant_of-result c =
    copy_valid c.args.from.now c.in-Ok.bytes.items (λ i. (c.type_inv.from i).fits) (sym c.first_fault.ensures ∙ c.in_default.is) c.in-Ok.ensures.items

pub returns-clause-valid : goal.returns-clause-valid
returns-clause-valid c =
    copy_valid c.args.from.now c.in-Ok.bytes.items (λ i. (c.type_inv.from i).fits) (sym c.first_fault.ensures ∙ c.in_default.is) c.in-Ok.ensures.items
