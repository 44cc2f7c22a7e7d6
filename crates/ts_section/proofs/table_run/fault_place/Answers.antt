use Rattle.std.proofs.Common.{◌≡◌, [], get_or, sym, ap, subst, ◌∙◌, below_more, arith}
use Rattle.std.proofs.lemmas.Bool.{false≢true}
use Rattle.std.proofs.lemmas.List.{get_or_read}
use Rattle.ts_section.specs.SectionFields.{head_fields, last_number_of}
use Rattle.ts_section.specs.ValidSection.{IsSection}
use Rattle.ts_section.specs.SectionRun.{stands_alone, IsMember, SharesHead}
use Rattle.ts_section.proofs.RunLemmas.{fault_at, fault_wanting, whole_numbered, member_from_head, head_from_member}
use Rattle.ts_section.proofs.table_run.fault_place.Goals as goal

pub returns-then-not-is_member-clause-fault : goal.returns-then-not-is_member-clause-fault
returns-then-not-is_member-clause-fault c =
    let first : c.in-Some.first.now ≡ get_or c.args.sections.now 0 [] = c.in-Some.ensures.item.3.1 [] in
    let here : c.index-sections-place.result ≡ get_or c.args.sections.now c.loop-place.place [] =
    get_or_read c.args.sections.now c.loop-place.place c.index-sections-place.result c.loop-place-test.true c.index-sections-place.is [] in
    fault_at c.args.sections.now c.loop-place.place (sym (ap stands_alone first) ∙ c.in-Some-shared_head.ensures.together) c.loop-place-test.true c.loop-place.invariant.members
    (λ member.
    false≢true (sym c.if-not-is_member.true
    ∙ c.is_member.ensures.member.1 (subst (SharesHead c.in-Some-shared_head.head c.loop-place.place) (sym here)
    (head_from_member (get_or c.args.sections.now 0 []) (get_or c.args.sections.now c.loop-place.place []) c.in-Some-shared_head.head c.loop-place.place
    (c.in-Some-shared_head.ensures.head ∙ ap head_fields first) member))))

pub loop-place-preserved : goal.loop-place-preserved
loop-place-preserved c =
    let first : c.in-Some.first.now ≡ get_or c.args.sections.now 0 [] = c.in-Some.ensures.item.3.1 [] in
    let here : c.index-sections-place.result ≡ get_or c.args.sections.now c.loop-place.place [] =
    get_or_read c.args.sections.now c.loop-place.place c.index-sections-place.result c.loop-place-test.true c.index-sections-place.is [] in
    let head_is : c.in-Some-shared_head.head ≡ head_fields (get_or c.args.sections.now 0 []) = c.in-Some-shared_head.ensures.head ∙ ap head_fields first in
    let valid : IsSection (get_or c.args.sections.now c.loop-place.place []) = subst IsSection here c.is_member.ensures.valid in
    let shares : SharesHead c.in-Some-shared_head.head c.loop-place.place (get_or c.args.sections.now c.loop-place.place []) =
    subst (SharesHead c.in-Some-shared_head.head c.loop-place.place) here (c.is_member.ensures.member.0 c.if-not-is_member.false) in
    let member : IsMember (get_or c.args.sections.now 0 []) c.loop-place.place (get_or c.args.sections.now c.loop-place.place []) =
    member_from_head (get_or c.args.sections.now 0 []) (get_or c.args.sections.now c.loop-place.place []) c.in-Some-shared_head.head c.loop-place.place head_is valid shares in
    let last : c.in-Some-shared_head.head.last ≡ last_number_of (get_or c.args.sections.now 0 []) = ap (λ h. h.last) head_is in
    record {
      within = omega (arith, member.counted);
      members = below_more (λ k. IsMember (get_or c.args.sections.now 0 []) k (get_or c.args.sections.now k [])) c.loop-place.place c.loop-place.invariant.members member;
      valid = below_more (λ k. IsSection (get_or c.args.sections.now k [])) c.loop-place.place c.loop-place.invariant.valid valid;
    }

pub returns-then-sections-wanted-clause-fault : goal.returns-then-sections-wanted-clause-fault
returns-then-sections-wanted-clause-fault c =
    let first : c.in-Some.first.now ≡ get_or c.args.sections.now 0 [] = c.in-Some.ensures.item.3.1 [] in
    let head_is : c.in-Some-shared_head.head ≡ head_fields (get_or c.args.sections.now 0 []) = c.in-Some-shared_head.ensures.head ∙ ap head_fields first in
    let last : c.in-Some-shared_head.head.last ≡ last_number_of (get_or c.args.sections.now 0 []) = ap (λ h. h.last) head_is in
    fault_wanting c.args.sections.now (sym (ap stands_alone first) ∙ c.in-Some-shared_head.ensures.together) c.in-Some.ensures.item.3.0 (omega arith)
    (λ k early. c.loop-place.invariant.members k (omega arith))

pub returns-else-sections-wanted-clause-whole : goal.returns-else-sections-wanted-clause-whole
returns-else-sections-wanted-clause-whole c =
    let first : c.in-Some.first.now ≡ get_or c.args.sections.now 0 [] = c.in-Some.ensures.item.3.1 [] in
    let head_is : c.in-Some-shared_head.head ≡ head_fields (get_or c.args.sections.now 0 []) = c.in-Some-shared_head.ensures.head ∙ ap head_fields first in
    let last : c.in-Some-shared_head.head.last ≡ last_number_of (get_or c.args.sections.now 0 []) = ap (λ h. h.last) head_is in
    whole_numbered c.args.sections.now c.in-Some.ensures.item.3.0 (omega arith) (λ k early. c.loop-place.invariant.members k (omega arith))
