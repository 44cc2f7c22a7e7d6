use Rattle.std.proofs.Common.{Bool, ap, sym, ◌==◌, ◌&&◌, ◌∙◌}
use Rattle.plug_info_state.specs.EitSections.{is_present, is_schedule}
use Rattle.plug_info_state.specs.EitStands.{count_of, counted}
use Rattle.plug_info_state.proofs.EitLemmas.{of-head, of-none}
use Rattle.plug_info_state.proofs.eit_counts.count_section.Goals as goal

pub returns-in_default-clause-present : goal.returns-in_default-clause-present
returns-in_default-clause-present c = λ id.
    sym (ap (λ (b : Bool). counted b (count_of c.args.present.now id)) (of-none is_present c.args.section.now id c.in_default.ensures.head))

pub returns-in_default-clause-schedule : goal.returns-in_default-clause-schedule
returns-in_default-clause-schedule c = λ id.
    sym (ap (λ (b : Bool). counted b (count_of c.args.schedule.now id)) (of-none is_schedule c.args.section.now id c.in_default.ensures.head))

pub returns-clause-present : goal.returns-clause-present
returns-clause-present c = λ id.
    c.in_ok-add_if.ensures.counted id
    ∙ ap (λ (b : Bool). counted b (count_of c.args.present.now id))
    (ap (λ (b : Bool). b && (c.in-Some.head.extension == id)) c.is_present.ensures ∙ of-head is_present c.args.section.now c.in-Some.head id c.in-Some.ensures.head)

pub returns-clause-schedule : goal.returns-clause-schedule
returns-clause-schedule c = λ id.
    c.in_ok-add_if-2.ensures.counted id
    ∙ ap (λ (b : Bool). counted b (count_of c.args.schedule.now id))
    (ap (λ (b : Bool). b && (c.in-Some.head.extension == id)) c.is_schedule.ensures ∙ of-head is_schedule c.args.section.now c.in-Some.head id c.in-Some.ensures.head)
