use Rattle.std.proofs.Common.{◌≡◌, ◌≤◌, ◌∙◌, List, ap, arith, length, refl, subst, sym}
use Rattle.std.specs.Prelude.{is_some, slice_get}
use Rattle.std.specs.List.{All}
use Rattle.std.specs.Option.{option_map_or}
use Rattle.std.proofs.lemmas.List.{with_items_is}
use Rattle.plug_inject.specs.Schedule.{chosen, given_after, turns_from}
use Rattle.plug_inject.specs.Scheduled.{turns_with}
use Rattle.plug_inject.specs.declared.turn.Turn.{Turn}
use Rattle.plug_inject.proofs.ScheduleLemmas.{begun-coming, counts-few, marks-given, still-coming, with-length}
use Rattle.plug_inject.proofs.schedule.Schedule.begin_where_over.Goals as goal

pub returns-then-is_some-clause-coming : goal.returns-then-is_some-clause-coming
returns-then-is_some-clause-coming c =
    still-coming c.args.self.now c.args.number c.requires.met
    (sym (c.is_some.ensures ∙ ap (λ row. is_some row) c.row.ensures) ∙ c.if-is_some.true)

pub begin_turn-times-requires-clause-few : goal.begin_turn-times-requires-clause-few
begin_turn-times-requires-clause-few c =
    let s = c.args.self.now in
    let groups = s.groups.items in
    let few : All (λ (turn : Turn). turn.count ≤ c.args.number) (turns_from 0 groups (given_after groups c.args.number).marks) =
    counts-few c.args.number 0 groups (given_after groups c.args.number).marks (omega (arith, marks-given groups c.args.number)) in
    subst (λ (turns : List Turn). All (λ (turn : Turn). turn.count ≤ c.args.number) turns) (sym (c.deref_mut.ensures.value ∙ c.requires.met.turns)) few

pub returns-clause-coming : goal.returns-clause-coming
returns-clause-coming c =
    let s = c.args.self.now in
    let many : length s.turns.items ≡ length c.begin_turn-times.new.turns =
    ap (λ (turns : List Turn). length turns) (sym c.deref_mut.ensures.value) ∙ with-length c.chosen-group.result c.args.number c.deref_mut.result.now
    ∙ ap (λ (turns : List Turn). length turns) (sym c.begin_turn-times.ensures.turns) in
    begun-coming s _ c.args.number c.chosen-group.result c.begin_turn-times.result c.requires.met
    (sym (c.is_some.ensures ∙ ap (λ row. is_some row) c.row.ensures) ∙ c.if-is_some.false)
    (c.chosen-group.ensures ∙ ap (λ (turns : List Turn). chosen turns c.args.number) c.as_slice.ensures.value)
    (c.begin_turn-times.ensures.count
    ∙ ap (λ (turns : List Turn). option_map_or (λ (turn : Turn). turn.count) (slice_get turns c.chosen-group.result) 0) c.deref_mut.ensures.value)
    refl
    (with_items_is s.turns c.begin_turn-times.new.turns (omega (arith, many))
    ∙ c.begin_turn-times.ensures.turns ∙ ap (λ (turns : List Turn). turns_with c.chosen-group.result c.args.number turns) c.deref_mut.ensures.value)
    refl c.section_after-self.ensures refl
