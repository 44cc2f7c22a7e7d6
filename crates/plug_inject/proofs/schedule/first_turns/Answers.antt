use Rattle.std.proofs.Common.{◌+◌, ◌++◌, ◌∙◌, ◌∷◌, [], List, ap, drop, sym}
use Rattle.std.proofs.lemmas.List.{at_drop_more, drop_all}
use Rattle.plug_inject.specs.Contents.{Group}
use Rattle.plug_inject.specs.Schedule.{turns_from}
use Rattle.plug_inject.specs.declared.turn.Turn.{Turn}
use Rattle.plug_inject.proofs.ScheduleLemmas.{turns-end, turns-more}
use Rattle.plug_inject.proofs.schedule.first_turns.Goals as goal

pub loop-group-preserved : goal.loop-group-preserved
loop-group-preserved c =
    let turns = c.loop-group.turns.items in
    let at = c.loop-group.group-index in
    let groups = c.args.groups.now in
    let group = c.group-item.result in
    let rest = drop (at + 1) groups in
    ap (λ (ts : List Turn). ts ++ turns_from (at + 1) rest [])
    (c.in_ok-push.ensures.items ∙ ap (λ (t : Turn). turns ++ t ∷ []) c.first_turn.ensures)
    ∙ turns-more turns at group rest
    ∙ ap (λ (g : Group). turns ++ turns_from at (g ∷ rest) []) c.group-item.is
    ∙ sym (at_drop_more (λ (left : List Group). turns ++ turns_from at left []) groups at group c.loop-group-test.true)
    ∙ c.loop-group.invariant

pub returns : goal.returns
returns c =
    let turns = c.loop-group.turns.items in
    let at = c.loop-group.group-index in
    turns-end turns at
    ∙ ap (λ (left : List Group). turns ++ turns_from at left []) (sym (drop_all at c.args.groups.now c.loop-group-test.false))
    ∙ c.loop-group.invariant
