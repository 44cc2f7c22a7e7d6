use Rattle.std.proofs.Common.{◌≡◌, ◌≤◌, List, length, false, sym, subst, inl, inr}
use Rattle.std.proofs.lemmas.Bool.{cases_Bool}
use Rattle.ts_packet.specs.declared.cell.Cell.{Cell}
use Rattle.ts_packet.specs.declared.labelled.Labelled.{Labelled}
use Rattle.ts_packet.specs.Cells.{Live}
use Rattle.ts_packet.specs.LiveRows.{live_rows}
use Rattle.plugin_trait.specs.Steps.{left_of}
use Rattle.plug_psi.specs.ReferredStands.{has_failed}
use Rattle.plug_window.specs.LateState.{StandsFor}
use Rattle.plug_window.proofs.SlotLemmas.{met-always, rows-more, marks-more}
use Rattle.plug_window.proofs.rmorphan.RmorphanStepsSteps.step.Goals as goal

pub returns-in-Ok-clause-meets : goal.returns-in-Ok-clause-meets
returns-in-Ok-clause-meets c = λ history mark stands count.
    let cell = Live c.args.packet.now c.args.labels.now in
    let left = left_of c.fill_slot.result c.fill_slot.new.packet c.fill_slot.new.labels in
    let met = met-always c.fill_slot.result left history cell c.fill_slot.ensures.told in
    let fine : has_failed c.args.self.now.line.referred ≡ false =
    elim (cases_Bool (has_failed c.args.self.now.line.referred)) [
      | inl yes_ ↦ (let spent = c.in-Ok.ensures.stays_spent yes_ in absurd cc)
      | inr no_ ↦ no_
    ] in
    subst (λ (h : List Cell). (has_failed c.turn.new.self.referred ≡ false → StandsFor c.turn.new.self (live_rows h)) × (mark ≤ length h)) (sym met) (
      λ _. subst (λ (rows : List Labelled). StandsFor c.turn.new.self rows) (sym (rows-more history c.args.packet.now c.args.labels.now)) (c.in-Ok.ensures.stands (live_rows history) (stands.0 fine)),
      marks-more history cell mark stands.1,
    )
