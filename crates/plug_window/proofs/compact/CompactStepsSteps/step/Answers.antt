use Rattle.std.proofs.Common.{◌≤◌, List, length, sym, subst}
use Rattle.ts_packet.specs.declared.cell.Cell.{Cell}
use Rattle.ts_packet.specs.Cells.{Live}
use Rattle.ts_packet.specs.LiveRows.{live_rows}
use Rattle.plugin_trait.specs.Steps.{left_of}
use Rattle.plug_window.specs.BlockState.{StandsFor}
use Rattle.ts_packet.specs.declared.labelled.Labelled.{Labelled}
use Rattle.plug_window.proofs.SlotLemmas.{met-always, rows-more, marks-more}
use Rattle.plug_window.proofs.compact.CompactStepsSteps.step.Goals as goal

pub returns-clause-meets : goal.returns-clause-meets
returns-clause-meets c = λ history mark stands count.
    let cell = Live c.args.packet.now c.args.labels.now in
    let left = left_of c.fill_slot.result c.fill_slot.new.packet c.fill_slot.new.labels in
    let met = met-always c.fill_slot.result left history cell c.fill_slot.ensures.told in
    subst (λ (h : List Cell). StandsFor c.turn-given.new.self (live_rows h) × (mark ≤ length h)) (sym met) (
      subst (λ (rows : List Labelled). StandsFor c.turn-given.new.self rows) (sym (rows-more history c.args.packet.now c.args.labels.now)) (c.turn-given.ensures.stands (live_rows history) stands.0),
      marks-more history cell mark stands.1,
    )
