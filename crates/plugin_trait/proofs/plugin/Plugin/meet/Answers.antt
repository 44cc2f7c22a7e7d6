use Rattle.std.proofs.Common.{◌≡◌, [], ◌∷◌, ◌++◌, get_or, set, refl, sym, ap, ◌∙◌, subst}
use Rattle.ts_packet.specs.declared.cell.Cell.{Cell}
use Rattle.ts_packet.specs.Cells.{Live, Dropped}
use Rattle.chain_model.specs.Apply.{became, goes_on}
use Rattle.cell_rows.specs.Cells.{cells_of}
use Rattle.cell_rows.proofs.CellLemmas.{cells_set, cells_new, cells_read, dropped_is, live_is}
use Rattle.plugin_trait.specs.Steps.{StepTells, SameKind, met_after}
use Rattle.plugin_trait.proofs.plugin.Plugin.meet.Goals as goal

pub returns-clause-tells : goal.returns-clause-tells
returns-clause-tells g c = λ history mark holds count.
    let m = c.index-marks-slot.result in let ps = c.args.packets.now in
    let gone = cells_read ps c.args.marks.now c.args.slot [] m c.requires.long c.requires.within c.index-marks-slot.is ∙ dropped_is _ m c.if-mark.false in
    subst (λ (cell : Cell). (became (g.Self.Plugin.rule c.args.self.now) history cell ≡ goes_on cell) × SameKind cell cell) (sym gone) (refl, tt)

pub returns-clause-meets : goal.returns-clause-meets
returns-clause-meets g c = λ history mark holds count.
    let m = c.index-marks-slot.result in let ps = c.args.packets.now in
    let gone = cells_read ps c.args.marks.now c.args.slot [] m c.requires.long c.requires.within c.index-marks-slot.is ∙ dropped_is _ m c.if-mark.false in
    subst (λ (cell : Cell). g.Self.Plugin.stands_for c.pass_over.new.self (history ++ cell ∷ []) mark) (sym gone) (c.pass_over.ensures.meets history mark holds count)

pub returns-then-mark-clause-cells : goal.returns-then-mark-clause-cells
returns-then-mark-clause-cells g c =
    let ps = c.args.packets.now in let ms = c.args.marks.now in let i = c.args.slot in let p = c.step-outcome.new.packet in let a = c.after.result in
    cells_set ps ms i p a c.requires.long ∙ ap (set (cells_of ps ms) i) (sym (cells_new ps ms i p a c.requires.long c.requires.within))

pub returns-then-mark-clause-tells : goal.returns-then-mark-clause-tells
returns-then-mark-clause-tells g c = λ history mark holds count.
    let ps = c.args.packets.now in let ms = c.args.marks.now in let i = c.args.slot in let p = c.step-outcome.new.packet in let a = c.after.result in
    let m = c.index-marks-slot.result in let old = c.index-packets-slot.result in let rule = g.Self.Plugin.rule c.args.self.now in let o = c.step-outcome.result in
    let is = cells_read ps ms i old m c.requires.long c.requires.within c.index-marks-slot.is ∙ live_is (get_or ps i old) m c.if-mark.true in
    let left = cells_new ps ms i p a c.requires.long c.requires.within ∙ c.after.ensures p in
    let told = c.step-outcome.ensures.tells history mark holds count in
    subst (λ (x : Cell). StepTells rule history x o (get_or (cells_of (set ps i p) (set ms i a)) i Dropped)) (sym is)
    (subst (λ (y : Cell). StepTells rule history (Live (get_or ps i old) m.labels) o y) (sym left) told)

pub returns-then-mark-clause-meets : goal.returns-then-mark-clause-meets
returns-then-mark-clause-meets g c = λ history mark holds count.
    let ps = c.args.packets.now in let ms = c.args.marks.now in let i = c.args.slot in
    let m = c.index-marks-slot.result in let old = c.index-packets-slot.result in let o = c.step-outcome.result in
    let is = cells_read ps ms i old m c.requires.long c.requires.within c.index-marks-slot.is ∙ live_is (get_or ps i old) m c.if-mark.true in
    subst (λ (x : Cell). g.Self.Plugin.stands_for c.step-outcome.new.self (met_after o history x) mark) (sym is) (c.step-outcome.ensures.meets history mark holds count)
