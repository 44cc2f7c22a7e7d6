use Rattle.std.proofs.Common.{◌≡◌, ◌+◌, ℕ, List, length, take, sym, ap, ◌∙◌, subst, arith}
use Rattle.ts_packet.specs.declared.cell.Cell.{Cell}
use Rattle.cell_land.specs.Cells.{CellPiece}
use Rattle.cell_land.proofs.CellLemmas.{as_written, same_slots, written_over}
use Rattle.stage_run.specs.InputSteps.{InputGoes, IsFilled}
use Rattle.stage_run.proofs.input_stage.InputStage.fill_rows.Goals as goal

pub of-requires-clause-long : goal.of-requires-clause-long
of-requires-clause-long g c =
    let a = c.apart-packets.ensures in let x = c.apart-packets.result in let p = c.as_mut_slice in let m = c.as_mut_slice-2 in let f = c.fill-filled in
    let lp : length f.new.packets ≡ length x.0.cells = (let e : length f.new.packets ≡ length p.result.now = omega arith in e) ∙ ap length p.ensures.value in
    let lm : length f.new.marks ≡ length x.1.cells = (let e : length f.new.marks ≡ length m.result.now = omega arith in e) ∙ ap length m.ensures.value in
    ap length (written_over f.new.marks x.1.cells lm) ∙ lm ∙ a.long.1 ∙ sym a.long.0 ∙ sym lp ∙ sym (ap length (written_over f.new.packets x.0.cells lp))

pub returns-clause-slots : goal.returns-clause-slots
returns-clause-slots g c =
    let a = c.apart-packets.ensures in let x = c.apart-packets.result in let p = c.as_mut_slice in let m = c.as_mut_slice-2 in let f = c.fill-filled in let w = c.args.window in
    let lp : length f.new.packets ≡ length x.0.cells = (let e : length f.new.packets ≡ length p.result.now = omega arith in e) ∙ ap length p.ensures.value in
    let lm : length f.new.marks ≡ length x.1.cells = (let e : length f.new.marks ≡ length m.result.now = omega arith in e) ∙ ap length m.ensures.value in
    let whole = c.of.ensures ∙ as_written x.0 x.1 w.land w.start f.new.packets f.new.marks a.packets.0 a.marks.0 a.packets.1 lp lm in
    same_slots w c.of.result f.new.packets f.new.marks whole (lm ∙ a.long.1 ∙ sym a.long.0 ∙ sym lp) (lp ∙ a.long.0)

pub returns-clause-goes : goal.returns-clause-goes
returns-clause-goes g c = λ lists holds.
    let a = c.apart-packets.ensures in let x = c.apart-packets.result in let p = c.as_mut_slice in let m = c.as_mut_slice-2 in let f = c.fill-filled in let w = c.args.window in
    let lp : length f.new.packets ≡ length x.0.cells = (let e : length f.new.packets ≡ length p.result.now = omega arith in e) ∙ ap length p.ensures.value in
    let lm : length f.new.marks ≡ length x.1.cells = (let e : length f.new.marks ≡ length m.result.now = omega arith in e) ∙ ap length m.ensures.value in
    let whole = c.of.ensures ∙ as_written x.0 x.1 w.land w.start f.new.packets f.new.marks a.packets.0 a.marks.0 a.packets.1 lp lm in
    subst (λ (n : ℕ). InputGoes g.S.Source.seen c.args.self.now f.new.self lists n (take f.result.done c.of.result.cells)) (ap length p.ensures.value ∙ a.long.0)
    (subst (λ (l : List Cell). InputGoes g.S.Source.seen c.args.self.now f.new.self lists (length p.result.now) (take f.result.done l)) (sym (ap (λ (r : CellPiece). r.cells) whole))
    (f.ensures.goes lists holds))

pub returns-clause-filled : goal.returns-clause-filled
returns-clause-filled g c =
    let a = c.apart-packets.ensures in let p = c.as_mut_slice in let f = c.fill-filled in
    subst (λ (n : ℕ). IsFilled f.new.self (c.args.before + n) (c.args.before + f.result.done) f.result.over) (ap length p.ensures.value ∙ a.long.0) f.ensures.filled
