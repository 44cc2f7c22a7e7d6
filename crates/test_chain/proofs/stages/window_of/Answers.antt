use Rattle.std.proofs.Common.{◌≡◌, List, length, sym, ap, ◌∙◌, arith}
use Rattle.std.proofs.lemmas.List.{length-replicate}
use Rattle.ts_packet.specs.declared.cell.Cell.{Cell}
use Rattle.ts_packet.specs.Cells.{Dropped}
use Rattle.cell_land.specs.Cells.{CellLand, SameSlots}
use Rattle.cell_land.proofs.CellLemmas.{as_written, same_slots}
use Rattle.test_chain.proofs.stages.window_of.Goals as goal

pub returns-clause-whole : goal.returns-clause-whole
returns-clause-whole g c =
    let a = c.apart-packets.ensures in let x = c.apart-packets.result in let p = c.as_mut_slice in let m = c.as_mut_slice-2 in let f = c.put_cells in let w = c.expect-window.result in
    let lp : length f.new.packets ≡ length x.0.cells = (let e : length f.new.packets ≡ length p.result.now = omega arith in e) ∙ ap length p.ensures.value in
    let lm : length f.new.marks ≡ length x.1.cells = (let e : length f.new.marks ≡ length m.result.now = omega arith in e) ∙ ap length m.ensures.value in
    let all = c.of.ensures ∙ as_written x.0 x.1 w.land w.start f.new.packets f.new.marks a.packets.0 a.marks.0 a.packets.1 lp lm in
    let slots : SameSlots w c.of.result = same_slots w c.of.result f.new.packets f.new.marks all (lm ∙ a.long.1 ∙ sym a.long.0 ∙ sym lp) (lp ∙ a.long.0) in
    let made = rw c.expect-window.ensures at c.cell_land.ensures in
    let n = length c.args.cells.now in
    let long : length w.cells ≡ n = ap (λ (l : List Cell). length l) made.1 ∙ length-replicate n Dropped in
    slots.2 ∙ long ∙ sym made.2 ∙ sym (ap (λ (l : CellLand). l.count) slots.0)

pub returns-clause-long : goal.returns-clause-long
returns-clause-long g c =
    let a = c.apart-packets.ensures in let x = c.apart-packets.result in let p = c.as_mut_slice in let m = c.as_mut_slice-2 in let f = c.put_cells in let w = c.expect-window.result in
    let lp : length f.new.packets ≡ length x.0.cells = (let e : length f.new.packets ≡ length p.result.now = omega arith in e) ∙ ap length p.ensures.value in
    let lm : length f.new.marks ≡ length x.1.cells = (let e : length f.new.marks ≡ length m.result.now = omega arith in e) ∙ ap length m.ensures.value in
    let all = c.of.ensures ∙ as_written x.0 x.1 w.land w.start f.new.packets f.new.marks a.packets.0 a.marks.0 a.packets.1 lp lm in
    let slots : SameSlots w c.of.result = same_slots w c.of.result f.new.packets f.new.marks all (lm ∙ a.long.1 ∙ sym a.long.0 ∙ sym lp) (lp ∙ a.long.0) in
    let made = rw c.expect-window.ensures at c.cell_land.ensures in
    let n = length c.args.cells.now in
    slots.2 ∙ ap (λ (l : List Cell). length l) made.1 ∙ length-replicate n Dropped
