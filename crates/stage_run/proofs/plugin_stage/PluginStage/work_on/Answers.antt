use Rattle.std.proofs.Common.{◌≡◌, List, length, sym, ap, ◌∙◌, subst, arith}
use Rattle.ts_packet.specs.declared.cell.Cell.{Cell}
use Rattle.cell_rows.specs.Cells.{cells_of}
use Rattle.cell_land.specs.Cells.{CellPiece}
use Rattle.cell_land.proofs.CellLemmas.{as_written, same_slots, written_over}
use Rattle.stage_run.specs.Works.{PluginWork}
use Rattle.stage_run.proofs.plugin_stage.PluginStage.work_on.Goals as goal

pub of-requires-clause-long : goal.of-requires-clause-long
of-requires-clause-long g c =
    let a = c.apart-packets.ensures in let x = c.apart-packets.result in let p = c.as_mut_slice in let m = c.as_mut_slice-2 in let f = c.work-work in
    let lp : length f.new.packets ≡ length x.0.cells = (let e : length f.new.packets ≡ length p.result.now = omega arith in e) ∙ ap length p.ensures.value in
    let lm : length f.new.marks ≡ length x.1.cells = (let e : length f.new.marks ≡ length m.result.now = omega arith in e) ∙ ap length m.ensures.value in
    ap length (written_over f.new.marks x.1.cells lm) ∙ lm ∙ a.long.1 ∙ sym a.long.0 ∙ sym lp ∙ sym (ap length (written_over f.new.packets x.0.cells lp))

pub returns-clause-slots : goal.returns-clause-slots
returns-clause-slots g c =
    let a = c.apart-packets.ensures in let x = c.apart-packets.result in let p = c.as_mut_slice in let m = c.as_mut_slice-2 in let f = c.work-work in let w = c.args.window in
    let lp : length f.new.packets ≡ length x.0.cells = (let e : length f.new.packets ≡ length p.result.now = omega arith in e) ∙ ap length p.ensures.value in
    let lm : length f.new.marks ≡ length x.1.cells = (let e : length f.new.marks ≡ length m.result.now = omega arith in e) ∙ ap length m.ensures.value in
    let whole = c.of.ensures ∙ as_written x.0 x.1 w.land w.start f.new.packets f.new.marks a.packets.0 a.marks.0 a.packets.1 lp lm in
    same_slots w c.of.result f.new.packets f.new.marks whole (lm ∙ a.long.1 ∙ sym a.long.0 ∙ sym lp) (lp ∙ a.long.0)

pub returns-clause-work : goal.returns-clause-work
returns-clause-work g c =
    let a = c.apart-packets.ensures in let x = c.apart-packets.result in let p = c.as_mut_slice in let m = c.as_mut_slice-2 in let f = c.work-work in let w = c.args.window in
    let lp : length f.new.packets ≡ length x.0.cells = (let e : length f.new.packets ≡ length p.result.now = omega arith in e) ∙ ap length p.ensures.value in
    let lm : length f.new.marks ≡ length x.1.cells = (let e : length f.new.marks ≡ length m.result.now = omega arith in e) ∙ ap length m.ensures.value in
    let whole = c.of.ensures ∙ as_written x.0 x.1 w.land w.start f.new.packets f.new.marks a.packets.0 a.marks.0 a.packets.1 lp lm in
    let before : cells_of p.result.now m.result.now ≡ w.cells = (λ k. cells_of (p.ensures.value k) (m.ensures.value k)) ∙ a.cells in
    let Does : List Cell → List Cell → Type 0 = λ l l_new. PluginWork g.P.Plugin.rule g.P.Plugin.stands_for g.P.Plugin.preallocated c.args.self.now f.new.self c.args.at c.args.news.now l l_new f.result in
    subst (λ l. Does l c.of.result.cells) before (subst (Does (cells_of p.result.now m.result.now)) (sym (ap (λ (r : CellPiece). r.cells) whole)) f.ensures.work)
