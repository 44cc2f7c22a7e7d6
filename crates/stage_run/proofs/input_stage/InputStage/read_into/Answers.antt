use Rattle.std.proofs.Common.{◌≡◌, ℕ, List, length, take, sym, ap, ◌∙◌, subst, arith}
use Rattle.ts_packet.specs.declared.cell.Cell.{Cell}
use Rattle.cell_rows.specs.Cells.{cells_of}
use Rattle.cell_land.specs.Cells.{CellPiece}
use Rattle.ts_land.specs.Pieces.{with_cells}
use Rattle.cell_land.proofs.CellLemmas.{as_piece, same_slots, written_over}
use Rattle.stage_run.specs.declared.input_stage.InputStage.{InputStage}
use Rattle.stage_run.specs.InputSteps.{InputGoes}
use Rattle.stage_run.specs.Feeds.{live_cells}
use Rattle.stage_run.proofs.InputLemmas.{InputGoes-none, InputGoes-read, None-from_is_some}
use Rattle.stage_run.proofs.input_stage.InputStage.read_into.Goals as goal

pub of-requires-clause-long : goal.of-requires-clause-long
of-requires-clause-long g c =
    let a = c.apart-packets.ensures in let x = c.apart-packets.result in let m = c.as_mut_slice in let ms = c.mark_live.new.marks in
    let lm : length ms ≡ length x.1.cells = c.mark_live.ensures.long ∙ ap length m.ensures.value in
    ap length (written_over ms x.1.cells lm) ∙ lm ∙ a.long.1 ∙ sym a.long.0 ∙ sym c.fill_window-packets.ensures.long

pub returns-clause-slots : goal.returns-clause-slots
returns-clause-slots g c =
    let a = c.apart-packets.ensures in let x = c.apart-packets.result in let m = c.as_mut_slice in let ms = c.mark_live.new.marks in let w = c.args.window in let f = c.fill_window-packets in let ps = f.result.window.cells in
    let lm : length ms ≡ length x.1.cells = c.mark_live.ensures.long ∙ ap length m.ensures.value in
    let whole = c.of.ensures ∙ as_piece f.result.window (with_cells x.1 ms) w.land w.start (cells_of ps ms) (f.ensures.land.0 ∙ a.packets.0) a.marks.0 (f.ensures.land.1 ∙ a.packets.1)
    (ap (cells_of ps) (written_over ms x.1.cells lm)) in
    same_slots w c.of.result ps ms whole (lm ∙ a.long.1 ∙ sym a.long.0 ∙ sym f.ensures.long) (f.ensures.long ∙ a.long.0)

pub returns-clause-goes : goal.returns-clause-goes
returns-clause-goes g c = λ lists holds.
    let a = c.apart-packets.ensures in let x = c.apart-packets.result in let m = c.as_mut_slice in let ms = c.mark_live.new.marks in let w = c.args.window in let f = c.fill_window-packets in let ps = f.result.window.cells in
    let old = c.args.self.now in let k = f.result.count in
    let lm : length ms ≡ length x.1.cells = c.mark_live.ensures.long ∙ ap length m.ensures.value in
    let whole = c.of.ensures ∙ as_piece f.result.window (with_cells x.1 ms) w.land w.start (cells_of ps ms) (f.ensures.land.0 ∙ a.packets.0) a.marks.0 (f.ensures.land.1 ∙ a.packets.1)
    (ap (cells_of ps) (written_over ms x.1.cells lm)) in
    let live : take k c.of.result.cells ≡ live_cells (take k ps) = ap (λ (r : CellPiece). take k r.cells) whole
    ∙ c.mark_live.ensures.live ps (f.ensures.long ∙ a.long.0 ∙ sym a.long.1 ∙ sym (ap length m.ensures.value)) in
    let goes = InputGoes-read g.S.Source.seen old f.new.self c.stop_count-self.result f.result.ended lists (length x.0.cells) (take k ps)
    (omega arith) (omega arith) (None-from_is_some old.ended (sym c.is_some.ensures ∙ c.if-is_some.false)) c.stop_count-self.ensures holds f.ensures.reads in
    let new : InputStage g.row.S.Denot = record { feed = f.new.self; stuffing = old.stuffing; nulls = c.stop_count-self.result; ended = f.result.ended } in
    subst (λ (n : ℕ). InputGoes g.S.Source.seen old new lists n (take k c.of.result.cells)) a.long.0
    (subst (λ (l : List Cell). InputGoes g.S.Source.seen old new lists (length x.0.cells) l) (sym live) goes)

pub returns-then-self-ge1-clause-goes : goal.returns-then-self-ge1-clause-goes
returns-then-self-ge1-clause-goes g c = λ lists holds. InputGoes-none g.S.Source.seen c.args.self.now lists (length c.args.window.cells) holds

pub returns-then-self-gt0-clause-goes : goal.returns-then-self-gt0-clause-goes
returns-then-self-gt0-clause-goes g c = λ lists holds. InputGoes-none g.S.Source.seen c.args.self.now lists (length c.args.window.cells) holds

pub returns-then-is_some-clause-goes : goal.returns-then-is_some-clause-goes
returns-then-is_some-clause-goes g c = λ lists holds. InputGoes-none g.S.Source.seen c.args.self.now lists (length c.args.window.cells) holds
