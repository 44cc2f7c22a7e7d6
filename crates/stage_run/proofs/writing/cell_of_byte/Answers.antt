use Rattle.std.proofs.Common.{◌≡◌, ◌<◌, ◌≤◌, List, length, get_or, sym, ap, ◌∙◌, arith}
use Rattle.std.proofs.lemmas.List.{get_or_default, drop_all}
use Rattle.ts_packet.specs.declared.cell.Cell.{Cell}
use Rattle.ts_packet.specs.Cells.{Dropped}
use Rattle.chain_model.specs.Written.{cell_bytes, written}
use Rattle.cell_rows.specs.Cells.{cell_of, cells_of}
use Rattle.cell_rows.proofs.CellLemmas.{cells_long, cells_at}
use Rattle.stage_run.proofs.WritingLemmas.{StandsAt-live, placed-more, size_live}
use Rattle.stage_run.proofs.writing.cell_of_byte.Goals as goal

pub loop-place-preserved : goal.loop-place-preserved
loop-place-preserved c =
    let i = c.loop-place.place in let ps = c.args.packets.now in let ms = c.args.marks.now in let cells = cells_of ps ms in let d = get_or cells i Dropped in
    let p = c.index-packets-place.result in let m = c.index-marks-place.result in
    let lt : i < length ps = c.loop-place-test.true in let n = cells_long ps ms c.requires.long in let inside : i < length cells = omega (arith, n, lt) in
    let here : d ≡ cell_of p m = cells_at ps ms i p m c.requires.long lt ∙ (λ k. cell_of (sym c.index-packets-place.is k) (sym c.index-marks-place.is k)) in
    let size : c.size_of-size.result ≡ length (cell_bytes d) = c.size_of-size.ensures ∙ ap (λ (x : Cell). length (cell_bytes x)) (sym here) in
    let q = placed-more cells i c.loop-place.left _ c.args.byte d inside (sym (get_or_default cells i d Dropped inside)) c.loop-place.invariant.before c.loop-place.invariant.within (omega (arith, size)) in
    record { before = q.0; within = q.1 }

pub returns-then-left-size-clause-stands : goal.returns-then-left-size-clause-stands
returns-then-left-size-clause-stands c =
    let i = c.loop-place.place in let ps = c.args.packets.now in let ms = c.args.marks.now in let cells = cells_of ps ms in let d = get_or cells i Dropped in
    let p = c.index-packets-place.result in let m = c.index-marks-place.result in
    let lt : i < length ps = c.loop-place-test.true in let n = cells_long ps ms c.requires.long in let inside : i < length cells = omega (arith, n, lt) in
    let here : d ≡ cell_of p m = cells_at ps ms i p m c.requires.long lt ∙ (λ k. cell_of (sym c.index-packets-place.is k) (sym c.index-marks-place.is k)) in
    let size = c.size_of-size.ensures in let live = size_live p m c.loop-place.left (omega (arith, size)) in
    StandsAt-live cells i c.loop-place.left c.args.byte d p m.labels inside (sym (get_or_default cells i d Dropped inside)) (here ∙ live.0) live.1 c.loop-place.invariant.before

pub unreachable-requires : goal.unreachable-requires
unreachable-requires c =
    let ps = c.args.packets.now in let ms = c.args.marks.now in let cells : List Cell = cells_of ps ms in let n = cells_long ps ms c.requires.long in
    let past : length cells ≤ c.loop-place.place = (let t = c.loop-place-test.false in omega (arith, n, t)) in
    let none = ap (λ (l : List Cell). length (written l)) (drop_all c.loop-place.place cells past) in let w = c.loop-place.invariant.within in
    omega (arith, none, w)
