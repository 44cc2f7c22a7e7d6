use Rattle.std.proofs.Common.{◌≡◌, ◌+◌, ◌*◌, ◌/◌, ◌%◌, ◌<◌, length, take, sym, subst, arith, IfErr, OnOk}
use Rattle.std.proofs.Math.Nat.{mod-lt, div-add-mod}
use Rattle.cell_rows.specs.Cells.{cells_of}
use Rattle.ts_land.specs.Opening.{joined}
use Rattle.ts_outside.specs.Sink.{took, write_failed}
use Rattle.stage_run.specs.Writing.{WritesCells}
use Rattle.stage_run.proofs.WritingLemmas.{writes_whole, writes_cut}
use Rattle.stage_run.proofs.writing.write_window.Goals as goal

pub returns-in-Ok-clause-writes : goal.returns-in-Ok-clause-writes
returns-in-Ok-clause-writes g c = λ marks long live.
    let w = c.args.window in let old = g.K.Sink.seen c.args.sink.now in let new = g.K.Sink.seen c.write_in_place-window.new.sink in
    let whole = subst (λ r. OnOk r (new ≡ took old (joined w.cells))) c.in-Ok.is c.write_in_place-window.ensures.whole in
    subst (λ n. WritesCells old new (cells_of w.cells marks) n) (sym c.len-len.ensures) (writes_whole old new w.cells marks long live whole)

pub returns-in-Err-clause-writes : goal.returns-in-Err-clause-writes
returns-in-Err-clause-writes g c = λ marks long live.
    let w = c.args.window in let old = g.K.Sink.seen c.args.sink.now in let new = g.K.Sink.seen c.write_in_place-window.new.sink in
    let byte = c.in-Err.cut.taken in let k = byte / 188 in let left = byte % 188 in
    let parts : 188 * k + left ≡ byte = div-add-mod byte 188 in let less : left < 188 = mod-lt byte (omega arith) in
    let short = subst (λ r. IfErr r (λ cut. cut.taken < length w.cells * 188)) c.in-Err.is c.write_in_place-window.ensures.short in
    let front = subst (λ r. IfErr r (λ cut. new ≡ write_failed (took old (take cut.taken (joined w.cells))))) c.in-Err.is c.write_in_place-window.ensures.front in
    writes_cut old new w.cells marks byte k left long live c.write_in_place-window.ensures.packets (omega (arith, parts)) less (omega (arith, parts, less, short)) front

pub returns-in-Err-clause-within : goal.returns-in-Err-clause-within
returns-in-Err-clause-within g c =
    let w = c.args.window in let byte = c.in-Err.cut.taken in let parts : 188 * (byte / 188) + byte % 188 ≡ byte = div-add-mod byte 188 in
    let short = subst (λ r. IfErr r (λ cut. cut.taken < length w.cells * 188)) c.in-Err.is c.write_in_place-window.ensures.short in omega (arith, parts, short)
