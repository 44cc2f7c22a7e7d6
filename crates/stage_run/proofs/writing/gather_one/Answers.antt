use Rattle.std.proofs.Common.{◌≡◌, ◌+◌, ◌-◌, ◌++◌, List, ℕ, length, take, sym, ap, ◌∙◌, arith, append-nil}
use Rattle.std.proofs.lemmas.List.{take_all}
use Rattle.ts_packet.specs.declared.cell.Cell.{Cell}
use Rattle.chain_model.specs.Written.{cell_bytes}
use Rattle.cell_rows.proofs.CellLemmas.{dropped_is, live_is}
use Rattle.ts_outside.proofs.Views.{take-filled}
use Rattle.stage_run.proofs.writing.gather_one.Goals as goal

pub returns-then-mark-clause-gathered : goal.returns-then-mark-clause-gathered
returns-then-mark-clause-gathered c =
    let b = c.args.bytes in let old = c.args.room.now in let p = c.args.packet.now in let row = c.copy_from_slice.new.self in
    let long : length row ≡ 188 = omega arith in
    take-filled b (b + 188 - b) 188 old row (let f = c.requires.fits in omega (arith, f)) (omega (arith, long))
    ∙ ap (λ (l : List ℕ). take b old ++ l) (take_all 188 row (omega (arith, long)) ∙ c.copy_from_slice.ensures.after ∙ c.bytes.ensures.bytes
    ∙ sym (ap cell_bytes (live_is p c.args.mark c.if-mark.true)))

pub returns-clause-gathered : goal.returns-clause-gathered
returns-clause-gathered c =
    sym (append-nil (take c.args.bytes c.args.room.now)) ∙ ap (λ (x : Cell). take c.args.bytes c.args.room.now ++ cell_bytes x) (sym (dropped_is c.args.packet.now c.args.mark c.if-mark.false))
