use Rattle.std.proofs.Common.{length, sym, ap, ◌∙◌}
use Rattle.chain_model.specs.Written.{cell_bytes}
use Rattle.cell_rows.proofs.CellLemmas.{dropped_is, live_is}
use Rattle.ts_packet.specs.declared.cell.Cell.{Cell}
use Rattle.stage_run.proofs.writing.size_of.Goals as goal

pub returns-then-mark : goal.returns-then-mark
returns-then-mark c =
    sym c.bytes.ensures.packet.whole
    ∙ sym (ap (λ (x : Cell). length (cell_bytes x)) (live_is c.args.packet.now c.args.mark c.if-mark.true))

pub returns : goal.returns
returns c = sym (ap (λ (x : Cell). length (cell_bytes x)) (dropped_is c.args.packet.now c.args.mark c.if-mark.false))
