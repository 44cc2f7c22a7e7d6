use Rattle.std.proofs.Common.{◌%◌, ◌++◌, [], length, ap, ◌∙◌}
use Rattle.std.specs.Prelude.{map, Some}
use Rattle.ts_fields.specs.Bits.{bits, bits_of}
use Rattle.ts_fields.specs.Layout.{rows_of}
use Rattle.ts_fields.specs.Bodies.{item_held}
use Rattle.ts_fields.proofs.LengthLemmas.{length-after}
use Rattle.ts_fields.proofs.LoopLemmas.{loop_written}
use Rattle.ts_fields.proofs.body.write_loop.Goals as goal

pub into_bytes-bytes-requires : goal.into_bytes-bytes-requires
into_bytes-bytes-requires c =
    ap (λ l. length l % 8) (rw c.new-inner.ensures at c.in_ok-write_items.ensures)
    ∙ length-after (Some ([], rows_of c.args.rows.now)) (map item_held c.args.items.now) c.requires.shaped c.requires.sound

pub returns : goal.returns
returns c =
    loop_written (rows_of c.args.rows.now) (map item_held c.args.items.now) c.args.out.now c.put_counted.new.out c.into_bytes-bytes.result.items
    (c.into_bytes-bytes.ensures ∙ (rw c.new-inner.ensures at c.in_ok-write_items.ensures))
    (c.in_ok-put_counted.ensures ∙ ap (λ b. c.args.out.now ++ (bits 8 (length b) ++ bits_of b)) c.deref.ensures.value)
