use Rattle.std.proofs.Common.{◌++◌, ◌∙◌, ◌%◌, length, map, ap, sym}
use Rattle.ts_fields.specs.Fitting.{are_bytes}
use Rattle.ts_fields.specs.Layout.{held}
use Rattle.ts_json_tables.specs.TimeOffsets.{offset_bits}
use Rattle.ts_json_tables.proofs.time_offset.front_bytes.Goals as goal

pub into_bytes-front-requires : goal.into_bytes-front-requires
into_bytes-front-requires c =
    let spelled = offset_bits (map held c.args.values.now) c.args.row.now in
    ap (λ l. length l % 8) (c.in_ok-put_front.ensures ∙ ap (λ l. l ++ spelled) c.new-out.ensures)
    ∙ c.fronts_are_whole.ensures (map held c.args.values.now) c.args.row.now c.requires

pub returns : goal.returns
returns c =
    let spelled = offset_bits (map held c.args.values.now) c.args.row.now in
    c.written_rows_are_whole.ensures.bytes c.into_bytes-front.result.items spelled
    (sym (ap are_bytes c.deref.ensures.value) ∙ c.bytes_are_small.ensures)
    (c.into_bytes-front.ensures ∙ c.in_ok-put_front.ensures ∙ ap (λ l. l ++ spelled) c.new-out.ensures)
