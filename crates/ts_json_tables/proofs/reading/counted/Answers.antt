use Rattle.std.proofs.Common.{◌∙◌, sym}
use Rattle.ts_json_tables.proofs.ByteLemmas.{counted_in, counted_out}
use Rattle.ts_json_tables.proofs.reading.counted.Goals as goal

pub returns-then-not-is_valid_count : goal.returns-then-not-is_valid_count
returns-then-not-is_valid_count c =
    counted_out c.args.eit c.args.nodes.now c.refuse_key.result (sym c.is_valid_count.ensures ∙ c.if-not-is_valid_count.true) c.refuse_key.ensures

pub returns : goal.returns
returns c = counted_in c.args.eit c.args.nodes.now (sym c.is_valid_count.ensures ∙ c.if-not-is_valid_count.false)
