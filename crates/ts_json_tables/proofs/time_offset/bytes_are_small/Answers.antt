use Rattle.std.proofs.Common.{◌<◌}
use Rattle.std.proofs.lemmas.List.Elements.{All-from_get_or}
use Rattle.ts_json_tables.proofs.ByteLemmas.{all_bytes}
use Rattle.ts_json_tables.proofs.time_offset.bytes_are_small.Goals as goal

pub returns : goal.returns
returns c = all_bytes c.args.row.now (All-from_get_or (λ x. x < 256) c.args.row.now 0 (λ i inside. (c.type_inv.row i).fits))
