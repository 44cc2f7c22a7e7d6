use Rattle.std.proofs.Common.{ap, ◌∙◌}
use Rattle.monitor_rows.specs.KeyRows.{has_number}
use Rattle.monitor_services.proofs.stamp_row.is_among.Goals as goal

pub returns : goal.returns
returns c = c.contains.ensures.value ∙ ap (has_number c.args.pids.now) (c.from.ensures ∙ c.pid.ensures.field)
