use Rattle.std.proofs.Common.{◌-◌, length}
use Rattle.chain_tells.proofs.waiting_lines.+next_row.Given as goal

abbrev pub decreases-next_row : goal.decreases-next_row
decreases-next_row l = length l.rows.now - l.first
