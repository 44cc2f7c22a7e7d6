use Rattle.std.proofs.Common.{◌-◌, length}
use Rattle.chain_tells.proofs.waiting_lines.+add_rows.Given as goal

abbrev pub decreases-add_rows : goal.decreases-add_rows
decreases-add_rows l = l.plugins - length l.rows.now.items
