-- What a plugin that reports nothing stands for: the cells that it met, with any mark that is not beyond them. This
-- project's own rule.
use Rattle.std.specs.Prelude.{ℕ, ◌≤◌, List, length}
use Rattle.ts_packet.specs.declared.cell.Cell.{Cell}

abbrev pub unmarked : (List Cell → Type 0) → List Cell → ℕ → Type 0
unmarked stands history mark = stands history × (mark ≤ length history)
