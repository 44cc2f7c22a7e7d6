-- Plugins before a run. This project's own rule.
use Rattle.std.specs.Prelude.{ℕ, List, [], ◌∷◌}
use Rattle.ts_packet.specs.declared.cell.Cell.{Cell}

-- the plugins have met no cell
abbrev pub AreFresh : {P : Type 0} → (P → List Cell → ℕ → Type 0) → List P → Type 0
AreFresh stands [] = Unit {0}
AreFresh stands (plugin ∷ plugins) = stands plugin [] 0 × AreFresh stands plugins
