-- The targets of PIDs, by pairs of a source and a target. This project's own rule.
use Rattle.std.specs.Prelude.{ℕ, List, [], ◌∷◌, Option, None, Some, ◌==◌, unwrap_or, if◌then◌else◌}

-- the target of a PID, if it is a source
abbrev pub target_of : List (ℕ × ℕ) → ℕ → Option ℕ
target_of [] pid = None
target_of (pair ∷ pairs) pid = if pair.0 == pid then Some pair.1 else target_of pairs pid

-- what a PID becomes: its target, or itself if it is not a source
abbrev pub mapped : List (ℕ × ℕ) → ℕ → ℕ
mapped pairs pid = unwrap_or (target_of pairs pid) pid
