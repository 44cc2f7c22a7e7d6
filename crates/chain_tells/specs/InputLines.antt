-- The lines of a chain with those of its input. This project's own rule.
use Rattle.std.specs.Prelude.{ℕ, ◌<◌, ◌≤◌, List, filter}
use Rattle.std.specs.List.{AllByRecursion}
use Rattle.chain_live.specs.LiveReports.{LiveLine, is_before, lines_below}
use Rattle.chain_model.specs.PureRun.{Chain}
use Rattle.chain_rounds.specs.Merged.{merged}
use Rattle.chain_rounds.specs.Round.{place}

-- the lines of a chain and these of its input at the positions below `m`, in the order of positions: at one position the input's
-- are in front of those of the plugins
abbrev pub lines_with : List LiveLine → Chain → ℕ → List LiveLine
lines_with input chain m = merged place (filter (is_before m) input) (lines_below chain m)

-- all these lines are at positions before this one
abbrev pub AreBefore : ℕ → List LiveLine → Type 0
AreBefore m = AllByRecursion (λ (line : LiveLine). line.at < m)

-- all these lines are at this position or behind it
abbrev pub AreFrom : ℕ → List LiveLine → Type 0
AreFrom m = AllByRecursion (λ (line : LiveLine). m ≤ line.at)
