-- Valid settings of `remap`.
-- This project's own rule.
use Rattle.std.specs.Prelude.{◌==◌, ◌<◌, ◌≤◌, ◌&&◌, ◌||◌, ℕ, Bool, IsTrue, List, [], ◌∷◌, length, nat_le, not, true}
use Rattle.std.specs.List.{All, list_any}
use Rattle.plugin_options.specs.declared.limits.TheConstants.{MOST_PAIRS}
use Rattle.ts_packet.specs.declared.numbers.TheConstants.{NULL_PID, PID_COUNT}
use Rattle.plug_move.specs.declared.remap_conf.RemapConf.{RemapConf}

-- the PID is the source of a pair
abbrev pub is_source : ℕ → List (ℕ × ℕ) → Bool
is_source pid pairs = list_any (λ pair. pair.0 == pid) pairs

-- the PID is the target of a pair
abbrev pub is_target : ℕ → List (ℕ × ℕ) → Bool
is_target pid pairs = list_any (λ pair. pair.1 == pid) pairs

-- no source occurs twice
abbrev pub sources_differ : List (ℕ × ℕ) → Bool
sources_differ [] = true
sources_differ (pair ∷ rest) = not (is_source pair.0 rest) && sources_differ rest

-- no target occurs twice
abbrev pub targets_differ : List (ℕ × ℕ) → Bool
targets_differ [] = true
targets_differ (pair ∷ rest) = not (is_target pair.1 rest) && targets_differ rest

-- at most 1,000 pairs; the sources differ, and 8191 is not one of them; the targets differ, unless unchecked
abbrev pub pairs_agree : RemapConf → Bool
pairs_agree c = nat_le (length c.operand) MOST_PAIRS
    && (sources_differ c.operand
    && (not (is_source NULL_PID c.operand)
    && (c.unchecked || targets_differ c.operand)))

-- a pair of two PIDs
abbrev pub IsPidPair : ℕ × ℕ → Type 0
IsPidPair pair = (pair.0 < PID_COUNT) × (pair.1 < PID_COUNT)

-- the settings give what `remap` needs, each number in its range, and no two that exclude each other
pub record IsValidRemap (c : RemapConf) : Type 0 where
  pub some_pair : 1 ≤ length c.operand
  pub pids : All IsPidPair c.operand
  pub agree : IsTrue (pairs_agree c)
