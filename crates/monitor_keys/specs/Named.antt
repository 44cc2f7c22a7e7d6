-- Keys that tables ask for: such a key begins where a table that names it comes into force and the one before did not, goes on
-- while the tables in force name it, and ends with the first that does not. This project's own rule, over ETSI TR 101 290,
-- 5.2.1 to 5.2.3, whose limits are those of what PAT, PMT and SDT refer to.
use Rattle.std.specs.Prelude.{◌≡◌, ◌<◌, ◌≤◌, ℕ, List, length, take, Bool, true, false, Option, None, Some}
use Rattle.ts_packet.specs.declared.cell.Cell.{Cell}
use Rattle.monitor_keys.specs.declared.key.Key.{Key}
use Rattle.monitor_keys.specs.declared.named_key.NamedKey.{NamedKey}
use Rattle.monitor_keys.specs.Keys.{KeyRule}
use Rattle.monitor_keys.specs.KeyState.{IsKey}

-- by which tables are in force after cells, a key that is named after these began with the cell at a position
pub record BeganAt (named : List Cell → Bool) (cells : List Cell) (n : ℕ) : Type 0 where
  pub within : n < length cells
  pub before : named (take n cells) ≡ false
  pub since : (k : ℕ) → n < k → k ≤ length cells → named (take k cells) ≡ true

-- a key with its beginning
abbrev pub begun_at : KeyRule → ℕ → KeyRule
begun_at rule n = record rule { from = n }

-- what is kept where a key is named after the cells met, and where it is not
abbrev pub IsKept : KeyRule → (List Cell → Bool) → Option Key → List Cell → Type 0
IsKept rule named None history = named history ≡ false
IsKept rule named (Some key) history = IsKey (begun_at rule key.from) key history × BeganAt named history key.from

-- the key that is kept, or one that begins
abbrev pub key_or : Option Key → Key → Key
key_or None fresh = fresh
key_or (Some key) fresh = key

-- what is kept is that of the cells met
pub record IsNamedKey (rule : KeyRule) (named : List Cell → Bool) (kept : NamedKey) (history : List Cell) : Type 0 where
  pub limit_is : kept.limit ≡ rule.limit
  pub key_is : IsKept rule named kept.key history
