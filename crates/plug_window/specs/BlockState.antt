-- What the delay line of `compact` keeps of the packets that came in, and which packets it stands for. This project's
-- own rule.
use Rattle.std.specs.Prelude.{◌≡◌, ℕ, ◌+◌, ◌-◌, ◌*◌, ◌<◌, ◌==◌, nat_lt, List, [], ◌∷◌, ◌++◌, length, drop, filter, slice_get, Bool, true, false, Option, None, if◌then◌else◌}
use Rattle.ts_packet.specs.declared.labelled.Labelled.{Labelled}
use Rattle.plug_window.specs.CompactRule.{is_null, ahead}
use Rattle.plug_window.specs.declared.block_line.BlockLine.{BlockLine}

-- the items of the block that is output and of the one that is collected, those that pass the test apart; how many
-- are collected; how many of the others belong to the block that is output; and whether a block is output
pub record Collected (X : Type 0) : Type 0 where
  pub packets : List X
  pub nulls : List X
  pub collected : ℕ
  pub left : ℕ
  pub gives : Bool

-- the next item that is output
abbrev pub first_of : {X : Type 0} → Collected X → Option X
first_of s = if s.gives then (if nat_lt 0 s.left then slice_get s.packets 0 else slice_get s.nulls 0) else None

-- what is kept after that
abbrev pub shifted : {X : Type 0} → Collected X → Collected X
shifted s = if s.gives then record s {
  packets = if nat_lt 0 s.left then drop 1 s.packets else s.packets;
  nulls = if nat_lt 0 s.left then s.nulls else drop 1 s.nulls;
  left = s.left - 1;
} else s

-- what is kept with one more item
abbrev pub filled : {X : Type 0} → (X → Bool) → X → Collected X → Collected X
filled last x s = record s {
  packets = s.packets ++ ahead last (x ∷ []);
  nulls = s.nulls ++ filter last (x ∷ []);
}

-- the item is counted; if it completes a block of `n`, this block is output from then on
abbrev pub counted : {X : Type 0} → ℕ → Collected X → Collected X
counted n s =
    if s.collected + 1 == n then record s { collected = 0; left = length s.packets; gives = true }
    else record s { collected = s.collected + 1 }

-- `m` items of the block `given` are output already, and those of `taken` are kept after the others
pub record Keeps {X : Type 0} (last : X → Bool) (given taken : List X) (m : ℕ) (s : Collected X) : Type 0 where
  pub packets_are : s.packets ≡ drop m (ahead last given) ++ ahead last taken
  pub nulls_are : s.nulls ≡ drop (m - length (ahead last given)) (filter last given) ++ filter last taken
  pub left_is : s.left ≡ length (ahead last given) - m

-- before the first block is complete all items are kept
pub record Starts {X : Type 0} (last : X → Bool) (n : ℕ) (came : List X) (s : Collected X) : Type 0 where
  pub count : length came ≡ s.collected
  pub below : s.collected < n
  pub packets_are : s.packets ≡ ahead last came
  pub nulls_are : s.nulls ≡ filter last came

-- afterwards the items that came in are some complete blocks, the last of which is being output, and the collected
-- items after it; with each of these one item was output
pub record Gives {X : Type 0} (last : X → Bool) (n : ℕ) (came : List X) (s : Collected X) : Type 0 where
  pub before : List X
  pub given : List X
  pub taken : List X
  pub blocks : ℕ
  pub is : came ≡ before ++ (given ++ taken)
  pub behind : length before ≡ blocks * n
  pub whole : length given ≡ n
  pub count : length taken ≡ s.collected
  pub below : s.collected < n
  pub keeps : Keeps last given taken s.collected s

-- what is kept is that of the items that came in, depending on whether a block is output
abbrev pub CollectsWhere : {X : Type 0} → Bool → (X → Bool) → ℕ → List X → Collected X → Type 0
CollectsWhere true last n came s = Gives last n came s
CollectsWhere false last n came s = Starts last n came s

-- what is kept is that of the items that came in
abbrev pub Collects : {X : Type 0} → (X → Bool) → ℕ → List X → Collected X → Type 0
Collects last n came s = CollectsWhere s.gives last n came s

-- what a delay line keeps
abbrev pub state_of : BlockLine → Collected Labelled
state_of line = record {
  packets = line.packets.items;
  nulls = line.nulls.items;
  collected = line.collected;
  left = line.left;
  gives = line.gives;
}

-- the capacities and the window are unchanged
pub record HasSize (old new : BlockLine) : Type 0 where
  pub packets : new.packets.capacity ≡ old.packets.capacity
  pub nulls : new.nulls.capacity ≡ old.nulls.capacity
  pub window : new.window ≡ old.window

-- the line stands for these packets that came in, and has room for a block of either kind
pub record StandsFor (line : BlockLine) (rows : List Labelled) : Type 0 where
  pub collects : Collects is_null line.window rows (state_of line)
  pub packets : line.packets.capacity ≡ line.window
  pub nulls : line.nulls.capacity ≡ line.window

-- the line stands for some packets that came in
pub record StandsForSome (line : BlockLine) : Type 0 where
  pub rows : List Labelled
  pub stands : StandsFor line rows
