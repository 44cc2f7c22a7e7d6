-- The rule of `compact`. This project's own rule, over the null packets of ISO/IEC 13818-1, 2.4.3.3.
use Rattle.std.specs.Prelude.{ℕ, zero, suc, ◌-◌, ◌*◌, ◌/◌, ◌%◌, ◌==◌, nat_lt, List, [], ◌∷◌, ◌++◌, length, take, drop, filter, slice_get, Bool, not, Option, None, if◌then◌else◌}
use Rattle.ts_packet.specs.declared.numbers.TheConstants.{NULL_PID}
use Rattle.ts_packet.specs.declared.labelled.Labelled.{Labelled}
use Rattle.ts_packet.specs.Header.{pid_of}
use Rattle.chain_model.specs.PluginRule.{PluginRule}
use Rattle.plug_window.specs.DelayRule.{delay_rule}
use Rattle.plug_window.specs.declared.window_conf.WindowConf.{WindowConf}

-- the items that do not pass a test, in their order
abbrev pub ahead : {X : Type 0} → (X → Bool) → List X → List X
ahead last xs = filter (λ x. not (last x)) xs

-- the items that do not pass a test, and then those that do, each in their order
abbrev pub parted : {X : Type 0} → (X → Bool) → List X → List X
parted last xs = ahead last xs ++ filter last xs

-- block number `b`, counted from 0, of blocks of `n` items
abbrev pub block : {X : Type 0} → ℕ → ℕ → List X → List X
block n b xs = take n (drop (b * n) xs)

-- the output with `x`, given the items that came before it: nothing with the first block, and then with the items of
-- each block those of the block before, parted; the number of `x` is the number of items before it
abbrev pub compacted : {X : Type 0} → (X → Bool) → ℕ → List X → X → Option X
compacted last n before x =
    if nat_lt (length before) n then None
    else slice_get (parted last (block n (length before / n - 1) (before ++ x ∷ []))) (length before % n)

-- a number of blocks of `n` items, one after the other, each parted
abbrev pub blocks_parted : {X : Type 0} → (X → Bool) → ℕ → ℕ → List X → List X
blocks_parted last n zero xs = []
blocks_parted last n (suc count) xs = parted last (take n xs) ++ blocks_parted last n count (drop n xs)

-- a packet is a null packet: its PID is 8191
abbrev pub on_null_pid : List ℕ → Bool
on_null_pid packet = pid_of packet == NULL_PID

-- the packet of a row is a null packet
abbrev pub is_null : Labelled → Bool
is_null row = on_null_pid row.packet

-- the packets are output in blocks of the window's size, each with its null packets last
abbrev pub compact_rule : WindowConf → PluginRule
compact_rule conf = delay_rule conf.stuffing (compacted is_null conf.window)
