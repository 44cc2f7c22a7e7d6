-- The rule of `slice`. This project's own rule.
use Rattle.std.specs.Prelude.{ℕ, List, [], ◌∷◌, ◌++◌, Bool, false, Option, None, Some, not, nat_le, nat_lt, ◌&&◌, ◌||◌, if◌then◌else◌}
use Rattle.ts_packet.specs.Packet.{null_packet}
use Rattle.ts_packet.specs.declared.cell.Cell.{Cell}
use Rattle.ts_packet.specs.Cells.{Live}
use Rattle.plugin_trait.specs.SilentRule.{silent_rule_with}
use Rattle.plug_clock.specs.StreamClock.{milliseconds_of, step_time}
use Rattle.chain_model.specs.PluginRule.{PluginRule, RuleOutcome, passes, drops, stops}
use Rattle.plug_pass.specs.declared.slice_conf.SliceConf.{SliceConf}
use Rattle.plugin_trait.specs.LiveCount.{live_count}

-- an option's number is at most the packet's, and is greater than `n`
abbrev pub is_between : ℕ → ℕ → Option ℕ → Bool
is_between n index None = false
is_between n index (Some other) = nat_lt n other && nat_le other index

-- one of the four options has such a number
abbrev pub is_overtaken : SliceConf → ℕ → ℕ → Bool
is_overtaken conf index n = is_between n index conf.drop
    || (is_between n index conf.null || (is_between n index conf.pass || is_between n index conf.stop))

-- an option with number n decides if n is at most the packet's, and no other such number is greater
abbrev pub decides : SliceConf → ℕ → Option ℕ → Bool
decides conf index None = false
decides conf index (Some n) = nat_le n index && not (is_overtaken conf index n)

-- what the option that decides makes of a packet; where none does, and with `--pass`, packets pass
abbrev pub sliced : SliceConf → ℕ → List ℕ → RuleOutcome
sliced conf index packet =
    if decides conf index conf.drop then drops
    else (if decides conf index conf.null then passes null_packet
    else (if decides conf index conf.stop then stops else passes packet))

-- a packet's number: its live index, or the milliseconds of the stream's clock with this packet
abbrev pub number_of : SliceConf → List Cell → List ℕ → ℕ → ℕ
number_of conf history packet labels =
    if conf.milliseconds
    then milliseconds_of (step_time conf.pcr_pid (history ++ Live packet labels ∷ []))
    else live_count history

-- what becomes of a packet is decided by its number; labels stay
abbrev pub slice_rule : SliceConf → PluginRule
slice_rule conf =
    silent_rule_with (λ history packet labels. sliced conf (number_of conf history packet labels) packet) (λ _ _ labels. labels)
