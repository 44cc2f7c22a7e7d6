-- The cells that a value of `info` stands for. This project's own rule.
use Rattle.std.specs.Prelude.{◌≡◌, ◌≤◌, Bool, false, ℕ, List, length, Option, None}
use Rattle.ts_packet.specs.declared.cell.Cell.{Cell}
use Rattle.plug_info.specs.declared.info_conf.InfoConf.{InfoConf}
use Rattle.plug_info.specs.MetState.{HasMet}
use Rattle.plug_info.specs.declared.info.Info.{Info}

-- the settings
abbrev pub conf_of : Info → InfoConf
conf_of s = record { json = s.json }

-- whether a step ran out of memory
abbrev pub has_failed : Info → Bool
has_failed s = s.failed

-- these cells were processed, and this is the greatest mark
abbrev pub StandsFor : Info → List Cell → ℕ → Type 0
StandsFor s history mark = HasMet s.met history mark

-- what the plugin stands for: unless it has failed, these cells were processed, and this is the greatest mark
abbrev pub MeetsHistory : Info → List Cell → ℕ → Type 0
MeetsHistory s history mark = (has_failed s ≡ false → StandsFor s history mark) × (mark ≤ length history)

-- it names no number of positions at which it never runs out of memory, since its tables grow
abbrev pub preallocated_of : Info → Option ℕ
preallocated_of s = None

-- for how many cells its buffer has room
abbrev pub room_of : Info → ℕ
room_of s = s.met.waiting.capacity

-- its buffer has no room for one more cell
abbrev pub IsFull : Info → Type 0
IsFull s = room_of s ≤ length s.met.waiting.items
