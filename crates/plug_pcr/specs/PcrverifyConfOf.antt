-- The settings of a value of `pcrverify`, and the cells that it stands for. This project's own rule.
use Rattle.std.specs.Prelude.{◌≤◌, ◌⊎◌, ℕ, List, length, Option, None}
use Rattle.ts_packet.specs.declared.cell.Cell.{Cell}
use Rattle.plug_pcr.specs.PcrverifyState.{Verifies}
use Rattle.plug_pcr.specs.declared.pcrverify_conf.PcrverifyConf.{PcrverifyConf}
use Rattle.plug_pcr.specs.declared.pcrverify.Pcrverify.{Pcrverify}

-- the settings of the plugin
abbrev pub conf_of : Pcrverify → PcrverifyConf
conf_of s = record { bitrate = s.bitrate; jitter_max = s.jitter_max; pid = s.pids }

-- its parts stand for the cells that were processed, and for the greatest mark
abbrev pub StandsFor : Pcrverify → List Cell → ℕ → Type 0
StandsFor s history mark = Verifies (conf_of s) s.last s.noted.met.items s.noted.faults.items s.clock_count s.fault_count history mark

-- it names no number of positions at which it never runs out of memory, since its lines need memory at a mark
abbrev pub preallocated_of : Pcrverify → Option ℕ
preallocated_of s = None

-- for how many notes on packets with a PCR it has room, and for how many on faults
abbrev pub room_for_clocks : Pcrverify → ℕ
room_for_clocks s = s.noted.met.capacity

abbrev pub room_for_faults : Pcrverify → ℕ
room_for_faults s = s.noted.faults.capacity

-- it has no room for one more note of one of both kinds
abbrev pub IsFull : Pcrverify → Type 0
IsFull s = (room_for_clocks s ≤ length s.noted.met.items) ⊎ (room_for_faults s ≤ length s.noted.faults.items)
