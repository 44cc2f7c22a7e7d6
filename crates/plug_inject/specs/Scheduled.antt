-- What a value of the schedule stands for. This project's own rule.
use Rattle.std.specs.Prelude.{◌≡◌, ℕ, suc, List, ◌≤◌, drop, None, Some, slice_get, slice_set}
use Rattle.std.specs.Option.{option_map_or}
use Rattle.plug_inject.specs.Contents.{Group}
use Rattle.plug_inject.specs.Schedule.{coming, given_after, packets_at, turns_from}
use Rattle.plug_inject.specs.declared.schedule.Schedule.{Schedule}
use Rattle.plug_inject.specs.declared.turn.Turn.{Turn}

-- it has given so many packets
pub record Scheduled (s : Schedule) (number : ℕ) : Type 0 where
  pub turns : s.turns.items ≡ turns_from 0 s.groups.items (given_after s.groups.items number).marks
  pub left : (given_after s.groups.items number).left ≡ drop s.packet (packets_at s.groups.items s.group s.section)
  pub few : s.packet ≤ number

-- it has given so many packets, and has begun the next section where none was left of the last
pub record IsComing (s : Schedule) (number : ℕ) : Type 0 where
  pub turns : s.turns.items ≡ turns_from 0 s.groups.items (given_after s.groups.items (suc number)).marks
  pub coming : coming s.groups.items (given_after s.groups.items number) ≡ drop s.packet (packets_at s.groups.items s.group s.section)
  pub few : s.packet ≤ number

-- the turn of a group of which no section was begun yet
abbrev pub first_turn : Group → Turn
first_turn group = record { distance = group.distance; last = None; count = 0 }

-- a turn whose section the packet with this number begins
abbrev pub begun_turn : ℕ → Turn → Turn
begun_turn number turn = record { distance = turn.distance; last = Some number; count = suc turn.count }

-- the turns, where that packet begins a section of the group with this place
abbrev pub turns_with : ℕ → ℕ → List Turn → List Turn
turns_with place number turns =
    option_map_or (λ turn. slice_set turns place (begun_turn number turn)) (slice_get turns place) turns
