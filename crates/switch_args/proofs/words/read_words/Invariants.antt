use Rattle.std.proofs.Common.{◌≡◌, ◌≤◌, length, map, take, Some, ◌-◌}
use Rattle.std.specs.String.{string_bytes}
use Rattle.switch_args.specs.SwitchWords.{place, place_after, start}
use Rattle.switch_args.specs.Readings.{given_of, expected_of}
use Rattle.switch_args.proofs.words.read_words.Given as goal

abbrev pub invariant-loop-at : goal.invariant-loop-at
invariant-loop-at l = (l.at ≤ length l.words) × (place_after start (take l.at (map string_bytes l.words)) ≡ Some (place (given_of l.reading) (expected_of l.reading.expected)))

abbrev pub decreases-loop-at : goal.decreases-loop-at
decreases-loop-at l = length l.words - l.at
