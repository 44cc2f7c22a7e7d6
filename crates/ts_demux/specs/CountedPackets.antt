-- The packets that count for the sections of a PID.
-- ISO/IEC 13818-1, 2.4.3.3; that scrambled packets and those with an error indicator do not count is this project's own rule.
use Rattle.std.specs.Prelude.{ℕ, ◌==◌, Bool, not, ◌&&◌, List, Option, Some, None, is_some, if◌then◌else◌}
use Rattle.std.specs.List.{filter_map}
use Rattle.ts_packet.specs.Header.{pid_of, error_indicator_of, unit_start_of, scrambling_of, counter_of}
use Rattle.ts_packet.specs.Payload.{payload_start_of, payload_of}
use Rattle.ts_demux.specs.Part.{Part}

-- whether a packet counts: it is of the PID and has a payload, no scrambling and no error indicator
abbrev pub counts : ℕ → List ℕ → Bool
counts pid row =
    (pid_of row == pid) && ((scrambling_of row == 0) && (not (error_indicator_of row) && is_some (payload_start_of row)))

-- the part of a packet that matters
abbrev pub part_of_packet : List ℕ → Part
part_of_packet row = record { counter = counter_of row; unit_start = unit_start_of row; payload = payload_of row }

-- the part of a packet that counts
unfoldable pub counted : ℕ → List ℕ → Option Part
counted pid row = if counts pid row then Some (part_of_packet row) else None

-- the parts of those packets of a list that count
abbrev pub counted_packets : ℕ → List (List ℕ) → List Part
counted_packets pid rows = filter_map (counted pid) rows
