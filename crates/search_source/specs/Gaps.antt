-- Gaps between packets that are found again, and how they are counted. This project's own rule; a bad sync byte is the
-- Sync_byte_error of ETSI TR 101 290, 5.2.1, and a loss the end of what its TS_sync_loss begins.
use Rattle.std.specs.Prelude.{ℕ, zero, suc, ◌+◌, ◌==◌, min, if◌then◌else◌, List, [], ◌∷◌, ◌++◌}
use Rattle.ts_outside.specs.Count.{count_end}
use Rattle.packet_forms.specs.declared.forms.Form.{Form}
use Rattle.packet_forms.specs.Stripped.{unit}
use Rattle.packet_search.specs.Search.{Found}
use Rattle.search_source.specs.declared.gap.Gap.{Gap}
use Rattle.search_source.specs.declared.gap_counts.GapCounts.{GapCounts}

-- a number as it is counted: it saturates
abbrev pub counted : ℕ → ℕ
counted number = min number count_end

-- the gap before the packet with this number, where so many bytes are left out before it: none where none are
unfoldable pub gap_before : ℕ → ℕ → List Gap
gap_before number zero = []
gap_before number (suc left_out) = record { before = counted number; bytes = counted (suc left_out) } ∷ []

-- the gaps before packets, the first of which has this number
unfoldable pub gaps_from : ℕ → List Found → List Gap
gaps_from number [] = []
gaps_from number (each ∷ found) = gap_before number each.left_out ++ gaps_from (suc number) found

-- nothing counted yet
abbrev pub no_gaps : GapCounts
no_gaps = record { losses = 0; bytes = 0; bad_sync_bytes = 0 }

-- one more loss, of so many bytes
abbrev pub with_loss : GapCounts → ℕ → GapCounts
with_loss counts bytes = record counts { losses = counted (counts.losses + 1); bytes = counted (counts.bytes + bytes) }

-- one more gap: a unit alone is left out where its sync byte is bad, and else sync was lost
abbrev pub with_gap : Form → GapCounts → Gap → GapCounts
with_gap form counts gap =
    if gap.bytes == unit form then record counts { bad_sync_bytes = counted (counts.bad_sync_bytes + 1) } else with_loss counts gap.bytes

-- what is left out behind the last packet is a loss too
abbrev pub with_end : GapCounts → ℕ → GapCounts
with_end counts behind = if behind == 0 then counts else with_loss counts behind
