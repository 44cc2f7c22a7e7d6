-- What is left out of a file whose packets are found again. This project's own rule; a bad sync byte is the Sync_byte_error of
-- ETSI TR 101 290, 5.2.1, and a loss what its TS_sync_loss begins.
use Rattle.std.specs.Prelude.{◌≡◌, ◌⊎◌, ◌≤◌, ℕ, ◌+◌, ◌*◌, ◌/◌, ◌==◌, ◌||◌, not, Bool, true, false, nat_lt, if◌then◌else◌, List, ◌++◌, fold, codes, Option, None, Some}
use Rattle.std.specs.Option.{option_map}
use Rattle.std.specs.Fmt.{decimal}
use Rattle.packet_forms.specs.declared.forms.Form.{Form}
use Rattle.packet_forms.specs.Stripped.{unit}
use Rattle.chain_model.specs.Stuffed.{Stuffing}
use Rattle.chain_model.specs.declared.cause.Cause.{Cause}
use Rattle.chain_model.specs.declared.cause.Cause.TheVariants.{Input}
use Rattle.chain_model.specs.declared.input_end.InputEnd.TheVariants.{End}
use Rattle.search_source.specs.Gaps.{no_gaps, with_gap, with_end}
use Rattle.search_source.specs.declared.gap.Gap.{Gap}
use Rattle.search_source.specs.declared.gap_counts.GapCounts.{GapCounts}
use Rattle.search_source.specs.declared.file_source.KeptGaps.{KeptGaps}

-- the gaps before packets, which have this form, and how many bytes are left out behind the last one
pub record LeftOut : Type 0 where
  pub form : Form
  pub gaps : List Gap
  pub behind : ℕ

-- the position of the packet with this number, from 0, in the list of the input with its stuffing
abbrev pub position_of : Stuffing → ℕ → ℕ
position_of stuffing number = stuffing.start + (number + stuffing.null * (number / stuffing.every))

-- it is before the cut
abbrev pub is_below : Stuffing → ℕ → ℕ → Bool
is_below stuffing m number = nat_lt (position_of stuffing number) m

-- what is said of a gap: a unit alone is left out where its sync byte is bad
abbrev pub gap_text : Form → Gap → List ℕ
gap_text form gap =
    if gap.bytes == unit form then codes "bad sync byte before packet " ++ decimal gap.before
    else decimal gap.bytes ++ (codes " bytes left out before packet " ++ decimal gap.before)

-- one more gap, which counts where the packet behind it is before the cut
abbrev pub with_below : Stuffing → ℕ → Form → GapCounts → Gap → GapCounts
with_below stuffing m form counts gap = if is_below stuffing m gap.before then with_gap form counts gap else counts

abbrev pub counts_below : Stuffing → ℕ → Form → List Gap → GapCounts
counts_below stuffing m form gaps = fold (with_below stuffing m form) no_gaps gaps

-- the run came to the input's plain end
abbrev pub is_at_end : Cause → Bool
is_at_end (Input (End left)) = true
is_at_end why = false

-- what is left out behind the last packet counts where the run came to the input's plain end
abbrev pub left_behind : Cause → ℕ → ℕ
left_behind (Input (End left)) behind = behind
left_behind why behind = 0

-- all that counts of a run that was cut at `m` for this cause
abbrev pub all_counts : Stuffing → ℕ → Cause → LeftOut → GapCounts
all_counts stuffing m why left_out = with_end (counts_below stuffing m left_out.form left_out.gaps) (left_behind why left_out.behind)

abbrev pub counts_text : GapCounts → List ℕ
counts_text counts =
    codes "losses " ++ (decimal counts.losses ++ (codes " bytes " ++ (decimal counts.bytes ++ (codes " bad sync bytes " ++ decimal counts.bad_sync_bytes))))

-- sync was lost, or a sync byte was bad
abbrev pub has_gaps : GapCounts → Bool
has_gaps counts = not (counts.losses == 0) || not (counts.bad_sync_bytes == 0)

-- the input has a fault where its packets are found again and something of it is left out
abbrev pub input_faulty : Stuffing → Option LeftOut → ℕ → Cause → Bool
input_faulty stuffing None m why = false
input_faulty stuffing (Some left_out) m why = has_gaps (all_counts stuffing m why left_out)

-- what is left out as it was kept
abbrev pub kept_out : Option KeptGaps → Option LeftOut
kept_out kept = option_map (λ (k : KeptGaps). record { form = k.form; gaps = k.gaps.items; behind = k.behind }) kept

-- all that counts was kept: the gaps before packets up to the cut, and at the plain end what is behind the last packet
abbrev pub KnowsAll : Stuffing → Option KeptGaps → ℕ → Cause → Type 0
KnowsAll stuffing None m why = Unit {0}
KnowsAll stuffing (Some kept) m why =
    (kept.lost ≡ false) × ((kept.over ≡ true) ⊎ (m ≤ position_of stuffing kept.number))
    × (is_at_end why ≡ true → kept.over ≡ true)
