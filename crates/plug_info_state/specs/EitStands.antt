-- When the counts of EIT sections stand for the packets that were fed. This project's own rule.
use Rattle.std.specs.Prelude.{◌≡◌, ℕ, ◌+◌, Bool, List, count_by, min, nat_eq, unwrap_or, if◌then◌else◌}
use Rattle.indexmap.specs.IndexMap.{get}
use Rattle.ts_demux.specs.DemuxState as demuxing
use Rattle.ts_demux.specs.DemuxState.{DemuxState}
use Rattle.ts_demux.specs.SectionsOfPid.{sections_of_pid}
use Rattle.plug_info_state.specs.EitSections.{is_of, is_present, is_schedule, up_to_end}
use Rattle.plug_info_state.specs.declared.eit_counts.EitCounts.{EitCounts}
use Rattle.plug_info_state.specs.declared.number_counts.NumberCounts.{NumberCounts}

-- how many there are of a number
abbrev pub count_of : NumberCounts → ℕ → ℕ
count_of c id = unwrap_or (get nat_eq c.counts id) 0

-- a count after one more, if it is counted; it stands still at the end of 64 bits
abbrev pub counted : Bool → ℕ → ℕ
counted is_one n = if is_one then min (n + 1) 18446744073709551615 else n

-- the counts are those of sections that are of a kind
abbrev pub AreCountsOf : (ℕ → Bool) → NumberCounts → List (List ℕ) → Type 0
AreCountsOf kind counts sections = (id : ℕ) → count_of counts id ≡ up_to_end (count_by (is_of kind id) sections)

-- the packets were fed, and of their sections those given were counted
pub record Counts (demux : DemuxState) (present schedule : NumberCounts) (fed given : List (List ℕ)) : Type 0 where
  pub demuxed : demuxing.StandsFor demux 18 fed given
  pub present_are : AreCountsOf is_present present given
  pub schedule_are : AreCountsOf is_schedule schedule given

-- the packets were fed, and some of their sections were counted
pub record CountsSome (demux : DemuxState) (present schedule : NumberCounts) (fed : List (List ℕ)) : Type 0 where
  pub given : List (List ℕ)
  pub counts : Counts demux present schedule fed given

-- the packets were fed, and all their sections were counted
abbrev pub HasFedEit : EitCounts → List (List ℕ) → Type 0
HasFedEit e fed = Counts e.demux e.present e.schedule fed (sections_of_pid 18 fed)
