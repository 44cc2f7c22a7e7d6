-- Lemmas on what is kept of the cells that were counted, cell by cell.
use Rattle.std.proofs.Common.{◌≡◌, ℕ, List, [], ◌∷◌, ◌++◌, sym, subst, ◌∙◌}
use Rattle.ts_packet.specs.declared.cell.Cell.{Cell}
use Rattle.ts_packet.specs.Cells.{Live, Dropped, live_packets}
use Rattle.ts_packet.specs.MetRows.{met_rows}
use Rattle.plugin_notes.specs.LastSeen.{Remembers}
use Rattle.plugin_notes.proofs.Remembering.{remembers_dropped}
use Rattle.plug_psi.specs.ForceStands as forcing
use Rattle.plug_analyze.specs.AnalyzeRule.{all_pids}
use Rattle.plug_info_state.specs.ClockSpans.{AreSpans}
use Rattle.plug_info_state.specs.ExtentKept.{kept_extent}
use Rattle.plug_info_state.specs.OtherStands.{HasFedOthers}
use Rattle.plug_info_state.specs.SdtStands.{HasFedTables}
use Rattle.plug_info_state.specs.CountsOf.{AreCounted}
use Rattle.plug_info_state.specs.Tracked.{Tracks}
use Rattle.plug_info_state.specs.declared.tracker.Tracker.{Tracker}
use Rattle.plug_info_state.proofs.CountLemmas.{counted_dropped, live-dropped, live-live}
use Rattle.plug_info_state.proofs.ExtentLemmas.{extent_dropped}
use Rattle.plug_info_state.proofs.SpanLemmas.{spans_dropped}

-- a dropped cell
pub tracks_dropped : (t : Tracker) (cells : List Cell) → Tracks t cells → Tracks t (cells ++ Dropped ∷ [])
tracks_dropped t cells w = record {
  remembers = remembers_dropped all_pids t.last cells w.remembers;
  counted = counted_dropped t.counts cells w.counted;
  spans_are = spans_dropped t.spans cells w.spans_are;
  extent_is = w.extent_is ∙ sym (extent_dropped cells);
  has_sdt = subst (HasFedTables t.sdt) (sym (live-dropped cells)) w.has_sdt;
  has_others = subst (HasFedOthers t.others) (sym (live-dropped cells)) w.has_others;
  fed = subst (forcing.StandsFor t.force) (sym (live-dropped cells)) w.fed;
}

-- a packet
pub tracks_live : (t : Tracker) (cells : List Cell) (packet : List ℕ) (labels : ℕ)
    → Remembers all_pids t.last (cells ++ Live packet labels ∷ []) → AreCounted t.counts (cells ++ Live packet labels ∷ []) → AreSpans t.spans (cells ++ Live packet labels ∷ [])
    → t.extent ≡ kept_extent (met_rows (cells ++ Live packet labels ∷ []))
    → HasFedTables t.sdt (live_packets cells ++ packet ∷ []) → HasFedOthers t.others (live_packets cells ++ packet ∷ []) → forcing.StandsFor t.force (live_packets cells ++ packet ∷ [])
    → Tracks t (cells ++ Live packet labels ∷ [])
tracks_live t cells packet labels a b c reach d others e = record {
  remembers = a;
  counted = b;
  spans_are = c;
  extent_is = reach;
  has_sdt = subst (HasFedTables t.sdt) (sym (live-live cells packet labels)) d;
  has_others = subst (HasFedOthers t.others) (sym (live-live cells packet labels)) others;
  fed = subst (forcing.StandsFor t.force) (sym (live-live cells packet labels)) e;
}
