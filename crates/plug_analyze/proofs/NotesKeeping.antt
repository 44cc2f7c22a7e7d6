-- Notes that are counted, one after another.
use Rattle.std.proofs.Common.{◌<◌, ◌^◌, List, Bool, length, arith}
use Rattle.std.specs.List.{filter}
use Rattle.std.proofs.lemmas.List.{length-map}
use Rattle.std.proofs.lemmas.List.Sums.{count_by-le-length, length-filter}
use Rattle.plugin_notes.specs.Tallies.{HasRoomIn, IsCounted}
use Rattle.plugin_notes.specs.declared.tally.Tally.{Tally}
use Rattle.plug_analyze.specs.declared.note.Note.{Note}
use Rattle.plug_analyze.specs.declared.totals.Totals.{Totals}
use Rattle.plug_analyze.specs.TotalsOf.{AreTotals, HasRoom, pids_of}

-- one more can be counted, of any kind
room_where : (test : Note → Bool) (tally : Tally) (notes : List Note) → IsCounted tally (pids_of (filter test notes)) → length notes < 2 ^ 63 → HasRoomIn tally
room_where test tally notes t few = record {
  pids = pids_of (filter test notes);
  tally = t;
  few = omega (arith, few, length-map (filter test notes) (λ (n : Note). n.pid), length-filter test notes, count_by-le-length test notes);
}

pub has_room : (totals : Totals) (notes : List Note) → AreTotals totals notes → length notes < 2 ^ 63 → HasRoom totals
has_room totals notes t few = record {
  packets = record { pids = pids_of notes; tally = t.packets; few = omega (arith, few, length-map notes (λ (n : Note). n.pid)) };
  payload = room_where (λ (n : Note). n.has_payload) totals.payload notes t.payload few;
  scrambled = room_where (λ (n : Note). n.is_scrambled) totals.scrambled notes t.scrambled few;
  faults = room_where (λ (n : Note). n.is_fault) totals.faults notes t.faults few;
  pcr = room_where (λ (n : Note). n.has_pcr) totals.pcr notes t.pcr few;
}
