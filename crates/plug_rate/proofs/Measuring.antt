-- Lemmas on points and measurements, cell by cell.
use Rattle.std.proofs.Common.{◌≡◌, ℕ, ◌+◌, ◌<◌, ◌≤◌, List, [], ◌∷◌, ◌++◌, length, drop, ap, sym, subst, ◌∙◌, inl, inr, refl, Bool, true, false, ◌||◌, if◌then◌else◌, append-nil, Option, None, Some, option_map, option_to_list, arith}
use Rattle.std.specs.List.{All, count_by, flat_map, last_or}
use Rattle.std.proofs.lemmas.Grind.{flat_map-append}
use Rattle.std.proofs.lemmas.List.{drop-append-le}
use Rattle.std.proofs.lemmas.List.Sums.{fold-append}
use Rattle.std.proofs.Math.Seq.{drop-append_seam}
use Rattle.ts_packet.specs.declared.cell.Cell.{Cell}
use Rattle.ts_packet.specs.Cells.{Live, Dropped, live_packets, packet_in}
use Rattle.ts_packet.specs.declared.numbers.TheConstants.{PID_COUNT}
use Rattle.plugin_trait.specs.PlacedLines.{placed_at}
use Rattle.plugin_notes.specs.Notes.{notes_after}
use Rattle.plugin_notes.proofs.Noting.{IsNoteAt, notes_after-append}
use Rattle.plug_clock.specs.StreamClock.{clock_after}
use Rattle.plug_rate.specs.Measures.{begins_with, clock_with, counted_from, ends_on, is_counted, judged_by, judged_on, last_measure, last_point, measure_on, measured_from, measures_on, place_of, place_of_measure, point_on, was_outside}
use Rattle.plug_rate.specs.RateState.{no_pid}
use Rattle.plug_rate.specs.RateTexts.{lines_of_judged, texts_of}
use Rattle.plug_rate.specs.declared.judged.Judged.{Judged}
use Rattle.plug_rate.specs.declared.measure.Measure.{Measure}
use Rattle.plug_rate.specs.declared.point.Point.{Point}
use Rattle.plug_rate.specs.declared.rate_conf.RateConf.{RateConf}

-- ---- at most one of each, at its packet

abbrev place_of_point : Point → ℕ
place_of_point point = point.at

one_point : (conf : RateConf) (history : List Cell) (packet : List ℕ) → IsNoteAt place_of_point (length history) (point_on conf history packet)
one_point conf history packet =
    let point : Point = record { at = length history; time = (clock_with conf history packet).time } in
    elim (begins_with (clock_after conf.pcr_pid history) (clock_with conf history packet) || ends_on conf history packet) as (λ b. IsNoteAt place_of_point (length history) (if b then point ∷ [] else [])) [
      | true ↦ record { one = inr (point, refl, refl) }
      | false ↦ record { one = inl refl }
    ]

-- what is measured from a point has the packet's position
abbrev HasPlace : ℕ → Option Measure → Type 0
HasPlace at None = Unit {0}
HasPlace at (Some measure) = measure.at ≡ at

from_place : (conf : RateConf) (history : List Cell) (time : ℕ) (start : Option Point) → HasPlace (length history) (measured_from conf history time start)
from_place conf history time None = tt
from_place conf history time (Some point) = refl

measure_place : (conf : RateConf) (history : List Cell) (packet : List ℕ) → HasPlace (length history) (measure_on conf history packet)
measure_place conf history packet =
    elim (ends_on conf history packet) as (λ b. HasPlace (length history) (if b then measured_from conf history (clock_with conf history packet).time (last_point conf history) else None)) [
      | true ↦ from_place conf history (clock_with conf history packet).time (last_point conf history)
      | false ↦ tt
    ]

one_of : (at : ℕ) (measure : Option Measure) → HasPlace at measure → IsNoteAt place_of_measure at (option_to_list measure)
one_of at None is = record { one = inl refl }
one_of at (Some measure) is = record { one = inr (measure, refl, is) }

one_judged_of : (judge : Measure → Judged) → ((measure : Measure) → place_of (judge measure) ≡ measure.at) → (at : ℕ) (measure : Option Measure) → HasPlace at measure
    → IsNoteAt place_of at (option_to_list (option_map judge measure))
one_judged_of judge same at None is = record { one = inl refl }
one_judged_of judge same at (Some measure) is = record { one = inr (judge measure, refl, same measure ∙ is) }

one_measure : (conf : RateConf) (history : List Cell) (packet : List ℕ) → IsNoteAt place_of_measure (length history) (measures_on conf history packet)
one_measure conf history packet = one_of (length history) (measure_on conf history packet) (measure_place conf history packet)

pub one_judged : (conf : RateConf) (history : List Cell) (packet : List ℕ) → IsNoteAt place_of (length history) (judged_on conf history packet)
one_judged conf history packet =
    one_judged_of (judged_by conf.bounds (was_outside conf.bounds (last_measure conf history))) (λ measure. refl) (length history) (measure_on conf history packet) (measure_place conf history packet)

-- none is on a PID that there is not
pub on_pids : (conf : RateConf) (history : List Cell) (packet : List ℕ) → All (λ (j : Judged). no_pid j < PID_COUNT) (judged_on conf history packet)
on_pids conf history packet = λ k d lt. omega arith

-- ---- the last ones, with one more cell

last_or-append : {A : Type 0} (o : Option A) (xs ys : List A) → last_or o (xs ++ ys) ≡ last_or (last_or o xs) ys
last_or-append o [] ys = refl
last_or-append o (x ∷ xs) ys = last_or-append (Some x) xs ys

pub point_live : (conf : RateConf) (history : List Cell) (packet : List ℕ) (labels : ℕ)
    → last_point conf (history ++ Live packet labels ∷ []) ≡ last_or (last_point conf history) (point_on conf history packet)
point_live conf history packet labels =
    ap (last_or None)
    (notes_after-append (point_on conf) place_of_point (one_point conf) [] history (Live packet labels ∷ [])
    ∙ ap (λ (ps : List Point). notes_after (point_on conf) [] history ++ ps) (append-nil (point_on conf history packet)))
    ∙ last_or-append None (notes_after (point_on conf) [] history) (point_on conf history packet)

pub point_dropped : (conf : RateConf) (history : List Cell) → last_point conf (history ++ Dropped ∷ []) ≡ last_point conf history
point_dropped conf history =
    ap (last_or None)
    (notes_after-append (point_on conf) place_of_point (one_point conf) [] history (Dropped ∷ []) ∙ append-nil (notes_after (point_on conf) [] history))

pub measure_live : (conf : RateConf) (history : List Cell) (packet : List ℕ) (labels : ℕ)
    → last_measure conf (history ++ Live packet labels ∷ []) ≡ last_or (last_measure conf history) (measures_on conf history packet)
measure_live conf history packet labels =
    ap (last_or None)
    (notes_after-append (measures_on conf) place_of_measure (one_measure conf) [] history (Live packet labels ∷ [])
    ∙ ap (λ (ms : List Measure). notes_after (measures_on conf) [] history ++ ms) (append-nil (measures_on conf history packet)))
    ∙ last_or-append None (notes_after (measures_on conf) [] history) (measures_on conf history packet)

pub measure_dropped : (conf : RateConf) (history : List Cell) → last_measure conf (history ++ Dropped ∷ []) ≡ last_measure conf history
measure_dropped conf history =
    ap (last_or None)
    (notes_after-append (measures_on conf) place_of_measure (one_measure conf) [] history (Dropped ∷ []) ∙ append-nil (notes_after (measures_on conf) [] history))

-- ---- what is counted, with one more cell

-- one packet, where it is counted
abbrev pub one_if : Bool → ℕ
one_if counts = if counts then 1 else 0

-- a count with one more member
count_by-last : (p : List ℕ → Bool) (xs : List (List ℕ)) (x : List ℕ) → count_by p (xs ++ x ∷ []) ≡ count_by p xs + one_if (p x)
count_by-last p xs x = fold-append (λ (n : ℕ) (y : List ℕ). n + (if p y then 1 else 0)) 0 xs (x ∷ [])

pub counted_live : (conf : RateConf) (at : ℕ) (history : List Cell) (packet : List ℕ) (labels : ℕ) → at ≤ length history
    → counted_from conf at (history ++ Live packet labels ∷ []) ≡ counted_from conf at history + one_if (is_counted conf packet)
counted_live conf at history packet labels le =
    ap (λ (cells : List Cell). count_by (is_counted conf) (live_packets cells)) (drop-append-le at history (Live packet labels ∷ []) le)
    ∙ (ap (count_by (is_counted conf)) (flat_map-append packet_in (drop at history) (Live packet labels ∷ []))
    ∙ count_by-last (is_counted conf) (live_packets (drop at history)) packet)

pub counted_dropped : (conf : RateConf) (at : ℕ) (history : List Cell) → at ≤ length history
    → counted_from conf at (history ++ Dropped ∷ []) ≡ counted_from conf at history
counted_dropped conf at history le =
    ap (λ (cells : List Cell). count_by (is_counted conf) (live_packets cells)) (drop-append-le at history (Dropped ∷ []) le)
    ∙ ap (count_by (is_counted conf)) (flat_map-append packet_in (drop at history) (Dropped ∷ []) ∙ append-nil (live_packets (drop at history)))

-- from the packet itself on
pub counted_here : (conf : RateConf) (history : List Cell) (packet : List ℕ) (labels : ℕ)
    → counted_from conf (length history) (history ++ Live packet labels ∷ []) ≡ one_if (is_counted conf packet)
counted_here conf history packet labels =
    ap (λ (cells : List Cell). count_by (is_counted conf) (live_packets cells)) (drop-append_seam history (Live packet labels ∷ []))
    ∙ (count_by-last (is_counted conf) [] packet ∙ zero_and (one_if (is_counted conf packet)))
  where
    zero_and : (n : ℕ) → 0 + n ≡ n
    zero_and n = omega arith

-- ---- the lines of a measurement

one_placed : (at : ℕ) (judged : Judged) → place_of judged ≡ at → placed_at at (texts_of judged ++ []) ≡ lines_of_judged judged ++ []
one_placed at judged is =
    ap (placed_at at) (append-nil (texts_of judged))
    ∙ (ap (λ (p : ℕ). placed_at p (texts_of judged)) (sym is)
    ∙ sym (append-nil (lines_of_judged judged)))

pub judged_lines : (at : ℕ) (measures : List Judged) → IsNoteAt place_of at measures → placed_at at (flat_map texts_of measures) ≡ flat_map lines_of_judged measures
judged_lines at measures one =
    let Same : List Judged → Type 0 = λ js. placed_at at (flat_map texts_of js) ≡ flat_map lines_of_judged js in
    elim one.one [
      | inl e ↦ subst Same (sym e) refl
      | inr e ↦ subst Same (sym e.1) (one_placed at e.0 e.2)
    ]
