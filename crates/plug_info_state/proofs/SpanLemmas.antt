-- Lemmas on the PCRs of PIDs, cell by cell.
use Rattle.std.proofs.Common.{◌≡◌, ℕ, ◌+◌, ◌-◌, ◌<◌, List, [], ◌∷◌, ◌++◌, length, map, filter, get_or, set, ap, ap₂, sym, subst, ◌∙◌, inl, inr, refl, Bool, true, false, not, ◌&&◌, if◌then◌else◌, ◌==◌, append-nil, length-append, Option, None, Some, arith, get_or-set_same, get_or-set_other, eq-eqb}
use Rattle.std.specs.Prelude.{nat_lt, option_map}
use Rattle.std.specs.List.{fold, sum}
use Rattle.std.proofs.lemmas.List.{map-append}
use Rattle.std.proofs.lemmas.List.Elements.{filter-append}
use Rattle.std.proofs.lemmas.List.Sums.{fold-append, sum_by-append}
use Rattle.std.proofs.lemmas.Bool.{cases_eq, ne_eqb}
use Rattle.ts_packet.specs.declared.numbers.TheConstants.{PID_COUNT}
use Rattle.ts_packet.specs.declared.cell.Cell.{Cell}
use Rattle.ts_packet.specs.Cells.{Live, Dropped}
use Rattle.ts_packet.specs.Adaptation.{discontinuity_of}
use Rattle.ts_packet.specs.Header.{error_indicator_of, pid_of}
use Rattle.ts_packet.specs.MetRows.{Met, met_rows}
use Rattle.ts_packet.specs.Pcr.{clock_of, has_pcr_of}
use Rattle.ts_packet.proofs.RowLemmas.{met-more}
use Rattle.plugin_notes.specs.PidPackets.{numbers_below}
use Rattle.plugin_notes.proofs.PidLemmas.{numbers_below_more}
use Rattle.plug_info_state.specs.PacketExtent.{last_after}
use Rattle.plug_info_state.specs.PcrRate.{Way, breaks_in, has_sound_clock_on, is_break, is_span, positions_in, rate_at, rate_over, sound_clocks_on, units_in, way_between, ways_after, ways_on, wider_of}
use Rattle.plug_info_state.specs.ClockSpans.{AreSpans, fits, met_clock, no_span, span_of, span_on, span_with, way_parts, wider_span}
use Rattle.plug_info_state.specs.declared.clock_span.ClockSpan.{ClockSpan}
use Rattle.plug_info_state.specs.declared.clock_span.MetClock.{MetClock}
use Rattle.plug_info_state.specs.declared.spans.Spans.{Spans}
use Rattle.plug_info_state.proofs.ExtentLemmas.{last-more}

-- the ways with one more packet
ways-more : (first : Met) (rows : List Met) (x : Met) → ways_after first (rows ++ x ∷ []) ≡ ways_after first rows ++ way_between (last_after first rows) x ∷ []
ways-more first [] x = refl
ways-more first (row ∷ rows) x = ap (λ (ws : List Way). way_between first row ∷ ws) (ways-more row rows x)

-- sums over two lists of ways
positions-append : (xs ys : List Way) → positions_in (xs ++ ys) ≡ positions_in xs + positions_in ys
positions-append xs ys =
    ap (λ (ws : List Way). sum (map (λ (w : Way). w.positions) ws)) (filter-append is_span xs ys)
    ∙ (ap sum (map-append (λ (w : Way). w.positions) (filter is_span xs) (filter is_span ys))
    ∙ sum_by-append (λ (x : ℕ). x) (map (λ (w : Way). w.positions) (filter is_span xs)) (map (λ (w : Way). w.positions) (filter is_span ys)))

units-append : (xs ys : List Way) → units_in (xs ++ ys) ≡ units_in xs + units_in ys
units-append xs ys =
    ap (λ (ws : List Way). sum (map (λ (w : Way). w.units) ws)) (filter-append is_span xs ys)
    ∙ (ap sum (map-append (λ (w : Way). w.units) (filter is_span xs) (filter is_span ys))
    ∙ sum_by-append (λ (x : ℕ). x) (map (λ (w : Way). w.units) (filter is_span xs)) (map (λ (w : Way). w.units) (filter is_span ys)))

breaks-append : (xs ys : List Way) → breaks_in (xs ++ ys) ≡ breaks_in xs + breaks_in ys
breaks-append xs ys = ap length (filter-append is_break xs ys) ∙ length-append (filter is_break xs) (filter is_break ys)

zero-add : (n : ℕ) → 0 + n ≡ n
zero-add n = omega arith

-- the parts of one way, by whether it is a span
positions_part : (b : Bool) (w : Way) → sum (map (λ (v : Way). v.positions) (if b then w ∷ [] else [])) ≡ (let parts : ℕ × ℕ × ℕ = if b then (w.positions, w.units, 0) else (0, 0, 1) in parts.0)
positions_part true w = zero-add w.positions
positions_part false w = refl

units_part : (b : Bool) (w : Way) → sum (map (λ (v : Way). v.units) (if b then w ∷ [] else [])) ≡ (let parts : ℕ × ℕ × ℕ = if b then (w.positions, w.units, 0) else (0, 0, 1) in parts.1)
units_part true w = zero-add w.units
units_part false w = refl

breaks_part : (b : Bool) (w : Way) → (let ws : List Way = if not b then w ∷ [] else [] in length ws) ≡ (let parts : ℕ × ℕ × ℕ = if b then (w.positions, w.units, 0) else (0, 0, 1) in parts.2)
breaks_part true w = refl
breaks_part false w = refl

-- what one way adds
abbrev added : Met → Met → ℕ × ℕ × ℕ
added before row = way_parts (Some (met_clock before)) (met_clock row) (discontinuity_of row.packet)

way-positions : (before row : Met) → positions_in (way_between before row ∷ []) ≡ (added before row).0
way-positions before row = positions_part (is_span (way_between before row)) (way_between before row)

way-units : (before row : Met) → units_in (way_between before row ∷ []) ≡ (added before row).1
way-units before row = units_part (is_span (way_between before row)) (way_between before row)

way-breaks : (before row : Met) → breaks_in (way_between before row ∷ []) ≡ (added before row).2
way-breaks before row = breaks_part (is_span (way_between before row)) (way_between before row)

-- what is kept, part by part
parts : (last last_new : Option MetClock) (p p_new u u_new b b_new : ℕ) → last ≡ last_new → p ≡ p_new → u ≡ u_new → b ≡ b_new
    → (let s : ClockSpan = record { last = last; positions = p; units = u; breaks = b } in s)
    ≡ (let s : ClockSpan = record { last = last_new; positions = p_new; units = u_new; breaks = b_new } in s)
parts last last_new p p_new u u_new b b_new same_last same_p same_u same_b =
    ap (λ (x : Option MetClock). let s : ClockSpan = record { last = x; positions = p; units = u; breaks = b } in s) same_last
    ∙ (ap (λ (x : ℕ). let s : ClockSpan = record { last = last_new; positions = x; units = u; breaks = b } in s) same_p
    ∙ (ap (λ (x : ℕ). let s : ClockSpan = record { last = last_new; positions = p_new; units = x; breaks = b } in s) same_u
    ∙ ap (λ (x : ℕ). let s : ClockSpan = record { last = last_new; positions = p_new; units = u_new; breaks = x } in s) same_b))

-- what is kept with one more packet
pub span-more : (rows : List Met) (row : Met) → span_of (rows ++ row ∷ []) ≡ span_with (span_of rows) (met_clock row) (discontinuity_of row.packet)
span-more [] row = refl
span-more (first ∷ rows) row =
    parts _ _ _ _ _ _ _ _
    (ap (λ (r : Met). let s : Option MetClock = Some (met_clock r) in s) (last-more first rows row))
    (ap positions_in (ways-more first rows row)
    ∙ (positions-append (ways_after first rows) (way_between (last_after first rows) row ∷ [])
    ∙ ap (λ (n : ℕ). positions_in (ways_after first rows) + n) (way-positions (last_after first rows) row)))
    (ap units_in (ways-more first rows row)
    ∙ (units-append (ways_after first rows) (way_between (last_after first rows) row ∷ [])
    ∙ ap (λ (n : ℕ). units_in (ways_after first rows) + n) (way-units (last_after first rows) row)))
    (ap breaks_in (ways-more first rows row)
    ∙ (breaks-append (ways_after first rows) (way_between (last_after first rows) row ∷ [])
    ∙ ap (λ (n : ℕ). breaks_in (ways_after first rows) + n) (way-breaks (last_after first rows) row)))

-- a packet at a position, with its position
row_at : ℕ → List ℕ → ℕ → Met
row_at at packet labels = record { at = at; packet = packet; labels = labels }

-- whether a packet's PCR on a PID counts
abbrev sound_on : ℕ → List ℕ → Bool
sound_on pid packet = ((pid_of packet == pid) && has_pcr_of packet) && not (error_indicator_of packet)

-- the packets with a PCR on a PID with one more cell
clocks_on-live : (pid : ℕ) (history : List Cell) (packet : List ℕ) (labels : ℕ)
    → sound_clocks_on pid (history ++ Live packet labels ∷ [])
    ≡ sound_clocks_on pid history ++ (if sound_on pid packet then row_at (length history) packet labels ∷ [] else [])
unfolding row_at
clocks_on-live pid history packet labels =
    ap (filter (has_sound_clock_on pid)) (met-more history (Live packet labels))
    ∙ filter-append (has_sound_clock_on pid) (met_rows history) (row_at (length history) packet labels ∷ [])

-- a dropped cell is none
clocks_on-dropped : (pid : ℕ) (history : List Cell) → sound_clocks_on pid (history ++ Dropped ∷ []) ≡ sound_clocks_on pid history
clocks_on-dropped pid history = ap (filter (has_sound_clock_on pid)) (met-more history Dropped ∙ append-nil (met_rows history))

-- nor is a packet without a PCR, marked as damaged or on another PID
clocks_on-other : (pid : ℕ) (history : List Cell) (packet : List ℕ) (labels : ℕ) → sound_on pid packet ≡ false
    → sound_clocks_on pid (history ++ Live packet labels ∷ []) ≡ sound_clocks_on pid history
clocks_on-other pid history packet labels none =
    clocks_on-live pid history packet labels
    ∙ (ap (λ (b : Bool). sound_clocks_on pid history ++ (if b then row_at (length history) packet labels ∷ [] else [])) none
    ∙ append-nil (sound_clocks_on pid history))

and-no : (a b : Bool) → b ≡ false → (a && b) ≡ false
and-no true b e = e
and-no false b e = refl

-- no PCR yet
pub spans_none : (spans : Spans) → ((pid : ℕ) → get_or spans.spans pid no_span ≡ no_span) → AreSpans spans []
spans_none spans none = record { each = λ pid below. none pid }

module _ (spans : Spans) (history : List Cell) (w : AreSpans spans history) where
  -- a dropped cell
  pub spans_dropped : AreSpans spans (history ++ Dropped ∷ [])
  spans_dropped = record { each = λ pid below. w.each pid below ∙ ap span_of (sym (clocks_on-dropped pid history)) }

  -- a packet whose PCR does not count on any PID
  spans_same : (packet : List ℕ) (labels : ℕ) → ((pid : ℕ) → sound_on pid packet ≡ false) → AreSpans spans (history ++ Live packet labels ∷ [])
  spans_same packet labels none = record { each = λ pid below. w.each pid below ∙ ap span_of (sym (clocks_on-other pid history packet labels (none pid))) }

  -- a packet without a PCR
  pub spans_without : (packet : List ℕ) (labels : ℕ) → has_pcr_of packet ≡ false → AreSpans spans (history ++ Live packet labels ∷ [])
  spans_without packet labels none =
      spans_same packet labels (λ pid. ap (λ (b : Bool). b && not (error_indicator_of packet)) (and-no (pid_of packet == pid) (has_pcr_of packet) none))

  -- a packet that is marked as damaged
  pub spans_damaged : (packet : List ℕ) (labels : ℕ) → error_indicator_of packet ≡ true → AreSpans spans (history ++ Live packet labels ∷ [])
  spans_damaged packet labels damaged =
      spans_same packet labels (λ pid. and-no ((pid_of packet == pid) && has_pcr_of packet) (not (error_indicator_of packet)) (ap not damaged))

  -- a packet with a PCR
  module _ (packet : List ℕ) (labels : ℕ) (has : has_pcr_of packet ≡ true) (sound : error_indicator_of packet ≡ false) (below : pid_of packet < PID_COUNT) (span : ClockSpan)
      (span_is : span ≡ span_with (get_or spans.spans (pid_of packet) no_span) (let m : MetClock = record { at = length history; clock = clock_of packet } in m) (discontinuity_of packet))
      (spans_new : Spans) (set_is : spans_new.spans ≡ set spans.spans (pid_of packet) span) (whole : length spans.spans ≡ PID_COUNT) where
    at_place : get_or spans_new.spans (pid_of packet) no_span ≡ span
    at_place =
        ap (λ (ss : List ClockSpan). get_or ss (pid_of packet) no_span) set_is
        ∙ get_or-set_same spans.spans (pid_of packet) span no_span (omega (arith, whole, below))

    at_other : (pid : ℕ) → (pid ≡ pid_of packet → ⊥) → get_or spans_new.spans pid no_span ≡ get_or spans.spans pid no_span
    at_other pid other =
        ap (λ (ss : List ClockSpan). get_or ss pid no_span) set_is ∙ get_or-set_other spans.spans (pid_of packet) pid span no_span other

    its_own : sound_on (pid_of packet) packet ≡ true
    its_own =
        ap₂ (λ (a b : Bool). (a && b) && not (error_indicator_of packet)) (eq-eqb (pid_of packet) (pid_of packet) refl) has ∙ ap not sound

    its_span : span ≡ span_on (history ++ Live packet labels ∷ []) (pid_of packet)
    unfolding row_at
    its_span =
        let rows = sound_clocks_on (pid_of packet) history in
        let row = row_at (length history) packet labels in
        span_is
        ∙ (ap (λ (s : ClockSpan). span_with s (met_clock row) (discontinuity_of packet)) (w.each (pid_of packet) below)
        ∙ (sym (span-more rows row)
        ∙ ap span_of (sym (clocks_on-live (pid_of packet) history packet labels
        ∙ ap (λ (b : Bool). rows ++ (if b then row ∷ [] else [])) its_own))))

    not_own : (pid : ℕ) → (pid ≡ pid_of packet → ⊥) → sound_on pid packet ≡ false
    not_own pid other = ap (λ (a : Bool). (a && has_pcr_of packet) && not (error_indicator_of packet)) (ne_eqb (pid_of packet) pid (λ same. other (sym same)))

    pub spans_live : AreSpans spans_new (history ++ Live packet labels ∷ [])
    spans_live =
        let next = history ++ Live packet labels ∷ [] in
        record {
          each = λ pid pid_below. elim (cases_eq pid (pid_of packet)) [
            | inl same ↦ subst (λ (q : ℕ). get_or spans_new.spans q no_span ≡ span_on next q) (sym same) (at_place ∙ its_span)
            | inr other ↦ at_other pid other ∙ (w.each pid pid_below ∙ ap span_of (sym (clocks_on-other pid history packet labels (not_own pid other))))
          ];
        }

-- what is kept with the PCR of a packet at a position
pub span_is_of : (spans : Spans) (packet : List ℕ) (cells : List Cell) (kept span : ClockSpan) (met : MetClock) (pid : ℕ) (breaks : Bool) → span ≡ span_with kept met breaks
    → kept ≡ get_or spans.spans pid no_span → pid ≡ pid_of packet → length cells ≡ met.at → met.clock ≡ clock_of packet → breaks ≡ discontinuity_of packet
    → span ≡ span_with (get_or spans.spans (pid_of packet) no_span) (let m : MetClock = record { at = length cells; clock = clock_of packet } in m) (discontinuity_of packet)
span_is_of spans packet cells kept span met pid breaks is kept_is pid_is count clock breaks_is =
    is
    ∙ (ap (λ (s : ClockSpan). span_with s met breaks) (kept_is ∙ ap (λ (q : ℕ). get_or spans.spans q no_span) pid_is)
    ∙ (ap (λ (m : MetClock). span_with (get_or spans.spans (pid_of packet) no_span) m breaks)
    (ap (λ (n : ℕ). let m : MetClock = record { at = n; clock = met.clock } in m) (sym count) ∙ ap (λ (k : ℕ). let m : MetClock = record { at = length cells; clock = k } in m) clock)
    ∙ ap (λ (b : Bool). span_with (get_or spans.spans (pid_of packet) no_span) (let m : MetClock = record { at = length cells; clock = clock_of packet } in m) b) breaks_is))

-- what is kept with the PCR of a packet, where the clause of `with` says so
pub with_is : (kept span : ClockSpan) (met : MetClock) (breaks : Bool)
    → Some span ≡ (if fits (span_with kept met breaks) then Some (span_with kept met breaks) else None) → span ≡ span_with kept met breaks
with_is kept span met breaks is = one (fits (span_with kept met breaks)) (span_with kept met breaks) span is
  where
    one : (b : Bool) (a s : ClockSpan) → Some s ≡ (if b then Some a else None) → s ≡ a
    one true a s e = cc
    one false a s e = cc

-- of what is kept of two PIDs the wider one is that of the wider PID
wider-kept : (cells : List Cell) (best : Option ℕ) (pid : ℕ) → wider_span (option_map (span_on cells) best) (span_on cells pid) ≡ option_map (span_on cells) (wider_of cells best pid)
wider-kept cells None pid = by_test (nat_lt 0 (positions_in (ways_on pid cells))) (span_on cells) None pid
  where
    by_test : (b : Bool) (f : ℕ → ClockSpan) (best : Option ℕ) (pid : ℕ) → (if b then Some (f pid) else option_map f best) ≡ option_map f (if b then Some pid else best)
    by_test true f best pid = refl
    by_test false f best pid = refl
wider-kept cells (Some best) pid = by_test (nat_lt (positions_in (ways_on best cells)) (positions_in (ways_on pid cells))) (span_on cells) (Some best) pid
  where
    by_test : (b : Bool) (f : ℕ → ClockSpan) (best : Option ℕ) (pid : ℕ) → (if b then Some (f pid) else option_map f best) ≡ option_map f (if b then Some pid else best)
    by_test true f best pid = refl
    by_test false f best pid = refl

-- the widest of some PIDs with one more
pub widest_more : (cells : List Cell) (pid : ℕ) (widest widest_new : Option ClockSpan) (span : ClockSpan)
    → widest ≡ option_map (span_on cells) (fold (wider_of cells) None (numbers_below pid)) → span ≡ span_on cells pid → widest_new ≡ wider_span widest span
    → widest_new ≡ option_map (span_on cells) (fold (wider_of cells) None (numbers_below (pid + 1)))
widest_more cells pid widest widest_new span so_far span_is is =
    is
    ∙ (ap₂ wider_span so_far span_is
    ∙ (wider-kept cells (fold (wider_of cells) None (numbers_below pid)) pid
    ∙ ap (option_map (span_on cells)) (sym (fold-append (wider_of cells) None (numbers_below pid) (pid ∷ []))
    ∙ ap (fold (wider_of cells) None) (sym (numbers_below_more pid)))))

-- the rate and the breaks of the PID that was found
pub rate-kept : (cells : List Cell) (pid : Option ℕ) (span : ClockSpan) → Some span ≡ option_map (span_on cells) pid → rate_over span.positions span.units ≡ rate_at cells pid
rate-kept cells None span is = cc
rate-kept cells (Some pid) span is = ap (λ (s : ClockSpan). rate_over s.positions s.units) (one span (span_on cells pid) is)
  where
    one : (s a : ClockSpan) → Some s ≡ Some a → s ≡ a
    one s a e = cc

pub rate-nowhere : (cells : List Cell) (pid : Option ℕ) → None ≡ option_map (span_on cells) pid → None ≡ rate_at cells pid
rate-nowhere cells None is = refl
rate-nowhere cells (Some pid) is = cc

pub breaks-kept : (cells : List Cell) (pid : Option ℕ) (span : ClockSpan) → Some span ≡ option_map (span_on cells) pid
    → Some span.breaks ≡ option_map (λ q. breaks_in (ways_on q cells)) pid
breaks-kept cells None span is = cc
breaks-kept cells (Some pid) span is = ap (λ (s : ClockSpan). let n : Option ℕ = Some s.breaks in n) (one span (span_on cells pid) is)
  where
    one : (s a : ClockSpan) → Some s ≡ Some a → s ≡ a
    one s a e = cc

pub breaks-nowhere : (cells : List Cell) (pid : Option ℕ) → None ≡ option_map (span_on cells) pid
    → None ≡ option_map (λ q. breaks_in (ways_on q cells)) pid
breaks-nowhere cells None is = refl
breaks-nowhere cells (Some pid) is = cc

-- what was set for the packet's PID
pub set_at : (spans spans_new : Spans) (packet : List ℕ) (pid : ℕ) (span : ClockSpan) → pid ≡ pid_of packet → spans_new.spans ≡ set spans.spans pid span
    → spans_new.spans ≡ set spans.spans (pid_of packet) span
set_at spans spans_new packet pid span pid_is is = is ∙ ap (λ (q : ℕ). set spans.spans q span) pid_is
