-- Lemmas on what is kept of the measurement in hand, cell by cell.
use Rattle.std.proofs.Common.{◌≡◌, ℕ, ◌+◌, ◌-◌, ◌≤◌, List, [], ◌∷◌, ◌++◌, length, ap, sym, ◌∙◌, refl, Bool, true, false, ◌&&◌, ◌||◌, if◌then◌else◌, is_none, is_some, IfSome, Option, None, Some, option_map, option_to_list, arith, length-append}
use Rattle.std.specs.List.{last_or}
use Rattle.ts_packet.specs.declared.cell.Cell.{Cell}
use Rattle.ts_packet.specs.Cells.{Live, Dropped}
use Rattle.ts_packet.specs.Header.{error_indicator_of}
use Rattle.ts_packet.specs.Pcr.{pcr_of}
use Rattle.plug_clock.specs.StreamClock.{clock_after, clock_met, clock_with as clock_reads}
use Rattle.plug_clock.specs.declared.last_clock.LastClock.{LastClock}
use Rattle.plug_clock.specs.declared.stream_clock.StreamClock.{StreamClock}
use Rattle.plug_clock.proofs.Growing.{cells-grow}
use Rattle.plug_clock.proofs.Ticking.{clock-dropped, clock-live}
use Rattle.plug_rate.specs.Bounds.{is_outside}
use Rattle.plug_rate.specs.Measures.{begins_with, clock_with, ends_on, is_counted, judged_by, judged_on, last_measure, last_point, measure_on, measured_from, point_on, was_outside}
use Rattle.plug_rate.specs.MeterSteps.{IsMeter, count_with, counted_since, is_point, measure_from, measure_with, measured_by, meter_with, outside_with}
use Rattle.plug_rate.specs.Rates.{has_passed}
use Rattle.plug_rate.specs.declared.bounds.Bounds.{Bounds}
use Rattle.plug_rate.specs.declared.measure.Measure.{Measure}
use Rattle.plug_rate.specs.declared.meter.Meter.{Meter}
use Rattle.plug_rate.specs.declared.point.Point.{Point}
use Rattle.plug_rate.specs.declared.rate_conf.RateConf.{RateConf}
use Rattle.plug_rate.proofs.Measuring.{counted_dropped, counted_here, counted_live, measure_dropped, measure_live, one_if, point_dropped, point_live}
use Rattle.plug_rate.proofs.Rating.{none_passes}

-- a packet without a PCR leaves the clock
reads_none : (clock : StreamClock) (at : ℕ) (packet : List ℕ) (error : Bool) → pcr_of packet ≡ None → clock_reads clock at packet (if error then None else pcr_of packet) ≡ clock
reads_none clock at packet true none = refl
reads_none clock at packet false none = ap (clock_reads clock at packet) none

pub clock_stays : (clock : StreamClock) (at : ℕ) (packet : List ℕ) → pcr_of packet ≡ None → clock_met clock at packet ≡ clock
unfolding clock_met
clock_stays clock at packet none = reads_none clock at packet (error_indicator_of packet) none

-- what is measured by what was counted is what is measured from the point
by_from : (conf : RateConf) (history : List Cell) (start : Option Point) (count time : ℕ) → count ≡ counted_since conf start history
    → measured_by start count (length history) time ≡ measured_from conf history time start
by_from conf history None count time is = refl
by_from conf history (Some point) count time is =
    ap (λ (n : ℕ). let m : Option Measure = Some (measure_from point n (length history) time) in m) is

-- the last measurement is outside with one more
outside_more : (bounds : Bounds) (last measure : Option Measure) → outside_with bounds (was_outside bounds last) measure ≡ was_outside bounds (last_or last (option_to_list measure))
outside_more bounds last None = refl
outside_more bounds last (Some measure) = refl

-- what is counted since a point, with one more packet
since_more : (conf : RateConf) (history : List Cell) (packet : List ℕ) (labels : ℕ) (start : Option Point) (count : ℕ) → count ≡ counted_since conf start history
    → IfSome start (λ point. point.at ≤ length history) → count_with start count (is_counted conf packet) ≡ counted_since conf start (history ++ Live packet labels ∷ [])
since_more conf history packet labels None count is le = is
since_more conf history packet labels (Some point) count is le =
    counts_more (is_counted conf packet) ∙ (ap (λ (n : ℕ). n + one_if (is_counted conf packet)) is ∙ sym (counted_live conf point.at history packet labels le))
  where
    counts_more : (counts : Bool) → (if counts then count + 1 else count) ≡ count + one_if counts
    counts_more true = refl
    counts_more false = omega arith

since_dropped : (conf : RateConf) (history : List Cell) (start : Option Point) (count : ℕ) → count ≡ counted_since conf start history
    → IfSome start (λ point. point.at ≤ length history) → count ≡ counted_since conf start (history ++ Dropped ∷ [])
since_dropped conf history None count is le = is
since_dropped conf history (Some point) count is le = is ∙ sym (counted_dropped conf point.at history le)

-- a point that has begun stays so
still_begun : (start : Option Point) (n m s t : ℕ) → n ≤ m → s ≤ t → IfSome start (λ point. (point.at ≤ n) × (point.time ≤ s)) → IfSome start (λ point. (point.at ≤ m) × (point.time ≤ t))
still_begun None n m s t le later begun = tt
still_begun (Some point) n m s t le later begun = (omega (arith, begun.0, le), omega (arith, begun.1, later))

-- a part of it
begun_at : (start : Option Point) (n s : ℕ) → IfSome start (λ point. (point.at ≤ n) × (point.time ≤ s)) → IfSome start (λ point. point.at ≤ n)
begun_at None n s begun = tt
begun_at (Some point) n s begun = begun.0

pub begun_time : (start : Option Point) (n s : ℕ) → IfSome start (λ point. (point.at ≤ n) × (point.time ≤ s)) → IfSome start (λ point. point.time ≤ s)
begun_time None n s begun = tt
begun_time (Some point) n s begun = begun.1

few_more : (start : Option Point) (count n : ℕ) (counts : Bool) → count ≤ n → count_with start count counts ≤ n + 1
few_more None count n counts le = omega (arith, le)
few_more (Some point) count n true le = omega (arith, le)
few_more (Some point) count n false le = omega (arith, le)

-- the points of a packet, by the clocks before and with it
abbrev pointed : ℕ → StreamClock → StreamClock → ℕ → List Point
pointed interval before after at =
    if begins_with before after || has_passed interval before.time after.time then record { at = at; time = after.time } ∷ [] else []

module _ (conf : RateConf) (meter : Meter) (history : List Cell) (w : IsMeter conf meter history) where
  -- a dropped cell leaves it
  pub meter_dropped : IsMeter conf meter (history ++ Dropped ∷ [])
  meter_dropped = record {
    clocked = w.clocked ∙ sym (clock-dropped conf.pcr_pid history);
    started = w.started ∙ sym (point_dropped conf history);
    counted = since_dropped conf history meter.start meter.count w.counted (begun_at meter.start (length history) meter.clock.time w.begun);
    outside_is = w.outside_is ∙ ap (was_outside conf.bounds) (sym (measure_dropped conf history));
    begun = still_begun meter.start (length history) (length (history ++ Dropped ∷ [])) meter.clock.time meter.clock.time
        (omega (arith, length-append history (Dropped ∷ []))) (omega arith) w.begun;
    few = omega (arith, w.few, length-append history (Dropped ∷ []));
  }

  module _ (packet : List ℕ) (clock : StreamClock) (clock_is : clock ≡ clock_met meter.clock (length history) packet) where
    -- the clock is that with the packet
    with_is : clock ≡ clock_with conf history packet
    with_is = clock_is ∙ ap (λ (c : StreamClock). clock_met c (length history) packet) w.clocked

    -- what is measured is what the rule measures
    pub measure_is : measure_with meter conf.interval (length history) clock ≡ measure_on conf history packet
    measure_is =
        ap (λ (c : StreamClock). if has_passed conf.interval c.time clock.time then measured_by meter.start meter.count (length history) clock.time else None) w.clocked
        ∙ (ap (λ (c : StreamClock). if has_passed conf.interval (clock_after conf.pcr_pid history).time c.time then measured_by meter.start meter.count (length history) c.time else None) with_is
        ∙ (ap (λ (m : Option Measure). if ends_on conf history packet then m else None)
        (by_from conf history meter.start meter.count (clock_with conf history packet).time w.counted
        ∙ ap (measured_from conf history (clock_with conf history packet).time) w.started)))

    -- so it is with its verdict
    pub judged_is : option_to_list (option_map (judged_by conf.bounds meter.is_outside) (measure_with meter conf.interval (length history) clock)) ≡ judged_on conf history packet
    judged_is =
        ap (λ (m : Option Measure). option_to_list (option_map (judged_by conf.bounds meter.is_outside) m)) measure_is
        ∙ ap (λ (b : Bool). option_to_list (option_map (judged_by conf.bounds b) (measure_on conf history packet))) w.outside_is

    -- a point is where the rule has one
    point_is : pointed conf.interval meter.clock clock (length history) ≡ point_on conf history packet
    point_is =
        ap (λ (c : StreamClock). pointed conf.interval c clock (length history)) w.clocked
        ∙ ap (λ (c : StreamClock). pointed conf.interval (clock_after conf.pcr_pid history) c (length history)) with_is

    module _ (labels : ℕ) where
      -- the cells with this one
      abbrev more : List Cell
      more = history ++ Live packet labels ∷ []

      longer : length more ≡ length history + 1
      longer = length-append history (Live packet labels ∷ [])

      clocked_more : clock ≡ clock_after conf.pcr_pid more
      clocked_more = with_is ∙ sym (clock-live conf.pcr_pid history packet labels)

      later : meter.clock.time ≤ clock.time
      later = omega (
        arith,
        cells-grow conf.pcr_pid history (Live packet labels ∷ []),
        ap (λ (c : StreamClock). c.time) w.clocked,
        ap (λ (c : StreamClock). c.time) clocked_more,
      )

      outside_is_more : (measure : Option Measure) → measure ≡ measure_with meter conf.interval (length history) clock
          → outside_with conf.bounds meter.is_outside measure ≡ was_outside conf.bounds (last_measure conf more)
      outside_is_more measure is =
          ap (λ (b : Bool). outside_with conf.bounds b measure) w.outside_is
          ∙ (outside_more conf.bounds (last_measure conf history) measure
          ∙ (ap (λ (m : Option Measure). was_outside conf.bounds (last_or (last_measure conf history) (option_to_list m))) (is ∙ measure_is)
          ∙ ap (was_outside conf.bounds) (sym (measure_live conf history packet labels))))

      last_is : last_point conf more ≡ last_or meter.start (pointed conf.interval meter.clock clock (length history))
      last_is =
          point_live conf history packet labels
          ∙ (ap (λ (o : Option Point). last_or o (point_on conf history packet)) (sym w.started)
          ∙ ap (last_or meter.start) (sym point_is))

      -- a packet from which a new measurement is made
      at_point : (outside : Bool) → outside ≡ was_outside conf.bounds (last_measure conf more) → is_point meter conf.interval clock ≡ true
          → IsMeter conf (record { clock = clock; start = Some (record { at = length history; time = clock.time }); count = if is_counted conf packet then 1 else 0; is_outside = outside }) more
      at_point outside outside_is is = record {
        clocked = clocked_more;
        started = sym (last_is ∙ ap (λ (b : Bool). last_or meter.start (if b then record { at = length history; time = clock.time } ∷ [] else [])) is);
        counted = sym (counted_here conf history packet labels);
        outside_is = outside_is;
        begun = (omega (arith, longer), omega arith);
        few = at_most_one (is_counted conf packet);
      }
        where
          at_most_one : (b : Bool) → (if b then 1 else 0) ≤ length more
          at_most_one true = omega (arith, longer)
          at_most_one false = omega arith

      -- another packet
      elsewhere : (outside : Bool) → outside ≡ was_outside conf.bounds (last_measure conf more) → is_point meter conf.interval clock ≡ false
          → IsMeter conf (record { clock = clock; start = meter.start; count = count_with meter.start meter.count (is_counted conf packet); is_outside = outside }) more
      elsewhere outside outside_is is = record {
        clocked = clocked_more;
        started = sym (last_is ∙ ap (λ (b : Bool). last_or meter.start (if b then record { at = length history; time = clock.time } ∷ [] else [])) is);
        counted = since_more conf history packet labels meter.start meter.count w.counted (begun_at meter.start (length history) meter.clock.time w.begun);
        outside_is = outside_is;
        begun = still_begun meter.start (length history) (length more) meter.clock.time clock.time (omega (arith, longer)) later w.begun;
        few = omega (arith, longer, few_more meter.start meter.count (length history) (is_counted conf packet) w.few);
      }

      -- the meter after the packet
      pub meter_live : (measure : Option Measure) → measure ≡ measure_with meter conf.interval (length history) clock
          → IsMeter conf (meter_with meter conf.interval (length history) clock (is_counted conf packet) (outside_with conf.bounds meter.is_outside measure)) more
      meter_live measure is =
          let outside = outside_with conf.bounds meter.is_outside measure in
          let outside_is = outside_is_more measure is in
          by_cases (is_point meter conf.interval clock) refl outside outside_is
        where
          by_cases : (b : Bool) → is_point meter conf.interval clock ≡ b → (outside : Bool) → outside ≡ was_outside conf.bounds (last_measure conf more)
              → IsMeter conf (if b then record { clock = clock; start = Some (record { at = length history; time = clock.time }); count = if is_counted conf packet then 1 else 0; is_outside = outside }
              else record { clock = clock; start = meter.start; count = count_with meter.start meter.count (is_counted conf packet); is_outside = outside }) more
          by_cases true is_one outside outside_is = at_point outside outside_is is_one
          by_cases false is_one outside outside_is = elsewhere outside outside_is is_one

  module _ (packet : List ℕ) (none : pcr_of packet ≡ None) where
    stays : meter.clock ≡ clock_met meter.clock (length history) packet
    stays = sym (clock_stays meter.clock (length history) packet none)

    no_measure : measure_with meter conf.interval (length history) meter.clock ≡ None
    no_measure =
        ap (λ (b : Bool). if b then measured_by meter.start meter.count (length history) meter.clock.time else None) (none_passes conf.interval meter.clock.time)

    -- a packet without a PCR has no measurement
    pub judged_none : [] ≡ judged_on conf history packet
    judged_none =
        ap (λ (m : Option Measure). option_to_list (option_map (judged_by conf.bounds meter.is_outside) m)) (sym no_measure)
        ∙ judged_is packet meter.clock stays

    begins_not : (last : Option LastClock) → (is_none last && is_some last) ≡ false
    begins_not None = refl
    begins_not (Some last) = refl

    no_point : is_point meter conf.interval meter.clock ≡ false
    no_point =
        ap (λ (b : Bool). b || has_passed conf.interval meter.clock.time meter.clock.time) (begins_not meter.clock.last)
        ∙ none_passes conf.interval meter.clock.time

    -- it is counted alone
    pub meter_counts : (labels : ℕ) → IsMeter conf (record meter { count = count_with meter.start meter.count (is_counted conf packet) }) (history ++ Live packet labels ∷ [])
    meter_counts labels =
        elsewhere packet meter.clock stays labels meter.is_outside
        (outside_is_more packet meter.clock stays labels None (sym no_measure)) no_point
