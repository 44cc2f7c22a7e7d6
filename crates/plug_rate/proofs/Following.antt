-- Lemmas on what a value of `rate` keeps, cell by cell and mark by mark.
use Rattle.std.proofs.Common.{◌≡◌, ℕ, ◌<◌, ◌≤◌, List, [], ◌∷◌, ◌++◌, length, ap, sym, subst, ◌∙◌, Bool, nat_lt, append-nil, Option, None, option_map, option_to_list, arith, length-append}
use Rattle.std.specs.List.{flat_map, take_while}
use Rattle.ts_packet.specs.declared.cell.Cell.{Cell}
use Rattle.ts_packet.specs.Cells.{Live, Dropped}
use Rattle.ts_packet.specs.Pcr.{pcr_of}
use Rattle.chain_model.specs.declared.positions.TheConstants.{POSITION_LIMIT}
use Rattle.plugin_trait.specs.PlacedLines.{placed_between}
use Rattle.plugin_notes.specs.Notes.{notes_after}
use Rattle.plugin_notes.specs.NotesKept.{CanFold, Folds, TakesBelow, notes_below}
use Rattle.plugin_notes.proofs.Keeping as keeping
use Rattle.plugin_notes.proofs.Flat.{given_flat}
use Rattle.plug_clock.specs.StreamClock.{clock_met}
use Rattle.plug_clock.specs.declared.stream_clock.StreamClock.{StreamClock}
use Rattle.plug_rate.specs.Measures.{is_counted, judged_by, judged_on, place_of}
use Rattle.plug_rate.specs.MeterSteps.{HasMeterRoom, IsMeter, count_with, measure_with, meter_with, outside_with}
use Rattle.plug_rate.specs.RateRule.{rate_rule}
use Rattle.plug_rate.specs.RateState.{Follows, no_pid}
use Rattle.plug_rate.specs.RateTexts.{lines_of_judged}
use Rattle.plug_rate.specs.Summing.{IsSummed}
use Rattle.plug_rate.specs.declared.judged.Judged.{Judged}
use Rattle.plug_rate.specs.declared.measure.Measure.{Measure}
use Rattle.plug_rate.specs.declared.meter.Meter.{Meter}
use Rattle.plug_rate.specs.declared.rate_conf.RateConf.{RateConf}
use Rattle.plug_rate.specs.declared.sums.Sums.{Sums}
use Rattle.plug_rate.proofs.Measuring.{judged_lines, on_pids, one_judged}
use Rattle.plug_rate.proofs.Metering.{begun_time, judged_is, judged_none, meter_counts, meter_dropped, meter_live}

module _ (conf : RateConf) (notes : List Judged) (sums : Sums) (meter : Meter) (history : List Cell) (mark : ℕ)
    (w : Follows conf notes sums meter history mark) where
  -- one more packet can be counted
  pub has_room : HasMeterRoom meter
  has_room = record {
    few = omega (arith, w.metered.few, w.short);
    begun = begun_time meter.start (length history) meter.clock.time w.metered.begun;
  }

  -- the notes can be counted
  pub can_fold : CanFold no_pid IsSummed notes sums
  can_fold =
      keeping.can_fold (judged_on conf) place_of (one_judged conf) notes history mark w.keeps no_pid IsSummed sums w.summed w.short (on_pids conf)

  -- one more cell, whose notes are appended
  follows_cell : (cell : Cell) (notes_new : List Judged) (meter_new : Meter) → length history < POSITION_LIMIT → notes_new ≡ notes ++ notes_after (judged_on conf) history (cell ∷ [])
      → IsMeter conf meter_new (history ++ cell ∷ []) → Follows conf notes_new sums meter_new (history ++ cell ∷ []) mark
  follows_cell cell notes_new meter_new few is metered =
      let same = keeping.below_cell (judged_on conf) history mark cell w.keeps.marked in
      record {
        interval = w.interval;
        keeps = keeping.keeps_cell (judged_on conf) place_of (one_judged conf) notes history mark w.keeps cell notes_new is;
        summed = subst (IsSummed sums) same w.summed;
        metered = metered;
        short = omega (arith, few, length-append history (cell ∷ []));
      }

  -- a dropped cell has no note
  pub follows_dropped : length history < POSITION_LIMIT → Follows conf notes sums meter (history ++ Dropped ∷ []) mark
  follows_dropped few = follows_cell Dropped notes meter few (sym (append-nil notes)) (meter_dropped conf meter history w.metered)

  -- a packet has its measurement
  pub follows_live : (packet : List ℕ) (labels : ℕ) (notes_new : List Judged) (meter_new : Meter) → length history < POSITION_LIMIT
      → notes_new ≡ notes ++ judged_on conf history packet → IsMeter conf meter_new (history ++ Live packet labels ∷ [])
      → Follows conf notes_new sums meter_new (history ++ Live packet labels ∷ []) mark
  follows_live packet labels notes_new meter_new few is metered =
      follows_cell (Live packet labels) notes_new meter_new few
      (is ∙ ap (λ (js : List Judged). notes ++ js) (sym (append-nil (judged_on conf history packet)))) metered

  -- one whose PCR may be read: the clock, what is measured, its verdict and the meter go on
  pub follows_met : (packet : List ℕ) (labels at : ℕ) (clock : StreamClock) (measure : Option Measure) (judged : Option Judged) (counts outside : Bool)
      (notes_new : List Judged) (meter_new : Meter) → length history < POSITION_LIMIT → length history ≡ at
      → clock ≡ clock_met meter.clock at packet → measure ≡ measure_with meter conf.interval at clock
      → judged ≡ option_map (judged_by conf.bounds meter.is_outside) measure → is_counted conf packet ≡ counts
      → outside ≡ outside_with conf.bounds meter.is_outside measure → notes_new ≡ notes ++ option_to_list judged
      → meter_new ≡ meter_with meter conf.interval at clock counts outside → Follows conf notes_new sums meter_new (history ++ Live packet labels ∷ []) mark
  follows_met packet labels at clock measure judged counts outside notes_new meter_new few count clock_is measured judged_made counted outside_made pushed made =
      let clock_here : clock ≡ clock_met meter.clock (length history) packet = clock_is ∙ ap (λ (n : ℕ). clock_met meter.clock n packet) (sym count) in
      let measured_here : measure ≡ measure_with meter conf.interval (length history) clock = measured ∙ ap (λ (n : ℕ). measure_with meter conf.interval n clock) (sym count) in
      let same : meter_new ≡ meter_with meter conf.interval (length history) clock (is_counted conf packet) (outside_with conf.bounds meter.is_outside measure) =
      made
      ∙ (ap (λ (n : ℕ). meter_with meter conf.interval n clock counts outside) (sym count)
      ∙ (ap (λ (b : Bool). meter_with meter conf.interval (length history) clock b outside) (sym counted)
      ∙ ap (meter_with meter conf.interval (length history) clock (is_counted conf packet)) outside_made)) in
      follows_live packet labels notes_new meter_new few
      (pushed
      ∙ ap (λ (js : List Judged). notes ++ js)
      (ap option_to_list judged_made
      ∙ (ap (λ (m : Option Measure). option_to_list (option_map (judged_by conf.bounds meter.is_outside) m)) measured_here
      ∙ judged_is conf meter history w.metered packet clock clock_here)))
      (subst (λ (m : Meter). IsMeter conf m (history ++ Live packet labels ∷ [])) (sym same)
      (meter_live conf meter history w.metered packet clock clock_here labels measure measured_here))

  -- one without a PCR is counted, or not
  pub follows_counted : (packet : List ℕ) (labels : ℕ) (counts : Bool) (meter_new : Meter) → length history < POSITION_LIMIT → pcr_of packet ≡ None
      → is_counted conf packet ≡ counts → meter_new ≡ record meter { count = count_with meter.start meter.count counts }
      → Follows conf notes sums meter_new (history ++ Live packet labels ∷ []) mark
  follows_counted packet labels counts meter_new few none counted made =
      let same : meter_new ≡ record meter { count = count_with meter.start meter.count (is_counted conf packet) } =
      made ∙ ap (λ (b : Bool). let m : Meter = record meter { count = count_with meter.start meter.count b } in m) (sym counted) in
      follows_live packet labels notes meter_new few
      (sym (append-nil notes) ∙ ap (λ (js : List Judged). notes ++ js) (judged_none conf meter history w.metered packet none))
      (subst (λ (m : Meter). IsMeter conf m (history ++ Live packet labels ∷ [])) (sym same)
      (meter_counts conf meter history w.metered packet none labels))

  module _ (to : ℕ) (notes_new : List Judged) (le : mark ≤ to) (within : to ≤ length history) where
    -- a later mark
    pub follows_to : (sums_new : Sums) → Folds place_of IsSummed to notes notes_new sums sums_new → Follows conf notes_new sums_new meter history to
    follows_to sums_new folds = record {
      interval = w.interval;
      keeps = keeping.keeps_left (judged_on conf) place_of (one_judged conf) notes history mark w.keeps to notes_new le within folds.takes;
      summed = keeping.counted_below (judged_on conf) place_of (one_judged conf) notes history mark w.keeps to notes_new le within folds.takes IsSummed sums_new
          (folds.counted (notes_below (judged_on conf) mark history) w.summed);
      metered = w.metered;
      short = w.short;
    }

    -- the lines that are given out are those of the rule
    pub given_is : TakesBelow place_of to notes notes_new
        → flat_map lines_of_judged (take_while (λ (n : Judged). nat_lt (place_of n) to) notes) ≡ placed_between (rate_rule conf) history mark to
    given_is takes =
        given_flat (judged_on conf) (rate_rule conf) lines_of_judged
        (λ h packet labels. judged_lines (length h) (judged_on conf h packet) (one_judged conf h packet))
        place_of (one_judged conf) notes history mark w.keeps to notes_new le within takes
