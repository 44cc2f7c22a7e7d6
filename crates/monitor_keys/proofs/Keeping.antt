-- Lemmas on what is kept of a key, cell by cell.
use Rattle.std.proofs.Common.{◌≡◌, ℕ, ◌+◌, ◌≤◌, List, [], ◌∷◌, ◌++◌, length, drop, ap, sym, subst, ◌∙◌, refl, Bool, true, false, ◌&&◌, ◌||◌, if◌then◌else◌, append-nil, Option, None, Some, arith, length-append, drop_of_length-le}
use Rattle.std.specs.List.{last_or}
use Rattle.std.proofs.Math.Bool.{or-false}
use Rattle.ts_packet.specs.declared.cell.Cell.{Cell}
use Rattle.ts_packet.specs.Cells.{Live, Dropped}
use Rattle.plug_clock.specs.StreamClock.{clock_after}
use Rattle.plug_clock.specs.declared.last_clock.LastClock.{LastClock}
use Rattle.plug_clock.specs.declared.stream_clock.StreamClock.{StreamClock}
use Rattle.plug_clock.proofs.Ticking.{clock-dropped, clock-live}
use Rattle.monitor_keys.specs.declared.key.Key.{Key}
use Rattle.monitor_keys.specs.declared.key_limit.KeyLimit.{KeyLimit}
use Rattle.monitor_keys.specs.declared.span.Span.{Span}
use Rattle.monitor_keys.specs.Keys.{KeyRule, Waiting, first_of, gap_on, has_some, is_late_on, last_set, late_on, noted_from, occurs_on, open_from, place_if, place_set, places_open, places_with, set_on, span_on, time_set, waited_on, waiting_at, was_late}
use Rattle.monitor_keys.specs.KeyState.{IsKey, first_with, fresh_key, gap_told, key_with, last_with, late_with, looked, since_with}
use Rattle.monitor_keys.specs.Looks.{gap_with, is_late, is_look, set_time}
use Rattle.monitor_keys.proofs.Noting.{noted-dropped, noted-here, noted-live, noted-none}
use Rattle.monitor_keys.proofs.Reading.{after-behind, behind-at, met-same, open-from, open-least, open-most}

-- ---- one more in a list

last_or-append : {A : Type 0} (o : Option A) (xs ys : List A) → last_or o (xs ++ ys) ≡ last_or (last_or o xs) ys
last_or-append o [] ys = refl
last_or-append o (x ∷ xs) ys = last_or-append (Some x) xs ys

first-more : (ns : List ℕ) (occurs : Bool) (at : ℕ) → first_of (ns ++ place_if occurs at) ≡ first_with (first_of ns) occurs at
first-more [] true at = refl
first-more [] false at = refl
first-more (n ∷ ns) occurs at = refl

last-more : (ns : List ℕ) (occurs : Bool) (at : ℕ) → last_or None (ns ++ place_if occurs at) ≡ last_with (last_or None ns) occurs at
last-more ns true at = last_or-append None ns (at ∷ [])
last-more ns false at = ap (last_or None) (append-nil ns)

pub some-more : (ns : List ℕ) (is : Bool) (at : ℕ) → has_some (ns ++ place_if is at) ≡ (has_some ns || is)
some-more [] true at = refl
some-more [] false at = refl
some-more (n ∷ ns) is at = refl

some-place : (is : Bool) (at : ℕ) → has_some (place_if is at) ≡ is
some-place true at = refl
some-place false at = refl

first-same : (first : Option ℕ) (at : ℕ) → first_with first false at ≡ first
first-same None at = refl
first-same (Some n) at = refl

-- a look that sets a time, or none
since-more : (set : Option ℕ) (last : Option Waiting) (at : ℕ) → since_with set (time_set last) ≡ time_set (last_or last (waiting_at at set))
since-more None last at = refl
since-more (Some time) last at = refl

place-more : (from at : ℕ) (set : Option ℕ) (last : Option Waiting) → place_set from last ≤ at → place_set from (last_or last (waiting_at at set)) ≤ at
place-more from at None last le = le
place-more from at (Some time) last le = omega arith

-- ---- a key before any look

pub key_begun : (rule : KeyRule) (history : List Cell) (at : ℕ) (limit : KeyLimit) → rule.from ≡ at → rule.limit ≡ limit → length history ≡ rule.from
    → IsKey rule (fresh_key at limit) history
key_begun rule history at limit from_here limit_here here =
    record {
      from_is = sym from_here;
      limit_is = sym limit_here;
      since_is = ap time_set (sym no_set);
      told_is =
          sym (ap (λ (s : Option Waiting). has_some (noted_from (late_on rule) (place_set rule.from s) history)) no_set
          ∙ ap has_some (noted-none (late_on rule) rule.from history nothing));
      first_is = ap first_of (sym no_place);
      last_is = ap (last_or None) (sym no_place);
      begun = omega (arith, here);
      set_before = subst (λ (s : Option Waiting). place_set rule.from s ≤ length history) (sym no_set) (omega (arith, here));
    }
  where
    last : Option LastClock
    last = (clock_after rule.pcr_pid history).last

    nothing : drop rule.from history ≡ []
    nothing = drop_of_length-le history (omega (arith, here))

    no_set : last_set rule history ≡ None
    no_set = ap (last_or None) (noted-none (set_on rule) rule.from history nothing)

    from_least : rule.from ≤ open_from rule last
    from_least = open-from rule last

    no_place : places_open rule history ≡ []
    no_place = noted-none (occurs_on rule) (open_from rule last) history (drop_of_length-le history (omega (arith, here, from_least)))

module _ (rule : KeyRule) (history : List Cell) where
  -- the key of these cells
  abbrev the_key : Key
  the_key = record {
    from = rule.from;
    limit = rule.limit;
    since = time_set (last_set rule history);
    was_late = was_late rule history;
    first = first_of (places_open rule history);
    last = last_or None (places_open rule history);
  }

  key-is : (key : Key) → IsKey rule key history → key ≡ the_key
  key-is key w =
      ap (λ (n : ℕ). let k : Key = record key { from = n } in k) w.from_is
      ∙ (ap (λ (l : KeyLimit). let k : Key = record key { from = rule.from; limit = l } in k) w.limit_is
      ∙ (ap (λ (n : ℕ). let k : Key = record key { from = rule.from; limit = rule.limit; since = n } in k) w.since_is
      ∙ (ap (λ (b : Bool). let k : Key = record { from = rule.from; limit = rule.limit; since = time_set (last_set rule history); was_late = b; first = key.first; last = key.last } in k) w.told_is
      ∙ (ap (λ (o : Option ℕ). let k : Key = record { from = rule.from; limit = rule.limit; since = time_set (last_set rule history); was_late = was_late rule history; first = o; last = key.last } in k) w.first_is
      ∙ ap (λ (o : Option ℕ). let k : Key = record { from = rule.from; limit = rule.limit; since = time_set (last_set rule history); was_late = was_late rule history; first = first_of (places_open rule history); last = o } in k) w.last_is))))

  -- from where on occurrences have not been looked at, by the clock before
  abbrev start : ℕ
  start = open_from rule (clock_after rule.pcr_pid history).last

  open-le : rule.from ≤ length history → start ≤ length history
  open-le begun = open-most rule (clock_after rule.pcr_pid history).last (length history) begun (after-behind rule.pcr_pid history)

  -- a dropped cell leaves it
  pub key_dropped : (key : Key) → IsKey rule key history → IsKey rule key (history ++ Dropped ∷ [])
  key_dropped key w = record {
    from_is = w.from_is;
    limit_is = w.limit_is;
    since_is = w.since_is ∙ ap time_set (sym same_set);
    told_is = w.told_is ∙ sym same_late;
    first_is = w.first_is ∙ ap first_of (sym same_places);
    last_is = w.last_is ∙ ap (last_or None) (sym same_places);
    begun = omega (arith, w.begun, longer);
    set_before = subst (λ (s : Option Waiting). place_set rule.from s ≤ length (history ++ Dropped ∷ [])) (sym same_set) (omega (arith, w.set_before, longer));
  }
    where
      longer : length (history ++ Dropped ∷ []) ≡ length history + 1
      longer = length-append history (Dropped ∷ [])

      same_set : last_set rule (history ++ Dropped ∷ []) ≡ last_set rule history
      same_set = ap (last_or None) (noted-dropped (set_on rule) rule.from history w.begun)

      same_late : was_late rule (history ++ Dropped ∷ []) ≡ was_late rule history
      same_late =
          ap (λ (s : Option Waiting). has_some (noted_from (late_on rule) (place_set rule.from s) (history ++ Dropped ∷ []))) same_set
          ∙ ap has_some (noted-dropped (late_on rule) (place_set rule.from (last_set rule history)) history w.set_before)

      same_places : places_open rule (history ++ Dropped ∷ []) ≡ places_open rule history
      same_places =
          ap (λ (c : StreamClock). noted_from (occurs_on rule) (open_from rule c.last) (history ++ Dropped ∷ [])) (clock-dropped rule.pcr_pid history)
          ∙ noted-dropped (occurs_on rule) start history (open-le w.begun)

  -- ---- a packet

  module _ (packet : List ℕ) where
    abbrev span : Span
    span = span_on rule.pcr_pid history packet

    abbrev occurs : Bool
    occurs = rule.occurs history packet

    abbrev due : Bool
    due = rule.is_due history packet

    -- the time that is set, where it is looked at
    abbrev set : Option ℕ
    set = set_time span rule.from (last_or None (places_with rule history packet))

    first_is : first_with (first_of (places_open rule history)) occurs (length history) ≡ first_of (places_with rule history packet)
    first_is = sym (first-more (places_open rule history) occurs (length history))

    last_is : last_with (last_or None (places_open rule history)) occurs (length history) ≡ last_or None (places_with rule history packet)
    last_is = sym (last-more (places_open rule history) occurs (length history))

    -- what is told by what is kept is what the rule tells
    told_is : gap_told the_key span occurs due ≡ gap_on rule history packet
    told_is =
        ap (λ (o : Option ℕ). if is_look span then gap_with rule.limit span (waited_on rule history packet) o due (was_late rule history) else None) first_is

    module _ (labels : ℕ) (begun : rule.from ≤ length history) (set_before : place_set rule.from (last_set rule history) ≤ length history) where
      abbrev more : List Cell
      more = history ++ Live packet labels ∷ []

      longer : length more ≡ length history + 1
      longer = length-append history (Live packet labels ∷ [])

      -- the times that are set
      set_more : (s : Option ℕ) → set_on rule history packet ≡ waiting_at (length history) s
          → last_set rule more ≡ last_or (last_set rule history) (waiting_at (length history) s)
      set_more s is =
          ap (last_or None) (noted-live (set_on rule) rule.from history packet labels begun)
          ∙ (last_or-append None (noted_from (set_on rule) rule.from history) (set_on rule history packet)
          ∙ ap (last_or (last_set rule history)) is)

      -- it was late since then
      late_more : (s : Option ℕ) → last_set rule more ≡ last_or (last_set rule history) (waiting_at (length history) s)
          → late_with s (was_late rule history) (is_late_on rule history packet) ≡ was_late rule more
      late_more None is =
          sym (ap (λ (o : Option Waiting). has_some (noted_from (late_on rule) (place_set rule.from o) more)) is
          ∙ (ap has_some (noted-live (late_on rule) (place_set rule.from (last_set rule history)) history packet labels set_before)
          ∙ some-more (noted_from (late_on rule) (place_set rule.from (last_set rule history)) history) (is_late_on rule history packet) (length history)))
      late_more (Some time) is =
          sym (ap (λ (o : Option Waiting). has_some (noted_from (late_on rule) (place_set rule.from o) more)) is
          ∙ (ap has_some (noted-here (late_on rule) history packet labels)
          ∙ some-place (is_late_on rule history packet) (length history)))

      -- the occurrences, by the clock with the packet
      places_more : places_open rule more ≡ noted_from (occurs_on rule) (open_from rule span.after.last) more
      places_more = ap (λ (c : StreamClock). noted_from (occurs_on rule) (open_from rule c.last) more) (clock-live rule.pcr_pid history packet labels)

      set_later : (s : Option ℕ) → last_set rule more ≡ last_or (last_set rule history) (waiting_at (length history) s)
          → place_set rule.from (last_set rule more) ≤ length more
      set_later s is =
          subst (λ (o : Option Waiting). place_set rule.from o ≤ length more) (sym is)
          (omega (arith, longer, place-more rule.from (length history) s (last_set rule history) set_before))

      -- a look
      at_look : is_look span ≡ true → IsKey rule (looked the_key span occurs due) more
      at_look is =
          let last_is_set = set_more set (ap (λ (b : Bool). if b then waiting_at (length history) set else []) is) in
          let set_here : set_time span rule.from (last_with (last_or None (places_open rule history)) occurs (length history)) ≡ set = ap (set_time span rule.from) last_is in
          let late_here : is_late rule.limit span (waited_on rule history packet) (first_with (first_of (places_open rule history)) occurs (length history)) due ≡ is_late_on rule history packet =
          ap (λ (o : Option ℕ). is_late rule.limit span (waited_on rule history packet) o due) first_is
          ∙ ap (λ (b : Bool). b && is_late rule.limit span (waited_on rule history packet) (first_of (places_with rule history packet)) due) (sym is) in
          let no_places : places_open rule more ≡ [] =
          places_more
          ∙ noted-none (occurs_on rule) (open_from rule span.after.last) more
          (drop_of_length-le more (omega (arith, longer, behind-at (length history) span.after.last is, open-least rule span.after.last))) in
          record {
            from_is = refl;
            limit_is = refl;
            since_is =
                ap (λ (s : Option ℕ). since_with s (time_set (last_set rule history))) set_here
                ∙ (since-more set (last_set rule history) (length history) ∙ ap time_set (sym last_is_set));
            told_is =
                ap (λ (s : Option ℕ). late_with s (was_late rule history)
                (is_late rule.limit span (waited_on rule history packet) (first_with (first_of (places_open rule history)) occurs (length history)) due)) set_here
                ∙ (ap (late_with set (was_late rule history)) late_here ∙ late_more set last_is_set);
            first_is = ap first_of (sym no_places);
            last_is = ap (last_or None) (sym no_places);
            begun = omega (arith, begun, longer);
            set_before = set_later set last_is_set;
          }

      -- another packet
      elsewhere : is_look span ≡ false
          → IsKey rule (record the_key {
            first = first_with (first_of (places_open rule history)) occurs (length history);
            last = last_with (last_or None (places_open rule history)) occurs (length history);
          }) more
      elsewhere is =
          let last_is_set = set_more None (ap (λ (b : Bool). if b then waiting_at (length history) set else []) is) in
          let not_late : is_late_on rule history packet ≡ false =
          ap (λ (b : Bool). b && is_late rule.limit span (waited_on rule history packet) (first_of (places_with rule history packet)) due) is in
          let same_places : places_open rule more ≡ places_with rule history packet =
          places_more
          ∙ (ap (λ (o : Option LastClock). noted_from (occurs_on rule) (open_from rule o) more) (met-same (clock_after rule.pcr_pid history) (length history) packet is)
          ∙ noted-live (occurs_on rule) start history packet labels (open-le begun)) in
          record {
            from_is = refl;
            limit_is = refl;
            since_is = ap time_set (sym last_is_set);
            told_is =
                sym (or-false (was_late rule history))
                ∙ (ap (λ (b : Bool). was_late rule history || b) (sym not_late) ∙ late_more None last_is_set);
            first_is = first_is ∙ ap first_of (sym same_places);
            last_is = last_is ∙ ap (last_or None) (sym same_places);
            begun = omega (arith, begun, longer);
            set_before = set_later None last_is_set;
          }

      the_key_live : IsKey rule (key_with the_key span occurs due) more
      the_key_live = by_cases (is_look span) refl
        where
          by_cases : (b : Bool) → is_look span ≡ b
              → IsKey rule (if b then looked the_key span occurs due else record the_key {
                first = first_with (first_of (places_open rule history)) occurs (length history);
                last = last_with (last_or None (places_open rule history)) occurs (length history);
              }) more
          by_cases true is = at_look is
          by_cases false is = elsewhere is

-- ---- what is kept, by the packet

module _ (rule : KeyRule) (key : Key) (history : List Cell) (packet : List ℕ) (span : Span) (occurs due : Bool) (w : IsKey rule key history)
    (span_is : span ≡ span_on rule.pcr_pid history packet) (occurs_is : occurs ≡ rule.occurs history packet) (due_is : due ≡ rule.is_due history packet) where
  -- the key after it
  pub key_live : (labels : ℕ) (new : Key) → new ≡ key_with key span occurs due → IsKey rule new (history ++ Live packet labels ∷ [])
  key_live labels new is =
      let same : new ≡ key_with (the_key rule history) (span_on rule.pcr_pid history packet) (rule.occurs history packet) (rule.is_due history packet) =
      is
      ∙ (ap (λ (k : Key). key_with k span occurs due) (key-is rule history key w)
      ∙ (ap (λ (s : Span). key_with (the_key rule history) s occurs due) span_is
      ∙ (ap (λ (b : Bool). key_with (the_key rule history) (span_on rule.pcr_pid history packet) b due) occurs_is
      ∙ ap (key_with (the_key rule history) (span_on rule.pcr_pid history packet) (rule.occurs history packet)) due_is))) in
      subst (λ (k : Key). IsKey rule k (history ++ Live packet labels ∷ [])) (sym same)
      (the_key_live rule history packet labels w.begun w.set_before)

  -- what is told with it
  pub gap_live : gap_told key span occurs due ≡ gap_on rule history packet
  gap_live =
      ap (λ (k : Key). gap_told k span occurs due) (key-is rule history key w)
      ∙ (ap (λ (s : Span). gap_told (the_key rule history) s occurs due) span_is
      ∙ (ap (λ (b : Bool). gap_told (the_key rule history) (span_on rule.pcr_pid history packet) b due) occurs_is
      ∙ (ap (gap_told (the_key rule history) (span_on rule.pcr_pid history packet) (rule.occurs history packet)) due_is
      ∙ told_is rule history packet)))

-- a packet without news leaves the key
pub key_quiet : (rule : KeyRule) (key : Key) (history : List Cell) (packet : List ℕ) (labels : ℕ) → IsKey rule key history
    → is_look (span_on rule.pcr_pid history packet) ≡ false → rule.occurs history packet ≡ false → IsKey rule key (history ++ Live packet labels ∷ [])
key_quiet rule key history packet labels w no_look no_occurrence =
    key_live rule key history packet (span_on rule.pcr_pid history packet) false (rule.is_due history packet) w refl (sym no_occurrence) refl labels key
    (sym (ap (λ (b : Bool). if b then looked key (span_on rule.pcr_pid history packet) false (rule.is_due history packet) else record key {
      first = first_with key.first false (length history);
      last = key.last;
    }) no_look
    ∙ ap (λ (o : Option ℕ). let k : Key = record key { first = o } in k) (first-same key.first (length history))))

-- and tells nothing
pub gap_quiet : (rule : KeyRule) (history : List Cell) (packet : List ℕ) → is_look (span_on rule.pcr_pid history packet) ≡ false → gap_on rule history packet ≡ None
gap_quiet rule history packet no_look =
    ap (λ (b : Bool). if b then gap_with rule.limit (span_on rule.pcr_pid history packet) (waited_on rule history packet) (first_of (places_with rule history packet))
    (rule.is_due history packet) (was_late rule history) else None) no_look
