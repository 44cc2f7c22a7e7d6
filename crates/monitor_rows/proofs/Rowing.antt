-- Lemmas on what is kept of a row of keys, packet by packet.
use Rattle.std.proofs.Common.{◌≡◌, ◌≢◌, ℕ, zero, suc, ◌+◌, ◌<◌, ◌≤◌, List, [], ◌∷◌, ◌++◌, length, filter, map, take, get_or, set, ap, sym, subst, ◌∙◌, inl, inr, refl, Bool, true, false, ◌||◌, not, append-nil, Option, None, Some, option_to_list, arith, length-append}
use Rattle.std.specs.List.{All, flat_map}
use Rattle.std.proofs.lemmas.Bool.{cases_eq, cases_lt, eq-eqb, ne_eqb}
use Rattle.std.proofs.lemmas.Grind.{flat_map-append}
use Rattle.std.proofs.lemmas.List.{get_or-map, get_or-set_same, get_or_default, get_or_past, length-map, map-append, same_lists, take_all, take_more}
use Rattle.std.proofs.lemmas.List.Elements.{All-map, All-push, All-same}
use Rattle.ts_packet.specs.declared.cell.Cell.{Cell}
use Rattle.ts_packet.specs.Cells.{Live, Dropped, live_packets, packet_in}
use Rattle.plugin_notes.specs.PidPackets.{numbers_below}
use Rattle.monitor_keys.specs.declared.gap.Gap.{Gap}
use Rattle.monitor_keys.specs.declared.key.Key.{Key}
use Rattle.monitor_keys.specs.declared.key_limit.KeyLimit.{KeyLimit}
use Rattle.monitor_keys.specs.Keys.{gap_on, span_on}
use Rattle.monitor_keys.specs.KeyState.{IsKey, fresh_key}
use Rattle.monitor_keys.specs.Looks.{is_look}
use Rattle.monitor_keys.specs.Named.{BeganAt, begun_at}
use Rattle.monitor_keys.proofs.Keeping.{gap_quiet, key_begun, key_dropped, key_quiet}
use Rattle.monitor_keys.proofs.Naming.{began-here, began-more}
use Rattle.monitor_rows.specs.declared.key_row.KeyRow.{KeyRow}
use Rattle.monitor_rows.specs.declared.row_gap.RowGap.{RowGap}
use Rattle.monitor_rows.specs.declared.row_key.RowKey.{RowKey}
use Rattle.monitor_rows.specs.KeyRows.{RowRule, beginning, gap_at, gap_begun, has_number, is_named, key_of, numbers_named, row_gap, row_gaps, with_packet}
use Rattle.monitor_rows.specs.RowStands.{AreAscending, AreOccurring, HasKeys, IsRow, IsRowKey, MetBelow, SameNames, numbers_in}
use Rattle.monitor_rows.proofs.Numbers.{absent_fails, chosen_are, chosen_ascend, chosen_same, last_chosen}

-- ---- the live packets of cells with one more

live-more : (history : List Cell) (packet : List ℕ) (labels : ℕ) → live_packets (history ++ Live packet labels ∷ []) ≡ live_packets history ++ packet ∷ []
live-more history packet labels = flat_map-append packet_in history (Live packet labels ∷ [])

dropped-more : (history : List Cell) → live_packets (history ++ Dropped ∷ []) ≡ live_packets history
dropped-more history = flat_map-append packet_in history (Dropped ∷ []) ∙ append-nil (live_packets history)

-- its labels make no difference
live-same : (history : List Cell) (packet : List ℕ) (a b k : ℕ)
    → live_packets (take k (history ++ Live packet a ∷ [])) ≡ live_packets (take k (history ++ Live packet b ∷ []))
live-same history packet a b zero = refl
live-same [] packet a b (suc k) = refl
live-same (Live first labels ∷ history) packet a b (suc k) = ap (λ (ps : List (List ℕ)). first ∷ ps) (live-same history packet a b k)
live-same (Dropped ∷ history) packet a b (suc k) = live-same history packet a b k

-- ---- where a key began

beginning_is : (named : List Cell → Bool) (cells : List Cell) (n : ℕ) → BeganAt named cells n → beginning named cells ≡ Some n
beginning_is named cells n began =
    last_chosen (λ k. not (named (take k cells))) (length cells) n began.within (ap not began.before)
    (λ k after before. ap not (began.since k after (omega (arith, before))))

began-relabelled : (rule : RowRule) (n : ℕ) (history : List Cell) (packet : List ℕ) (a b from : ℕ)
    → BeganAt (is_named rule n) (history ++ Live packet a ∷ []) from → BeganAt (is_named rule n) (history ++ Live packet b ∷ []) from
began-relabelled rule n history packet a b from began = record {
  within = omega (arith, began.within, length-append history (Live packet a ∷ []), length-append history (Live packet b ∷ []));
  before = same from ∙ began.before;
  since = λ k after le.
      same k ∙ began.since k after (omega (arith, le, length-append history (Live packet a ∷ []), length-append history (Live packet b ∷ [])));
}
  where
    same : (k : ℕ) → is_named rule n (take k (history ++ Live packet b ∷ [])) ≡ is_named rule n (take k (history ++ Live packet a ∷ []))
    same k = ap (λ (fed : List (List ℕ)). rule.names fed n) (live-same history packet b a k)

-- ---- one key with a packet

-- it has met the packet
pub key_met : (rule : RowRule) (history more cells : List Cell) (n : ℕ) (key new : Key) → IsRowKey rule history cells n key
    → IsKey (begun_at (key_of rule n) key.from) new more → IsRowKey rule more cells n new
key_met rule history more cells n key new w is = record {
  key_is = subst (λ (from : ℕ). IsKey (begun_at (key_of rule n) from) new more) (sym is.from_is) is;
  began = subst (BeganAt (is_named rule n) cells) (sym is.from_is) w.began;
}

-- what is told of it
pub key_told : (rule : RowRule) (history : List Cell) (packet : List ℕ) (labels n : ℕ) (key : Key) (gap : Option Gap)
    → IsRowKey rule history (history ++ Live packet labels ∷ []) n key → gap ≡ gap_on (begun_at (key_of rule n) key.from) history packet
    → map (gap_at n) (option_to_list gap) ≡ row_gap rule history packet n
key_told rule history packet labels n key gap w is =
    ap (λ (g : Option Gap). map (gap_at n) (option_to_list g)) is
    ∙ ap (λ (from : Option ℕ). map (gap_at n) (option_to_list (gap_begun rule history packet n from)))
    (sym (beginning_is (is_named rule n) (with_packet history packet) key.from (began-relabelled rule n history packet labels 0 key.from w.began)))

-- a key of a number, for places behind the last
abbrev pub no_key : RowKey
no_key = record { number = 0; key = fresh_key 0 (record { units = 0; tells_ends = false }) }

pub number_at : (keys : List RowKey) (i : ℕ) (d : RowKey) (e : ℕ) → i < length keys → get_or (numbers_in keys) i e ≡ (get_or keys i d).number
number_at keys i d e within = get_or-map (λ (k : RowKey). k.number) keys i d e within

same-numbers : (old new : List RowKey) → length new ≡ length old → ((i : ℕ) (d : RowKey) → (get_or new i d).number ≡ (get_or old i d).number)
    → numbers_in new ≡ numbers_in old
same-numbers old new whole same =
    same_lists (numbers_in new) (numbers_in old)
    (length-map new (λ (k : RowKey). k.number) ∙ (whole ∙ sym (length-map old (λ (k : RowKey). k.number))))
    (λ i e within.
    let in_new : i < length new = omega (arith, within, length-map new (λ (k : RowKey). k.number)) in
    number_at new i no_key e in_new ∙ (same i no_key ∙ sym (number_at old i no_key e (omega (arith, in_new, whole)))))

-- the key of the number that alone occurs does
pub occurs_alone : (rule : RowRule) (history : List Cell) (packet : List ℕ) (number n : ℕ) → n ≡ number → AreOccurring rule history packet (number ∷ [])
    → true ≡ rule.occurs (live_packets history) packet n
occurs_alone rule history packet number n same occurring =
    sym (ap (λ (b : Bool). b || false) (eq-eqb number n (sym same))) ∙ occurring n

-- a list without numbers has none
pub no_number : (numbers : List ℕ) → length numbers < 1 → (n : ℕ) → has_number numbers n ≡ false
no_number [] none n = refl
no_number (m ∷ ms) none n = absurd (omega (arith, none))

-- ---- the numbers of a row

-- they are named, and below the bound
pub bounded : (rule : RowRule) (row : KeyRow) (history : List Cell) → IsRow rule row history → (i : ℕ) (d : RowKey) → i < length row.keys.items
    → ((get_or row.keys.items i d).number < rule.bound) × (is_named rule (get_or row.keys.items i d).number history ≡ true)
bounded rule row history has i d within =
    subst (λ (n : ℕ). (n < rule.bound) × (is_named rule n history ≡ true)) (ap (λ (ns : List ℕ). get_or ns i 0) (sym has.numbers_are) ∙ number_at row.keys.items i d 0 within)
    (chosen_are (rule.names (live_packets history)) rule.bound i 0
    (omega (arith, within, length-map row.keys.items (λ (k : RowKey). k.number), ap (λ (ns : List ℕ). length ns) has.numbers_are)))

-- one that is named with a cell more goes on
pub still : (rule : RowRule) (row : KeyRow) (history : List Cell) (cell : Cell) → IsRow rule row history → (i : ℕ) (d : RowKey) → i < length row.keys.items
    → is_named rule (get_or row.keys.items i d).number (history ++ cell ∷ []) ≡ is_named rule (get_or row.keys.items i d).number history
    → IsRowKey rule history (history ++ cell ∷ []) (get_or row.keys.items i d).number (get_or row.keys.items i d).key
still rule row history cell has i d within same = record {
  key_is = (has.each i d within).key_is;
  began = began-more (is_named rule (get_or row.keys.items i d).number) history cell
      (same ∙ (bounded rule row history has i d within).1) (get_or row.keys.items i d).key.from (has.each i d within).began;
}

-- the key of a number that is named with a packet: one that is kept
pub goes_on : (rule : RowRule) (row : KeyRow) (history : List Cell) (packet : List ℕ) (labels n : ℕ) → IsRow rule row history → (i : ℕ) (d : RowKey)
    → i < length row.keys.items → (get_or row.keys.items i d).number ≡ n → rule.names (live_packets history ++ packet ∷ []) n ≡ true
    → IsRowKey rule history (history ++ Live packet labels ∷ []) n (get_or row.keys.items i d).key
goes_on rule row history packet labels n has i d within number is =
    subst (λ (m : ℕ). IsRowKey rule history (history ++ Live packet labels ∷ []) m (get_or row.keys.items i d).key) number
    (still rule row history (Live packet labels) has i d within
    (ap (λ (fed : List (List ℕ)). rule.names fed (get_or row.keys.items i d).number) (live-more history packet labels)
    ∙ (ap (rule.names (live_packets history ++ packet ∷ [])) number ∙ (is ∙ sym (bounded rule row history has i d within).1))))

-- or one that begins
pub begins : (rule : RowRule) (row : KeyRow) (history : List Cell) (packet : List ℕ) (labels n at : ℕ) (limit : KeyLimit) (key : Key) → IsRow rule row history
    → limit ≡ row.limit → at ≡ length history → n < rule.bound → All (λ (k : RowKey). k.number ≢ n) row.keys.items
    → rule.names (live_packets history ++ packet ∷ []) n ≡ true → key ≡ fresh_key at limit
    → IsRowKey rule history (history ++ Live packet labels ∷ []) n key
begins rule row history packet labels n at limit key has limit_is here less none is made =
    subst (IsRowKey rule history (history ++ Live packet labels ∷ []) n) (sym made) (record {
      key_is = key_begun (begun_at (key_of rule n) at) history at limit refl (sym has.limit_is ∙ sym limit_is) (sym here);
      began =
          subst (BeganAt (is_named rule n) (history ++ Live packet labels ∷ [])) (sym here)
          (began-here (is_named rule n) history (Live packet labels)
          (ap (λ (fed : List (List ℕ)). rule.names fed n) (live-more history packet labels) ∙ is)
          (absent_fails (rule.names (live_packets history)) rule.bound n less
          (All-same (λ m. m ≢ n) (numbers_named rule (live_packets history)) (numbers_in row.keys.items) (sym has.numbers_are)
          (All-map (λ m. m ≢ n) (λ (k : RowKey). k.number) row.keys.items none))));
    })

-- the key at a place of a row
pub kept_at : (keys : List RowKey) (i : ℕ) (kept d : RowKey) → i < length keys → kept ≡ get_or keys i kept → get_or keys i d ≡ kept
kept_at keys i kept d within is = get_or_default keys i d kept within ∙ sym is

pub met_at : (rule : RowRule) (history more cells : List Cell) (keys : List RowKey) (i : ℕ) (kept : RowKey) (new : Key) (d : RowKey) → i < length keys
    → kept ≡ get_or keys i kept → IsRowKey rule history cells (get_or keys i d).number (get_or keys i d).key
    → (IsKey (begun_at (key_of rule kept.number) kept.key.from) kept.key history → IsKey (begun_at (key_of rule kept.number) kept.key.from) new more)
    → IsRowKey rule more cells (get_or (set keys i (record { number = kept.number; key = new })) i d).number
    (get_or (set keys i (record { number = kept.number; key = new })) i d).key
met_at rule history more cells keys i kept new d within is w meets =
    let kept_w = subst (λ (k : RowKey). IsRowKey rule history cells k.number k.key) (kept_at keys i kept d within is) w in
    subst (λ (k : RowKey). IsRowKey rule more cells k.number k.key) (sym (get_or-set_same keys i (record { number = kept.number; key = new }) d within))
    (key_met rule history more cells kept.number kept.key new kept_w (meets kept_w.key_is))

pub told_at : (rule : RowRule) (history : List Cell) (packet : List ℕ) (labels : ℕ) (keys : List RowKey) (i : ℕ) (kept d : RowKey) (gap : Option Gap)
    (told : List RowGap) → i < length keys → kept ≡ get_or keys i kept
    → IsRowKey rule history (history ++ Live packet labels ∷ []) (get_or keys i d).number (get_or keys i d).key
    → (IsKey (begun_at (key_of rule kept.number) kept.key.from) kept.key history → gap ≡ gap_on (begun_at (key_of rule kept.number) kept.key.from) history packet)
    → told ++ map (gap_at kept.number) (option_to_list gap) ≡ told ++ row_gap rule history packet (get_or keys i d).number
told_at rule history packet labels keys i kept d gap told within is w tells =
    let kept_w = subst (λ (k : RowKey). IsRowKey rule history (history ++ Live packet labels ∷ []) k.number k.key) (kept_at keys i kept d within is) w in
    ap (λ (gs : List RowGap). told ++ gs)
    (key_told rule history packet labels kept.number kept.key gap kept_w (tells kept_w.key_is)
    ∙ ap (λ (k : RowKey). row_gap rule history packet k.number) (sym (kept_at keys i kept d within is)))

-- a write of a key leaves the numbers
pub set_number : (keys : List RowKey) (i : ℕ) (kept : RowKey) (new : Key) (d : RowKey) → i < length keys → kept ≡ get_or keys i kept
    → (get_or (set keys i (record { number = kept.number; key = new })) i d).number ≡ (get_or keys i d).number
set_number keys i kept new d within is =
    ap (λ (k : RowKey). k.number) (get_or-set_same keys i (record { number = kept.number; key = new }) d within)
    ∙ ap (λ (k : RowKey). k.number) (sym (kept_at keys i kept d within is))

-- one that does not occur on a packet without a PCR that is read
key-quiet : (rule : RowRule) (history cells : List Cell) (packet : List ℕ) (labels n : ℕ) (key : Key) → is_look (span_on rule.pcr_pid history packet) ≡ false
    → IsRowKey rule history cells n key → rule.occurs (live_packets history) packet n ≡ false → IsRowKey rule (history ++ Live packet labels ∷ []) cells n key
key-quiet rule history cells packet labels n key no_look w none =
    key_met rule history (history ++ Live packet labels ∷ []) cells n key key w
    (key_quiet (begun_at (key_of rule n) key.from) key history packet labels w.key_is no_look none)

-- ---- all keys of a row

-- the keys of different places have different numbers
apart : (rule : RowRule) (row : KeyRow) (history cells : List Cell) (i j : ℕ) (d : RowKey) → HasKeys rule row history cells → i < length row.keys.items
    → j < length row.keys.items → (j ≡ i → ⊥) → (get_or row.keys.items j d).number ≡ (get_or row.keys.items i d).number → ⊥
apart rule row history cells i j d has in_i in_j other same =
    elim (cases_lt i j) [
      | inl before ↦ omega (arith, below i j before in_j, number_at row.keys.items i d 0 in_i, number_at row.keys.items j d 0 in_j, same)
      | inr behind ↦ omega (arith, below j i (omega (arith, behind, other)) in_i, number_at row.keys.items i d 0 in_i, number_at row.keys.items j d 0 in_j, same)
    ]
  where
    ascend : AreAscending (numbers_in row.keys.items)
    ascend = subst AreAscending (sym has.numbers_are) (chosen_ascend (rule.names (live_packets cells)) rule.bound)

    below : (a b : ℕ) → a < b → b < length row.keys.items → get_or (numbers_in row.keys.items) a 0 < get_or (numbers_in row.keys.items) b 0
    below a b before within = ascend a b 0 before (omega (arith, within, length-map row.keys.items (λ (k : RowKey). k.number)))

pub ascending : (rule : RowRule) (row : KeyRow) (history cells : List Cell) → HasKeys rule row history cells → AreAscending (numbers_in row.keys.items)
ascending rule row history cells has = subst AreAscending (sym has.numbers_are) (chosen_ascend (rule.names (live_packets cells)) rule.bound)

-- up to another bound that is no greater
pub met_to : (rule : RowRule) (history : List Cell) (packet : List ℕ) (labels : ℕ) (old new : List RowKey) (i : ℕ) → length old ≤ i
    → MetBelow rule history packet labels old new i → MetBelow rule history packet labels old new (length old)
met_to rule history packet labels old new i le met = record {
  whole = met.whole;
  same = met.same;
  done = λ j d less. met.done j d (omega (arith, less, le));
  left = λ j d behind. get_or_past new j d (omega (arith, behind, met.whole)) ∙ sym (get_or_past old j d behind);
}

module _ (rule : RowRule) (history : List Cell) (packet : List ℕ) (labels : ℕ) (old : KeyRow)
    (has : HasKeys rule old history (history ++ Live packet labels ∷ [])) where
  -- all keys have met the packet
  pub all_met : (new : KeyRow) → new.limit ≡ old.limit
      → MetBelow rule history packet labels old.keys.items new.keys.items (length old.keys.items) → IsRow rule new (history ++ Live packet labels ∷ [])
  all_met new limit_is met = record {
    limit_is = limit_is ∙ has.limit_is;
    numbers_are = same-numbers old.keys.items new.keys.items met.whole met.same ∙ has.numbers_are;
    each = λ i d within. met.done i d (omega (arith, within, met.whole));
  }

  pub met_none : MetBelow rule history packet labels old.keys.items old.keys.items 0
  met_none = record {
    whole = refl;
    same = λ i d. refl;
    done = λ i d (less : i < 0). absurd (omega (arith, less));
    left = λ i d le. refl;
  }

  -- with the numbers of the packet
  numbers-with : numbers_in old.keys.items ≡ numbers_named rule (live_packets history ++ packet ∷ [])
  numbers-with = has.numbers_are ∙ ap (numbers_named rule) (live-more history packet labels)

  -- the gaps of all of them
  pub all_told : (told : List RowGap) (n : ℕ) → n ≡ length old.keys.items
      → told ≡ flat_map (row_gap rule history packet) (take n (numbers_in old.keys.items)) → told ≡ row_gaps rule history packet
  all_told told n all is =
      is
      ∙ ap (flat_map (row_gap rule history packet))
      (take_all n (numbers_in old.keys.items) (omega (arith, all, length-map old.keys.items (λ (k : RowKey). k.number))) ∙ numbers-with)

  module _ (now : List RowKey) (i : ℕ) (within : i < length old.keys.items) (met : MetBelow rule history packet labels old.keys.items now i) where
    -- the next key is as it was
    pub not_yet : (d : RowKey) → IsRowKey rule history (history ++ Live packet labels ∷ []) (get_or now i d).number (get_or now i d).key
    not_yet d =
        subst (λ (k : RowKey). IsRowKey rule history (history ++ Live packet labels ∷ []) k.number k.key) (sym (met.left i d (omega arith)))
        (has.each i d within)

    pub met_more : (next : List RowKey) → length next ≡ length now → ((j : ℕ) (d : RowKey) → j ≢ i → get_or next j d ≡ get_or now j d)
        → ((d : RowKey) → (get_or next i d).number ≡ (get_or now i d).number)
        → ((d : RowKey) → IsRowKey rule (history ++ Live packet labels ∷ []) (history ++ Live packet labels ∷ []) (get_or next i d).number (get_or next i d).key)
        → MetBelow rule history packet labels old.keys.items next (i + 1)
    met_more next whole others number is = record {
      whole = whole ∙ met.whole;
      same = λ j d. elim (cases_eq j i) as (λ _. (get_or next j d).number ≡ (get_or old.keys.items j d).number) [
        | inl here ↦ subst (λ (k : ℕ). (get_or next k d).number ≡ (get_or old.keys.items k d).number) (sym here) (number d ∙ met.same i d)
        | inr other ↦ ap (λ (k : RowKey). k.number) (others j d other) ∙ met.same j d
      ];
      done = λ j d less.
          elim (cases_eq j i) as (λ _. IsRowKey rule (history ++ Live packet labels ∷ []) (history ++ Live packet labels ∷ []) (get_or next j d).number (get_or next j d).key) [
            | inl here ↦
                subst (λ (k : ℕ). IsRowKey rule (history ++ Live packet labels ∷ []) (history ++ Live packet labels ∷ []) (get_or next k d).number (get_or next k d).key)
                (sym here) (is d)
            | inr other ↦
                subst (λ (k : RowKey). IsRowKey rule (history ++ Live packet labels ∷ []) (history ++ Live packet labels ∷ []) k.number k.key)
                (sym (others j d other)) (met.done j d (omega (arith, less, other)))
          ];
      left = λ j d le.
          let other : j ≡ i → ⊥ = λ same. omega (arith, same, le) in
          others j d other ∙ met.left j d (omega (arith, le));
    }

    pub told_more : (told next : List RowGap) → told ≡ flat_map (row_gap rule history packet) (take i (numbers_in old.keys.items))
        → next ≡ told ++ row_gap rule history packet (get_or now i no_key).number
        → next ≡ flat_map (row_gap rule history packet) (take (i + 1) (numbers_in old.keys.items))
    told_more told next so_far is =
        is
        ∙ (ap (λ (gs : List RowGap). gs ++ row_gap rule history packet (get_or now i no_key).number) so_far
        ∙ (ap (λ (n : ℕ). flat_map (row_gap rule history packet) (take i (numbers_in old.keys.items)) ++ row_gap rule history packet n)
        (met.same i no_key ∙ sym (number_at old.keys.items i no_key 0 within))
        ∙ (ap (λ (gs : List RowGap). flat_map (row_gap rule history packet) (take i (numbers_in old.keys.items)) ++ gs)
        (sym (append-nil (row_gap rule history packet (get_or (numbers_in old.keys.items) i 0))))
        ∙ (sym (flat_map-append (row_gap rule history packet) (take i (numbers_in old.keys.items)) (get_or (numbers_in old.keys.items) i 0 ∷ []))
        ∙ ap (flat_map (row_gap rule history packet))
        (sym (take_more (numbers_in old.keys.items) i 0 (omega (arith, within, length-map old.keys.items (λ (k : RowKey). k.number)))))))))

  -- ---- a packet without a PCR that is read
  module _ (no_look : is_look (span_on rule.pcr_pid history packet) ≡ false) where
    -- on which no key occurs
    pub quiet_row : ((i : ℕ) (d : RowKey) → i < length old.keys.items → rule.occurs (live_packets history) packet (get_or old.keys.items i d).number ≡ false)
        → IsRow rule old (history ++ Live packet labels ∷ [])
    quiet_row none = record {
      limit_is = has.limit_is;
      numbers_are = has.numbers_are;
      each = λ i d within.
          key-quiet rule history (history ++ Live packet labels ∷ []) packet labels (get_or old.keys.items i d).number (get_or old.keys.items i d).key no_look
          (has.each i d within) (none i d within);
    }

    -- on which one does that is not kept
    pub unkept_row : (number : ℕ) → All (λ (k : RowKey). k.number ≢ number) old.keys.items → AreOccurring rule history packet (number ∷ [])
        → IsRow rule old (history ++ Live packet labels ∷ [])
    unkept_row number none occurring = quiet_row (λ i d within.
        sym (occurring (get_or old.keys.items i d).number)
        ∙ ap (λ (b : Bool). b || false) (ne_eqb number (get_or old.keys.items i d).number (λ same. none i d within (sym same))))

    -- on which the key at a place alone does
    pub noted_row : (new : KeyRow) (i : ℕ) (number : ℕ) → i < length old.keys.items → ((d : RowKey) → (get_or old.keys.items i d).number ≡ number)
        → new.limit ≡ old.limit → length new.keys.items ≡ length old.keys.items
        → ((j : ℕ) (d : RowKey) → j ≢ i → get_or new.keys.items j d ≡ get_or old.keys.items j d)
        → ((d : RowKey) → (get_or new.keys.items i d).number ≡ (get_or old.keys.items i d).number)
        → ((d : RowKey) → IsRowKey rule (history ++ Live packet labels ∷ []) (history ++ Live packet labels ∷ []) (get_or new.keys.items i d).number (get_or new.keys.items i d).key)
        → AreOccurring rule history packet (number ∷ []) → IsRow rule new (history ++ Live packet labels ∷ [])
    noted_row new i number within at_place limit_is whole others number_same met occurring = record {
      limit_is = limit_is ∙ has.limit_is;
      numbers_are = same-numbers old.keys.items new.keys.items whole same ∙ has.numbers_are;
      each = λ j d less.
          elim (cases_eq j i) as (λ _. IsRowKey rule (history ++ Live packet labels ∷ []) (history ++ Live packet labels ∷ []) (get_or new.keys.items j d).number (get_or new.keys.items j d).key) [
            | inl here ↦
                subst (λ (k : ℕ). IsRowKey rule (history ++ Live packet labels ∷ []) (history ++ Live packet labels ∷ []) (get_or new.keys.items k d).number (get_or new.keys.items k d).key)
                (sym here) (met d)
            | inr other ↦
                subst (λ (k : RowKey). IsRowKey rule (history ++ Live packet labels ∷ []) (history ++ Live packet labels ∷ []) k.number k.key)
                (sym (others j d other))
                (key-quiet rule history (history ++ Live packet labels ∷ []) packet labels (get_or old.keys.items j d).number (get_or old.keys.items j d).key no_look
                (has.each j d (omega (arith, less, whole)))
                (sym (occurring (get_or old.keys.items j d).number)
                ∙ ap (λ (b : Bool). b || false)
                (ne_eqb number (get_or old.keys.items j d).number
                (λ same. apart rule old history (history ++ Live packet labels ∷ []) i j d has within (omega (arith, less, whole)) other (sym same ∙ sym (at_place d))))))
          ];
    }
      where
        same : (j : ℕ) (d : RowKey) → (get_or new.keys.items j d).number ≡ (get_or old.keys.items j d).number
        same j d = elim (cases_eq j i) as (λ _. (get_or new.keys.items j d).number ≡ (get_or old.keys.items j d).number) [
          | inl here ↦ subst (λ (k : ℕ). (get_or new.keys.items k d).number ≡ (get_or old.keys.items k d).number) (sym here) (number_same d)
          | inr other ↦ ap (λ (k : RowKey). k.number) (others j d other)
        ]

-- nothing is told with it
pub quiet_told : (rule : RowRule) (history : List Cell) (packet : List ℕ) → is_look (span_on rule.pcr_pid history packet) ≡ false → [] ≡ row_gaps rule history packet
quiet_told rule history packet no_look = sym (none (numbers_named rule (live_packets history ++ packet ∷ [])))
  where
    no_gap : (n : ℕ) (from : Option ℕ) → gap_begun rule history packet n from ≡ None
    no_gap n None = refl
    no_gap n (Some from) = gap_quiet (begun_at (key_of rule n) from) history packet no_look

    none : (ns : List ℕ) → flat_map (row_gap rule history packet) ns ≡ []
    none [] = refl
    none (n ∷ ns) =
        ap (λ (g : Option Gap). map (gap_at n) (option_to_list g) ++ flat_map (row_gap rule history packet) ns)
        (no_gap n (beginning (is_named rule n) (with_packet history packet)))
        ∙ none ns

-- ---- tables that come into force

-- a number among those that are named
pub named_at : (rule : RowRule) (fed : List (List ℕ)) (numbers : List ℕ) (i : ℕ) → numbers ≡ numbers_named rule fed → i < length numbers
    → (get_or numbers i 0 < rule.bound) × (rule.names fed (get_or numbers i 0) ≡ true)
named_at rule fed numbers i are within =
    subst (λ (ns : List ℕ). (get_or ns i 0 < rule.bound) × (rule.names fed (get_or ns i 0) ≡ true)) (sym are)
    (chosen_are (rule.names fed) rule.bound i 0 (omega (arith, within, ap (λ (ns : List ℕ). length ns) are)))

-- the numbers of keys with one more
pub numbers_more : (keys : List RowKey) (key : RowKey) (numbers : List ℕ) (i : ℕ) → i < length numbers → numbers_in keys ≡ take i numbers
    → key.number ≡ get_or numbers i 0 → numbers_in (keys ++ key ∷ []) ≡ take (i + 1) numbers
numbers_more keys key numbers i within so_far is =
    map-append (λ (k : RowKey). k.number) keys (key ∷ [])
    ∙ (ap (λ (ns : List ℕ). ns ++ key.number ∷ []) so_far
    ∙ (ap (λ (n : ℕ). take i numbers ++ n ∷ []) is ∙ sym (take_more numbers i 0 within)))

-- keys that stand with one more
pub keys_more : (rule : RowRule) (history cells : List Cell) (keys : List RowKey) (key : RowKey) (n : ℕ)
    → All (λ (k : RowKey). IsRowKey rule history cells k.number k.key) keys → key.number ≡ n → IsRowKey rule history cells n key.key
    → All (λ (k : RowKey). IsRowKey rule history cells k.number k.key) (keys ++ key ∷ [])
keys_more rule history cells keys key n so_far is stands =
    All-push (λ (k : RowKey). IsRowKey rule history cells k.number k.key) keys key so_far
    (subst (λ (m : ℕ). IsRowKey rule history cells m key.key) (sym is) stands)

-- the keys that are named with the packet
pub renamed : (rule : RowRule) (old new : KeyRow) (history : List Cell) (packet : List ℕ) (labels : ℕ) (numbers : List ℕ) → IsRow rule old history
    → new.limit ≡ old.limit → numbers ≡ numbers_named rule (live_packets history ++ packet ∷ []) → numbers_in new.keys.items ≡ numbers
    → All (λ (k : RowKey). IsRowKey rule history (history ++ Live packet labels ∷ []) k.number k.key) new.keys.items
    → HasKeys rule new history (history ++ Live packet labels ∷ [])
renamed rule old new history packet labels numbers has limit_is are same each = record {
  limit_is = limit_is ∙ has.limit_is;
  numbers_are = same ∙ (are ∙ ap (numbers_named rule) (sym (live-more history packet labels)));
  each = each;
}

-- the first keys have the first numbers, and one more
pub agree_more : (keys : List RowKey) (numbers : List ℕ) (i : ℕ) (kept : RowKey) → i < length keys → i < length numbers → kept ≡ get_or keys i kept
    → kept.number ≡ get_or numbers i 0 → numbers_in (take i keys) ≡ take i numbers → numbers_in (take (i + 1) keys) ≡ take (i + 1) numbers
agree_more keys numbers i kept in_keys within kept_is same so_far =
    ap numbers_in (take_more keys i kept in_keys)
    ∙ numbers_more (take i keys) (get_or keys i kept) numbers i within so_far (ap (λ (k : RowKey). k.number) (sym kept_is) ∙ same)

-- where the same keys are named, they are kept
pub kept_names : (rule : RowRule) (row : KeyRow) (history : List Cell) (packet : List ℕ) (labels : ℕ) (numbers : List ℕ) → IsRow rule row history
    → numbers ≡ numbers_named rule (live_packets history ++ packet ∷ []) → numbers_in row.keys.items ≡ numbers
    → HasKeys rule row history (history ++ Live packet labels ∷ [])
kept_names rule row history packet labels numbers has are same =
    renamed rule row row history packet labels numbers has refl are same
    (λ i d within. goes_on rule row history packet labels (get_or row.keys.items i d).number has i d within refl (named i d within))
  where
    named : (i : ℕ) (d : RowKey) → i < length row.keys.items → rule.names (live_packets history ++ packet ∷ []) (get_or row.keys.items i d).number ≡ true
    named i d within =
        subst (λ (n : ℕ). rule.names (live_packets history ++ packet ∷ []) n ≡ true)
        (ap (λ (ns : List ℕ). get_or ns i 0) (sym (same ∙ are)) ∙ number_at row.keys.items i d 0 within)
        (chosen_are (rule.names (live_packets history ++ packet ∷ [])) rule.bound i 0
        (omega (arith, within, length-map row.keys.items (λ (k : RowKey). k.number), ap (λ (ns : List ℕ). length ns) (same ∙ are)))).1

-- before any
pub no_row : (rule : RowRule) (row : KeyRow) → row.limit ≡ rule.limit → row.keys.items ≡ [] → ((n : ℕ) → rule.names [] n ≡ false) → IsRow rule row []
no_row rule row limit_is no_keys none = record {
  limit_is = limit_is;
  numbers_are =
      ap numbers_in no_keys
      ∙ sym (chosen_same (rule.names []) (λ _. false) rule.bound (λ n less. none n) ∙ fails (numbers_below rule.bound));
  each = λ i d within. absurd (omega (arith, within, ap (λ (ks : List RowKey). length ks) no_keys));
}
  where
    fails : (ns : List ℕ) → filter (λ _. false) ns ≡ []
    fails [] = refl
    fails (n ∷ ns) = fails ns

-- the names stay
pub names_stay : (rule : RowRule) (row : KeyRow) (history : List Cell) (packet : List ℕ) (labels : ℕ) → IsRow rule row history → SameNames rule history packet
    → HasKeys rule row history (history ++ Live packet labels ∷ [])
names_stay rule row history packet labels has same = record {
  limit_is = has.limit_is;
  numbers_are = has.numbers_are ∙ sym (ap (numbers_named rule) (live-more history packet labels) ∙ chosen_same (rule.names (live_packets history ++ packet ∷ [])) (rule.names (live_packets history)) rule.bound same);
  each = λ i d within. still rule row history (Live packet labels) has i d within
      (ap (λ (fed : List (List ℕ)). rule.names fed (get_or row.keys.items i d).number) (live-more history packet labels)
      ∙ same (get_or row.keys.items i d).number (bounded rule row history has i d within).0);
}

-- a dropped cell leaves them
pub dropped_row : (rule : RowRule) (row : KeyRow) (history : List Cell) → IsRow rule row history → IsRow rule row (history ++ Dropped ∷ [])
dropped_row rule row history has = record {
  limit_is = has.limit_is;
  numbers_are = has.numbers_are ∙ ap (numbers_named rule) (sym (dropped-more history));
  each = λ i d within.
      key_met rule history (history ++ Dropped ∷ []) (history ++ Dropped ∷ []) (get_or row.keys.items i d).number (get_or row.keys.items i d).key (get_or row.keys.items i d).key
      (still rule row history Dropped has i d within (ap (λ (fed : List (List ℕ)). rule.names fed (get_or row.keys.items i d).number) (dropped-more history)))
      (key_dropped (begun_at (key_of rule (get_or row.keys.items i d).number) (get_or row.keys.items i d).key.from) history (get_or row.keys.items i d).key
      (has.each i d within).key_is);
}
