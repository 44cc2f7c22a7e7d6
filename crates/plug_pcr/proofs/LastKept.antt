-- Lemmas on what is kept of the last PCR on each PID, cell by cell.
use Rattle.std.proofs.Common.{◌≡◌, ℕ, ◌-◌, ◌<◌, ◌≤◌, List, [], ◌∷◌, ◌++◌, length, filter, get_or, set, ap, ap₂, sym, subst, ◌∙◌, inl, inr, refl, Bool, true, false, ◌&&◌, if◌then◌else◌, ◌==◌, append-nil, Option, None, Some, option_map, slice_get, arith, length-append, get_or-set_same, get_or-set_other, eq-eqb}
use Rattle.std.proofs.lemmas.List.Elements.{filter-append}
use Rattle.std.proofs.lemmas.Bool.{cases_eq, ne_eqb}
use Rattle.std.proofs.lemmas.Option.{slice_get-get_or}
use Rattle.std.proofs.Math.Seq.{get_or-append_seam}
use Rattle.ts_packet.specs.declared.numbers.TheConstants.{PID_COUNT}
use Rattle.ts_packet.specs.declared.cell.Cell.{Cell}
use Rattle.ts_packet.specs.Cells.{Live, Dropped}
use Rattle.ts_packet.specs.Header.{pid_of}
use Rattle.ts_packet.specs.MetRows.{Met, met_rows}
use Rattle.ts_packet.specs.Pcr.{clock_of, has_pcr_of}
use Rattle.ts_packet.proofs.RowLemmas.{met-more}
use Rattle.plugin_options.specs.Selection.{is_selected}
use Rattle.plug_pcr.specs.ClockFaults.{clocks_on, has_clock_on, is_clocked}
use Rattle.plug_pcr.specs.LastClocks.{IsEarlier, Remembers, kept_of, kept_on}
use Rattle.plug_clock.specs.declared.last_clock.LastClock.{LastClock}
use Rattle.plug_pcr.specs.declared.last_clocks.LastClocks.{LastClocks}
use Rattle.plug_pcr.specs.declared.pcrverify_conf.PcrverifyConf.{PcrverifyConf}

-- the last item of a list with one more item is that one
last_seam : {X : Type 0} (xs : List X) (x : X) → slice_get (xs ++ x ∷ []) (length (xs ++ x ∷ []) - 1) ≡ Some x
last_seam {X} xs x =
    ap (slice_get (xs ++ x ∷ [])) (let same : length (xs ++ x ∷ []) - 1 ≡ length xs = omega (arith, length-append xs (x ∷ [])) in same)
    ∙ (slice_get-get_or (xs ++ x ∷ []) (length xs) x (let more : length xs < length (xs ++ x ∷ []) = omega (arith, length-append xs (x ∷ [])) in more)
    ∙ ap (λ (y : X). let s : Option X = Some y in s) (get_or-append_seam xs x [] x))

-- the last of the packets, as it is kept
last_kept : List Met → Option LastClock
last_kept rows = option_map kept_of (slice_get rows (length rows - 1))

-- a packet at a position, with its position
row_at : ℕ → List ℕ → ℕ → Met
row_at at packet labels = record { at = at; packet = packet; labels = labels }

-- the packets with a PCR on a PID with one cell more
clocks_on-live : (pid : ℕ) (history : List Cell) (packet : List ℕ) (labels : ℕ)
    → clocks_on pid (history ++ Live packet labels ∷ [])
    ≡ clocks_on pid history ++ (if (pid_of packet == pid) && has_pcr_of packet then row_at (length history) packet labels ∷ [] else [])
unfolding row_at
clocks_on-live pid history packet labels =
    ap (filter (has_clock_on pid)) (met-more history (Live packet labels))
    ∙ filter-append (has_clock_on pid) (met_rows history) (row_at (length history) packet labels ∷ [])

-- a dropped cell is none
pub kept_dropped : (pid : ℕ) (history : List Cell) → kept_on pid (history ++ Dropped ∷ []) ≡ kept_on pid history
unfolding last_kept
kept_dropped pid history = ap (λ (rows : List Met). last_kept (filter (has_clock_on pid) rows)) (met-more history Dropped ∙ append-nil (met_rows history))

-- nor is a packet without a PCR or on another PID
pub kept_other : (pid : ℕ) (history : List Cell) (packet : List ℕ) (labels : ℕ) → ((pid_of packet == pid) && has_pcr_of packet) ≡ false
    → kept_on pid (history ++ Live packet labels ∷ []) ≡ kept_on pid history
unfolding last_kept
kept_other pid history packet labels none =
    ap last_kept
    (clocks_on-live pid history packet labels
    ∙ (ap (λ (b : Bool). clocks_on pid history ++ (if b then row_at (length history) packet labels ∷ [] else [])) none
    ∙ append-nil (clocks_on pid history)))

-- a packet with a PCR is kept
pub kept_with : (history : List Cell) (packet : List ℕ) (labels : ℕ) → has_pcr_of packet ≡ true
    → kept_on (pid_of packet) (history ++ Live packet labels ∷ []) ≡ (let s : Option LastClock = Some (record { at = length history; clock = clock_of packet }) in s)
unfolding last_kept row_at
kept_with history packet labels has =
    let rows = clocks_on (pid_of packet) history in
    let row = row_at (length history) packet labels in
    ap last_kept
    (clocks_on-live (pid_of packet) history packet labels
    ∙ ap (λ (b : Bool). rows ++ (if b then row ∷ [] else []))
    (ap₂ (λ (a b : Bool). a && b) (eq-eqb (pid_of packet) (pid_of packet) refl) has))
    ∙ ap (option_map kept_of) (last_seam rows row)

-- what is at most a position is at most a later one
later : (n m : ℕ) → n ≤ m → (kept : Option LastClock) → IsEarlier n kept → IsEarlier m kept
later n m le None earlier = earlier
later n m le (Some last) earlier = let so : last.at ≤ m = omega (arith, earlier, le) in so

-- a packet that is not checked has no PCR on a checked PID
not_on : (conf : PcrverifyConf) (packet : List ℕ) (pid : ℕ) → is_selected conf.pid false pid ≡ true → is_clocked conf packet ≡ false
    → ((pid_of packet == pid) && has_pcr_of packet) ≡ false
not_on conf packet pid selected none =
    elim (cases_eq (pid_of packet) pid) [
      | inl same ↦
          let its : is_selected conf.pid false (pid_of packet) ≡ true = ap (is_selected conf.pid false) same ∙ selected in
          let without : has_pcr_of packet ≡ false = sym (ap (λ (a : Bool). a && has_pcr_of packet) its) ∙ none in
          ap₂ (λ (a b : Bool). a && b) (eq-eqb (pid_of packet) pid same) without
      | inr other ↦ ap (λ (a : Bool). a && has_pcr_of packet) (ne_eqb (pid_of packet) pid other)
    ]

-- what was set for the packet at a position
pub set_at_packet : (clocks clocks_new : List (Option LastClock)) (packet : List ℕ) (history : List Cell) (pid at clock : ℕ)
    → clocks_new ≡ set clocks pid (let s : Option LastClock = Some (record { at = at; clock = clock }) in s)
    → pid ≡ pid_of packet → length history ≡ at → clock ≡ clock_of packet
    → clocks_new ≡ set clocks (pid_of packet) (let s : Option LastClock = Some (record { at = length history; clock = clock_of packet }) in s)
set_at_packet clocks clocks_new packet history pid at clock is pid_is count clock_is =
    is
    ∙ (ap (λ (q : ℕ). set clocks q (let s : Option LastClock = Some (record { at = at; clock = clock }) in s)) pid_is
    ∙ (ap (λ (n : ℕ). set clocks (pid_of packet) (let s : Option LastClock = Some (record { at = n; clock = clock }) in s)) (sym count)
    ∙ ap (λ (k : ℕ). set clocks (pid_of packet) (let s : Option LastClock = Some (record { at = length history; clock = k }) in s)) clock_is))

-- if nothing was kept
pub remembers_none : (conf : PcrverifyConf) (last : LastClocks) → ((pid : ℕ) → get_or last.clocks pid None ≡ None)
    → Remembers conf last []
remembers_none conf last none = record {
  table = record { earlier = λ pid. subst (IsEarlier 0) (sym (none pid)) tt };
  each = λ pid below selected. none pid;
}

module _ (conf : PcrverifyConf) (last : LastClocks) (history : List Cell) (r : Remembers conf last history) where
  -- with one more cell
  one_more : (cell : Cell) → length history ≤ length (history ++ cell ∷ [])
  one_more cell = omega (arith, length-append history (cell ∷ []))

  -- a cell that changes nothing of what is kept
  remembers_cell : (cell : Cell) → ((pid : ℕ) → is_selected conf.pid false pid ≡ true → kept_on pid (history ++ cell ∷ []) ≡ kept_on pid history)
      → Remembers conf last (history ++ cell ∷ [])
  remembers_cell cell same = record {
    table = record {
      earlier = λ pid. later (length history) (length (history ++ cell ∷ [])) (one_more cell) (get_or last.clocks pid None) (r.table.earlier pid);
    };
    each = λ pid below selected. r.each pid below selected ∙ sym (same pid selected);
  }

  -- a dropped cell
  pub remembers_dropped : Remembers conf last (history ++ Dropped ∷ [])
  remembers_dropped = remembers_cell Dropped (λ pid selected. kept_dropped pid history)

  -- a packet that is not checked
  pub remembers_other : (packet : List ℕ) (labels : ℕ) → is_clocked conf packet ≡ false → Remembers conf last (history ++ Live packet labels ∷ [])
  remembers_other packet labels none =
      remembers_cell (Live packet labels) (λ pid selected. kept_other pid history packet labels (not_on conf packet pid selected none))

  module _ (packet : List ℕ) (labels : ℕ) (last_new : LastClocks) (has : has_pcr_of packet ≡ true) (below : pid_of packet < PID_COUNT)
      (set_is : last_new.clocks
      ≡ set last.clocks (pid_of packet) (let s : Option LastClock = Some (record { at = length history; clock = clock_of packet }) in s))
      (whole : length last.clocks ≡ PID_COUNT) where
    -- at the packet's PID
    at_place : get_or last_new.clocks (pid_of packet) None ≡ (let s : Option LastClock = Some (record { at = length history; clock = clock_of packet }) in s)
    at_place =
        ap (λ (ks : List (Option LastClock)). get_or ks (pid_of packet) None) set_is
        ∙ get_or-set_same last.clocks (pid_of packet) _ None (omega (arith, whole, below))

    -- at others
    at_other : (pid : ℕ) → (pid ≡ pid_of packet → ⊥) → get_or last_new.clocks pid None ≡ get_or last.clocks pid None
    at_other pid other =
        ap (λ (ks : List (Option LastClock)). get_or ks pid None) set_is
        ∙ get_or-set_other last.clocks (pid_of packet) pid _ None other

    -- a packet with a PCR is kept
    pub remembers_live : Remembers conf last_new (history ++ Live packet labels ∷ [])
    remembers_live =
        let next = history ++ Live packet labels ∷ [] in
        record {
          table = record {
            earlier = λ pid. elim (cases_eq pid (pid_of packet)) [
              | inl same ↦ subst (IsEarlier (length next)) (sym (ap (λ (q : ℕ). get_or last_new.clocks q None) same ∙ at_place)) (one_more (Live packet labels))
              | inr other ↦ subst (IsEarlier (length next)) (sym (at_other pid other))
                  (later (length history) (length next) (one_more (Live packet labels)) (get_or last.clocks pid None) (r.table.earlier pid))
            ];
          };
          each = λ pid pid_below selected. elim (cases_eq pid (pid_of packet)) [
            | inl same ↦ subst (λ (q : ℕ). get_or last_new.clocks q None ≡ kept_on q next) (sym same)
                (at_place ∙ sym (kept_with history packet labels has))
            | inr other ↦
                at_other pid other
                ∙ (r.each pid pid_below selected
                ∙ sym (kept_other pid history packet labels (ap (λ (a : Bool). a && has_pcr_of packet) (ne_eqb (pid_of packet) pid (λ same. other (sym same))))))
          ];
        }
