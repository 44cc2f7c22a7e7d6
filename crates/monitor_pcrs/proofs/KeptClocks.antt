-- Lemmas on what is kept of the last PCR on each PID, cell by cell.
use Rattle.std.proofs.Common.{◌≡◌, ℕ, ◌<◌, List, [], ◌∷◌, ◌++◌, length, get_or, set, ap, sym, ◌∙◌, inl, inr, refl, Bool, if◌then◌else◌, ◌==◌, append-nil, Option, None, Some, arith, get_or-set_same, get_or-set_other, eq-eqb}
use Rattle.std.specs.List.{cons_option, filter_map}
use Rattle.std.proofs.lemmas.List.Elements.{filter_map-append}
use Rattle.std.proofs.lemmas.Bool.{cases_eq, ne_eqb}
use Rattle.ts_packet.specs.declared.numbers.TheConstants.{PID_COUNT}
use Rattle.ts_packet.specs.declared.cell.Cell.{Cell}
use Rattle.ts_packet.specs.Cells.{Live, Dropped}
use Rattle.ts_packet.specs.Header.{pid_of}
use Rattle.ts_packet.specs.MetRows.{Met, met_rows}
use Rattle.ts_packet.proofs.RowLemmas.{met-more}
use Rattle.plug_clock.specs.StreamClock.{time_in}
use Rattle.plug_clock.specs.declared.last_clock.LastClock.{LastClock}
use Rattle.monitor_pcrs.specs.LastPcrs.{Remembers}
use Rattle.monitor_pcrs.specs.PcrErrors.{clock_at, clock_on, clocks_on, last_clock_on, last_in}
use Rattle.monitor_pcrs.specs.declared.pcr_steps.PcrSteps.{PcrSteps}

-- the last one, with no more or one more
last_with : Option LastClock → Option LastClock → Option LastClock
last_with before None = before
last_with before (Some clock) = Some clock

last_in-append : (before : Option LastClock) (clocks : List LastClock) (next : Option LastClock)
    → last_in before (clocks ++ cons_option next []) ≡ last_with (last_in before clocks) next
unfolding last_with
last_in-append before [] None = refl
last_in-append before [] (Some clock) = refl
last_in-append before (clock ∷ clocks) next = last_in-append (Some clock) clocks next

-- a packet at a position, with its position
row_at : ℕ → List ℕ → ℕ → Met
row_at at packet labels = record { at = at; packet = packet; labels = labels }

-- the last PCR on a PID with one packet more
last_clock-live : (pid : ℕ) (history : List Cell) (packet : List ℕ) (labels : ℕ)
    → last_clock_on pid (history ++ Live packet labels ∷ [])
    ≡ last_with (last_clock_on pid history) (if pid_of packet == pid then clock_at (length history) (time_in packet) else None)
unfolding row_at
last_clock-live pid history packet labels =
    ap (last_in None)
    (ap (filter_map (clock_on pid)) (met-more history (Live packet labels))
    ∙ filter_map-append (clock_on pid) (met_rows history) (row_at (length history) packet labels ∷ []))
    ∙ last_in-append None (clocks_on pid history) (clock_on pid (row_at (length history) packet labels))

-- a dropped cell has none
last_clock-dropped : (pid : ℕ) (history : List Cell) → last_clock_on pid (history ++ Dropped ∷ []) ≡ last_clock_on pid history
last_clock-dropped pid history =
    ap (λ (rows : List Met). last_in None (filter_map (clock_on pid) rows)) (met-more history Dropped ∙ append-nil (met_rows history))

-- a packet on another PID has none
last_clock-other : (pid : ℕ) (history : List Cell) (packet : List ℕ) (labels : ℕ) → (pid_of packet ≡ pid → ⊥)
    → last_clock_on pid (history ++ Live packet labels ∷ []) ≡ last_clock_on pid history
unfolding last_with
last_clock-other pid history packet labels other =
    last_clock-live pid history packet labels
    ∙ ap (λ (b : Bool). last_with (last_clock_on pid history) (if b then clock_at (length history) (time_in packet) else None))
    (ne_eqb (pid_of packet) pid other)

-- one on the PID has its own
last_clock-same : (history : List Cell) (packet : List ℕ) (labels : ℕ)
    → last_clock_on (pid_of packet) (history ++ Live packet labels ∷ [])
    ≡ last_with (last_clock_on (pid_of packet) history) (clock_at (length history) (time_in packet))
last_clock-same history packet labels =
    last_clock-live (pid_of packet) history packet labels
    ∙ ap (λ (b : Bool). last_with (last_clock_on (pid_of packet) history) (if b then clock_at (length history) (time_in packet) else None))
    (eq-eqb (pid_of packet) (pid_of packet) refl)

-- before any cell
pub remembers_none : (steps : PcrSteps) → ((pid : ℕ) → get_or steps.clocks pid None ≡ None) → Remembers steps []
remembers_none steps none = record { each = λ pid below. none pid }

module _ (steps : PcrSteps) (history : List Cell) (r : Remembers steps history) where
  -- a dropped cell
  pub remembers_dropped : Remembers steps (history ++ Dropped ∷ [])
  remembers_dropped = record { each = λ pid below. r.each pid below ∙ sym (last_clock-dropped pid history) }

  module _ (packet : List ℕ) (labels : ℕ) where
    -- a packet without a PCR
    pub remembers_without : clock_at (length history) (time_in packet) ≡ None → Remembers steps (history ++ Live packet labels ∷ [])
    unfolding last_with
    remembers_without none = record {
      each = λ pid below.
          r.each pid below
          ∙ sym (elim (cases_eq (pid_of packet) pid) as (λ _. last_clock_on pid (history ++ Live packet labels ∷ []) ≡ last_clock_on pid history) [
            | inl same ↦
                ap (λ (q : ℕ). last_clock_on q (history ++ Live packet labels ∷ [])) (sym same)
                ∙ (last_clock-same history packet labels
                ∙ (ap (last_with (last_clock_on (pid_of packet) history)) none
                ∙ ap (λ (q : ℕ). last_clock_on q history) same))
            | inr other ↦ last_clock-other pid history packet labels other
          ]);
    }

    module _ (clock : LastClock) (has : clock_at (length history) (time_in packet) ≡ Some clock) (below : pid_of packet < PID_COUNT)
        (next : PcrSteps) (set_is : next.clocks ≡ set steps.clocks (pid_of packet) (Some clock)) (whole : length steps.clocks ≡ PID_COUNT) where
      -- at the packet's PID
      at_place : get_or next.clocks (pid_of packet) None ≡ Some clock
      at_place =
          ap (λ (ks : List (Option LastClock)). get_or ks (pid_of packet) None) set_is
          ∙ get_or-set_same steps.clocks (pid_of packet) (Some clock) None (omega (arith, whole, below))

      -- at others
      at_other : (pid : ℕ) → (pid ≡ pid_of packet → ⊥) → get_or next.clocks pid None ≡ get_or steps.clocks pid None
      at_other pid other =
          ap (λ (ks : List (Option LastClock)). get_or ks pid None) set_is
          ∙ get_or-set_other steps.clocks (pid_of packet) pid (Some clock) None other

      -- a packet with a PCR
      pub remembers_live : Remembers next (history ++ Live packet labels ∷ [])
      unfolding last_with
      remembers_live = record {
        each = λ pid pid_below. elim (cases_eq pid (pid_of packet)) as (λ _. get_or next.clocks pid None ≡ last_clock_on pid (history ++ Live packet labels ∷ [])) [
          | inl same ↦
              ap (λ (q : ℕ). get_or next.clocks q None) same
              ∙ (at_place
              ∙ (sym (last_clock-same history packet labels ∙ ap (last_with (last_clock_on (pid_of packet) history)) has)
              ∙ ap (λ (q : ℕ). last_clock_on q (history ++ Live packet labels ∷ [])) (sym same)))
          | inr other ↦
              at_other pid other
              ∙ (r.each pid pid_below
              ∙ sym (last_clock-other pid history packet labels (λ same. other (sym same))))
        ];
      }
