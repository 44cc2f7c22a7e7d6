-- Lemmas on what is kept of PIDs to which no table refers, cell by cell and PID by PID.
use Rattle.std.proofs.Common.{◌≡◌, ℕ, zero, suc, ◌+◌, ◌<◌, List, [], ◌∷◌, ◌++◌, length, filter, get_or, set, ap, sym, subst, ◌∙◌, inl, inr, refl, Bool, true, false, ◌&&◌, not, if◌then◌else◌, append-nil, append_assoc, Option, arith, get_or-set_same, get_or-set_other}
use Rattle.std.proofs.lemmas.List.Elements.{filter-append}
use Rattle.std.proofs.lemmas.Bool.{cases_eq, ne_eqb}
use Rattle.ts_packet.specs.declared.numbers.TheConstants.{PID_COUNT}
use Rattle.ts_packet.specs.declared.cell.Cell.{Cell}
use Rattle.ts_packet.specs.Cells.{Live, Dropped, live_packets}
use Rattle.ts_packet.specs.Header.{error_indicator_of, pid_of}
use Rattle.plugin_notes.specs.PidPackets.{numbers_below}
use Rattle.plug_psi.specs.Referred.{refers}
use Rattle.monitor_keys.specs.Keys.{span_on}
use Rattle.monitor_keys.specs.Looks.{is_look}
use Rattle.monitor_keys.specs.declared.span.Span.{Span}
use Rattle.monitor_orphans.specs.OrphanRow.{Follows, IsWithin, LookedBelow, met_in, told_below, told_in}
use Rattle.monitor_orphans.specs.Orphans.{is_on, is_told_on, is_told_with, looked, met, orphan_after, orphan_from, orphan_with, orphans_on, refers_with}
use Rattle.monitor_orphans.specs.declared.orphan.Orphan.{Orphan}
use Rattle.monitor_orphans.specs.declared.orphan.Orphan.TheVariants.{Unmet}
use Rattle.monitor_orphans.specs.declared.orphans.Orphans.{Orphans}

-- what is kept of a PID after a packet more
turned : Option ℕ → ℕ → List ℕ → Orphan → List Cell → Orphan
turned pcr_pid pid packet kept history =
    orphan_with (span_on pcr_pid history packet) (is_on pid packet) (refers_with history packet pid) kept

from-live : (pcr_pid : Option ℕ) (pid : ℕ) (history : List Cell) (kept : Orphan) (cells : List Cell) (packet : List ℕ) (labels : ℕ)
    → orphan_from pcr_pid pid history kept (cells ++ Live packet labels ∷ [])
    ≡ turned pcr_pid pid packet (orphan_from pcr_pid pid history kept cells) (history ++ cells)
unfolding turned
from-live pcr_pid pid history kept [] packet labels = ap (turned pcr_pid pid packet kept) (sym (append-nil history))
from-live pcr_pid pid history kept (Live first marks ∷ cells) packet labels =
    from-live pcr_pid pid (history ++ Live first marks ∷ []) (turned pcr_pid pid first kept history) cells packet labels
    ∙ ap (turned pcr_pid pid packet (orphan_from pcr_pid pid (history ++ Live first marks ∷ []) (turned pcr_pid pid first kept history) cells))
    (append_assoc history (Live first marks ∷ []) cells)
from-live pcr_pid pid history kept (Dropped ∷ cells) packet labels =
    from-live pcr_pid pid (history ++ Dropped ∷ []) kept cells packet labels
    ∙ ap (turned pcr_pid pid packet (orphan_from pcr_pid pid (history ++ Dropped ∷ []) kept cells)) (append_assoc history (Dropped ∷ []) cells)

from-dropped : (pcr_pid : Option ℕ) (pid : ℕ) (history : List Cell) (kept : Orphan) (cells : List Cell)
    → orphan_from pcr_pid pid history kept (cells ++ Dropped ∷ []) ≡ orphan_from pcr_pid pid history kept cells
from-dropped pcr_pid pid history kept [] = refl
from-dropped pcr_pid pid history kept (Live first marks ∷ cells) =
    from-dropped pcr_pid pid (history ++ Live first marks ∷ [])
    (orphan_with (span_on pcr_pid history first) (is_on pid first) (refers_with history first pid) kept) cells
from-dropped pcr_pid pid history kept (Dropped ∷ cells) = from-dropped pcr_pid pid (history ++ Dropped ∷ []) kept cells

after-live : (pcr_pid : Option ℕ) (pid : ℕ) (history : List Cell) (packet : List ℕ) (labels : ℕ)
    → orphan_after pcr_pid pid (history ++ Live packet labels ∷ [])
    ≡ orphan_with (span_on pcr_pid history packet) (is_on pid packet) (refers_with history packet pid) (orphan_after pcr_pid pid history)
unfolding turned
after-live pcr_pid pid history packet labels = from-live pcr_pid pid [] Unmet history packet labels

-- ---- lists of PIDs

-- two tests that agree on the numbers below a bound choose the same ones
pub chosen-same : (f g : ℕ → Bool) (bound : ℕ) → ((n : ℕ) → n < bound → f n ≡ g n) → filter f (numbers_below bound) ≡ filter g (numbers_below bound)
unfolding numbers_below
chosen-same f g zero same = refl
chosen-same f g (suc n) same =
    filter-append f (numbers_below n) (n ∷ [])
    ∙ (ap (λ (xs : List ℕ). xs ++ filter f (n ∷ [])) (chosen-same f g n (λ m less. same m (omega (arith, less))))
    ∙ (ap (λ (b : Bool). filter g (numbers_below n) ++ (if b then n ∷ [] else [])) (same n (omega arith))
    ∙ sym (filter-append g (numbers_below n) (n ∷ []))))

-- a test that no number passes
pub chosen-none : (xs : List ℕ) → filter (λ _. false) xs ≡ []
chosen-none [] = refl
chosen-none (x ∷ xs) = chosen-none xs

-- the numbers below the next bound
pub chosen-next : (f : ℕ → Bool) (n : ℕ) → filter f (numbers_below (n + 1)) ≡ filter f (numbers_below n) ++ (if f n then n ∷ [] else [])
unfolding numbers_below
chosen-next f n =
    ap (λ (m : ℕ). filter f (numbers_below m)) (let next : n + 1 ≡ suc n = omega arith in next)
    ∙ filter-append f (numbers_below n) (n ∷ [])

-- ---- one PID

-- what was set of a PID
pub set_met : (span : Span) (packet : List ℕ) (fed : List (List ℕ)) (old next : List Orphan) (pid : ℕ) (kept value : Orphan) (on referred : Bool)
    → next ≡ set old pid value → value ≡ orphan_with span on referred kept → kept ≡ get_or old pid Unmet → on ≡ is_on pid packet
    → referred ≡ refers fed pid → next ≡ set old pid (met_in span packet fed old pid)
set_met span packet fed old next pid kept value on referred is value_is kept_is on_is referred_is =
    is
    ∙ ap (set old pid)
    (value_is
    ∙ (ap (λ (k : Orphan). orphan_with span on referred k) kept_is
    ∙ (ap (λ (b : Bool). orphan_with span b referred (get_or old pid Unmet)) on_is
    ∙ ap (λ (b : Bool). orphan_with span (is_on pid packet) b (get_or old pid Unmet)) referred_is)))

-- whether it is told
pub told_met : (span : Span) (packet : List ℕ) (fed : List (List ℕ)) (old : List Orphan) (pid : ℕ) (kept : Orphan) (tells on referred : Bool)
    → tells ≡ is_told_with span on referred kept → kept ≡ get_or old pid Unmet → on ≡ is_on pid packet → referred ≡ refers fed pid
    → tells ≡ told_in span packet fed old pid
told_met span packet fed old pid kept tells on referred is kept_is on_is referred_is =
    is
    ∙ (ap (λ (k : Orphan). is_told_with span on referred k) kept_is
    ∙ (ap (λ (b : Bool). is_told_with span b referred (get_or old pid Unmet)) on_is
    ∙ ap (λ (b : Bool). is_told_with span (is_on pid packet) b (get_or old pid Unmet)) referred_is))

-- ---- a PCR that is read

module _ (span : Span) (packet : List ℕ) (fed : List (List ℕ)) (old : List Orphan) where
  module _ (now next : List Orphan) (n : ℕ) (below : LookedBelow span packet fed old now n) where
    -- the PID was not turned before
    met-left : met_in span packet fed now n ≡ met_in span packet fed old n
    met-left = ap (orphan_with span (is_on n packet) (refers fed n)) (below.left n (omega arith))

    pub told-left : told_in span packet fed now n ≡ told_in span packet fed old n
    told-left = ap (is_told_with span (is_on n packet) (refers fed n)) (below.left n (omega arith))

    module _ (within : n < length now) (set_is : next ≡ set now n (met_in span packet fed now n)) where
      at_place : get_or next n Unmet ≡ met_in span packet fed old n
      at_place = ap (λ (ks : List Orphan). get_or ks n Unmet) set_is ∙ (get_or-set_same now n (met_in span packet fed now n) Unmet within ∙ met-left)

      at_other : (pid : ℕ) → (pid ≡ n → ⊥) → get_or next pid Unmet ≡ get_or now pid Unmet
      at_other pid other =
          ap (λ (ks : List Orphan). get_or ks pid Unmet) set_is ∙ get_or-set_other now n pid (met_in span packet fed now n) Unmet other

      -- with one PID more
      pub looked_more : LookedBelow span packet fed old next (n + 1)
      looked_more = record {
        done = λ pid less. elim (cases_eq pid n) as (λ _. get_or next pid Unmet ≡ met_in span packet fed old pid) [
          | inl same ↦ subst (λ (q : ℕ). get_or next q Unmet ≡ met_in span packet fed old q) (sym same) at_place
          | inr other ↦ at_other pid other ∙ below.done pid (omega (arith, less, other))
        ];
        left = λ pid le.
            let apart : pid ≡ n → ⊥ = λ same. omega (arith, le, same) in
            at_other pid apart ∙ below.left pid (omega (arith, le));
      }

      pub told_more : (told : List ℕ) (is : Bool) → told ≡ told_below span packet fed old n → is ≡ told_in span packet fed now n
          → told ++ (if is then n ∷ [] else []) ≡ told_below span packet fed old (n + 1)
      told_more told is so_far tells =
          ap (λ (xs : List ℕ). xs ++ (if is then n ∷ [] else [])) so_far
          ∙ (ap (λ (b : Bool). told_below span packet fed old n ++ (if b then n ∷ [] else [])) (tells ∙ told-left)
          ∙ sym (chosen-next (told_in span packet fed old) n))

-- ---- what follows the cells

and_false : (a b : Bool) → a ≡ false → (a && b) ≡ false
and_false true b e = cc
and_false false b e = refl

quiet-other : (span : Span) (on referred : Bool) (kept : Orphan) → is_look span ≡ false → on ≡ false → orphan_with span on referred kept ≡ kept
quiet-other span on referred kept no_look no_packet =
    ap (λ (b : Bool). if b then (if referred then Unmet else looked span (met span.at on referred kept)) else met span.at on referred kept) no_look
    ∙ ap (λ (b : Bool). met span.at b referred kept) no_packet

pub follows_none : (pcr_pid : Option ℕ) (kept : Orphans) → ((pid : ℕ) → get_or kept.pids pid Unmet ≡ Unmet) → Follows pcr_pid kept []
follows_none pcr_pid kept none = record {
  each = λ pid below. none pid;
  within = record { below = λ pid less. none pid; above = λ pid le. none pid };
}

module _ (pcr_pid : Option ℕ) (kept : Orphans) (history : List Cell) (r : Follows pcr_pid kept history) where
  -- a dropped cell
  pub follows_dropped : Follows pcr_pid kept (history ++ Dropped ∷ [])
  follows_dropped = record { each = λ pid below. r.each pid below ∙ sym (from-dropped pcr_pid pid [] Unmet history); within = r.within }

  module _ (span : Span) (packet : List ℕ) (is : span ≡ span_on pcr_pid history packet) where
    -- of each PID
    met-after : (pid : ℕ) (labels : ℕ) → pid < PID_COUNT
        → met_in span packet (live_packets history ++ packet ∷ []) kept.pids pid ≡ orphan_after pcr_pid pid (history ++ Live packet labels ∷ [])
    met-after pid labels below =
        ap (λ (s : Span). met_in s packet (live_packets history ++ packet ∷ []) kept.pids pid) is
        ∙ (ap (orphan_with (span_on pcr_pid history packet) (is_on pid packet) (refers_with history packet pid)) (r.each pid below)
        ∙ sym (after-live pcr_pid pid history packet labels))

    told-on : (pid : ℕ) → pid < PID_COUNT
        → told_in span packet (live_packets history ++ packet ∷ []) kept.pids pid ≡ is_told_on pcr_pid history packet pid
    told-on pid below =
        ap (λ (s : Span). told_in s packet (live_packets history ++ packet ∷ []) kept.pids pid) is
        ∙ ap (is_told_with (span_on pcr_pid history packet) (is_on pid packet) (refers_with history packet pid)) (r.each pid below)

    -- with a PCR that is read
    pub follows_look : (next : Orphans) (labels : ℕ) → LookedBelow span packet (live_packets history ++ packet ∷ []) kept.pids next.pids PID_COUNT
        → IsWithin next.reach next.pids → Follows pcr_pid next (history ++ Live packet labels ∷ [])
    follows_look next labels looked within = record { each = λ pid below. looked.done pid below ∙ met-after pid labels below; within = within }

    pub told_look : told_below span packet (live_packets history ++ packet ∷ []) kept.pids PID_COUNT ≡ orphans_on pcr_pid history packet
    told_look = chosen-same (told_in span packet (live_packets history ++ packet ∷ []) kept.pids) (is_told_on pcr_pid history packet) PID_COUNT told-on

    -- without one
    module _ (no_look : is_look span ≡ false) where
      no_look_on : is_look (span_on pcr_pid history packet) ≡ false
      no_look_on = sym (ap is_look is) ∙ no_look

      pub told_quiet : [] ≡ orphans_on pcr_pid history packet
      told_quiet =
          sym (chosen-same (is_told_on pcr_pid history packet) (λ _. false) PID_COUNT
          (λ pid below. and_false (is_look (span_on pcr_pid history packet)) _ no_look_on)
          ∙ chosen-none (numbers_below PID_COUNT))

      -- a PID that the packet is not on is left as it is
      left-other : (pid : ℕ) → (pid_of packet ≡ pid → ⊥) → met_in span packet (live_packets history ++ packet ∷ []) kept.pids pid ≡ get_or kept.pids pid Unmet
      left-other pid other = quiet-other span (is_on pid packet) (refers (live_packets history ++ packet ∷ []) pid) (get_or kept.pids pid Unmet) no_look
          (ap (λ (b : Bool). b && not (error_indicator_of packet)) (ne_eqb (pid_of packet) pid other))

      pub follows_quiet : (next : Orphans) (labels n : ℕ) → n ≡ pid_of packet → n < PID_COUNT → length kept.pids ≡ PID_COUNT
          → next.pids ≡ set kept.pids n (met_in span packet (live_packets history ++ packet ∷ []) kept.pids n)
          → IsWithin next.reach next.pids → Follows pcr_pid next (history ++ Live packet labels ∷ [])
      follows_quiet next labels n on_pid within whole set_is reach_is = record {
        within = reach_is;
        each = λ pid below. elim (cases_eq pid n) as (λ _. get_or next.pids pid Unmet ≡ orphan_after pcr_pid pid (history ++ Live packet labels ∷ [])) [
          | inl same ↦
              ap (λ (ks : List Orphan). get_or ks pid Unmet) set_is
              ∙ (ap (λ (q : ℕ). get_or (set kept.pids n (met_in span packet (live_packets history ++ packet ∷ []) kept.pids n)) q Unmet) same
              ∙ (get_or-set_same kept.pids n (met_in span packet (live_packets history ++ packet ∷ []) kept.pids n) Unmet (omega (arith, whole, within))
              ∙ (met-after n labels within
              ∙ ap (λ (q : ℕ). orphan_after pcr_pid q (history ++ Live packet labels ∷ [])) (sym same))))
          | inr other ↦
              ap (λ (ks : List Orphan). get_or ks pid Unmet) set_is
              ∙ (get_or-set_other kept.pids n pid (met_in span packet (live_packets history ++ packet ∷ []) kept.pids n) Unmet other
              ∙ (sym (left-other pid (λ same. other (sym (on_pid ∙ same))))
              ∙ met-after pid labels below))
        ];
      }
