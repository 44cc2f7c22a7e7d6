-- Lemmas on where the last PCR that was read stands.
use Rattle.std.proofs.Common.{◌≡◌, ℕ, ◌+◌, ◌≤◌, List, [], ◌∷◌, length, ap, Bool, true, false, ◌==◌, if◌then◌else◌, Option, None, Some, sym, ◌∙◌, refl, zero-le, arith}
use Rattle.std.proofs.lemmas.Bool.{false≢true}
use Rattle.std.proofs.lemmas.Bool.Decides.{nat_tests}
use Rattle.ts_packet.specs.declared.cell.Cell.{Cell}
use Rattle.ts_packet.specs.Cells.{Live, Dropped}
use Rattle.ts_packet.specs.Header.{error_indicator_of, pid_of}
use Rattle.ts_packet.specs.MetRows.{met_from}
use Rattle.ts_packet.specs.Pcr.{pcr_of}
use Rattle.plug_clock.specs.StreamClock.{clock_after, clock_met, clock_read, clock_start, clock_through, clock_with, reads, time_in}
use Rattle.plug_clock.specs.declared.last_clock.LastClock.{LastClock}
use Rattle.plug_clock.specs.declared.stream_clock.StreamClock.{StreamClock}
use Rattle.monitor_keys.specs.Keys.{KeyRule, behind, open_from, span_on}
use Rattle.monitor_keys.specs.Looks.{is_look, is_read_at}

-- a number is itself
same_number : (n : ℕ) → (n == n) ≡ true
same_number n = grind (arith, nat_tests)

-- a PCR that stands there ends its position
pub behind-at : (at : ℕ) (last : Option LastClock) → is_read_at at last ≡ true → behind last ≡ at + 1
behind-at at None is = absurd (false≢true is)
behind-at at (Some last) is = grind (arith, nat_tests, is)

-- a packet whose PCR is not read leaves the last one
with-same : (clock : StreamClock) (at : ℕ) (packet : List ℕ) (value : Option ℕ) → is_read_at at (clock_with clock at packet value).last ≡ false
    → (clock_with clock at packet value).last ≡ clock.last
with-same clock at packet None not_read = refl
with-same clock at packet (Some value) not_read = by_read (reads clock at (pid_of packet)) not_read
  where
    by_read : (b : Bool) → is_read_at at (if b then clock_read clock at packet value else clock).last ≡ false
        → (if b then clock_read clock at packet value else clock).last ≡ clock.last
    by_read true not_read = absurd (false≢true (sym not_read ∙ same_number at))
    by_read false not_read = refl

pub met-same : (clock : StreamClock) (at : ℕ) (packet : List ℕ) → is_read_at at (clock_met clock at packet).last ≡ false
    → (clock_met clock at packet).last ≡ clock.last
unfolding clock_met
met-same clock at packet not_read = with-same clock at packet (time_in packet) not_read

-- the last PCR stands before the position behind the cells
with-behind : (clock : StreamClock) (at : ℕ) (packet : List ℕ) (value : Option ℕ) → behind clock.last ≤ at → behind (clock_with clock at packet value).last ≤ at + 1
with-behind clock at packet None le = omega (arith, le)
with-behind clock at packet (Some value) le =
    elim (reads clock at (pid_of packet)) as (λ b. behind (if b then clock_read clock at packet value else clock).last ≤ at + 1) [
      | true ↦ omega arith
      | false ↦ omega (arith, le)
    ]

pub met-behind : (clock : StreamClock) (at : ℕ) (packet : List ℕ) → behind clock.last ≤ at → behind (clock_met clock at packet).last ≤ at + 1
unfolding clock_met
met-behind clock at packet le = with-behind clock at packet (time_in packet) le

through-behind : (clock : StreamClock) (start : ℕ) (cells : List Cell) → behind clock.last ≤ start
    → behind (clock_through clock (met_from start cells)).last ≤ start + length cells
through-behind clock start [] le = omega (arith, le)
through-behind clock start (Live packet labels ∷ cells) le =
    omega (arith, through-behind (clock_met clock start packet) (start + 1) cells (met-behind clock start packet le))
through-behind clock start (Dropped ∷ cells) le =
    omega (arith, through-behind clock (start + 1) cells (omega (arith, le)))

pub after-behind : (pid : Option ℕ) (cells : List Cell) → behind (clock_after pid cells).last ≤ length cells
unfolding clock_after
after-behind pid cells = omega (arith, through-behind (clock_start pid) 0 cells zero-le)

-- from where on occurrences have not been looked at
pub open-least : (rule : KeyRule) (last : Option LastClock) → behind last ≤ open_from rule last
open-least rule last = grind (arith, nat_tests)

pub open-most : (rule : KeyRule) (last : Option LastClock) (n : ℕ) → rule.from ≤ n → behind last ≤ n → open_from rule last ≤ n
open-most rule last n begun le = grind (arith, nat_tests, begun, le)

pub open-from : (rule : KeyRule) (last : Option LastClock) → rule.from ≤ open_from rule last
open-from rule last = grind (arith, nat_tests)

-- a packet with a transport_error_indicator has no PCR that is read
errored-same : (clock : StreamClock) (at : ℕ) (packet : List ℕ) → error_indicator_of packet ≡ true → clock_met clock at packet ≡ clock
unfolding clock_met
errored-same clock at packet errored = ap (λ (b : Bool). clock_with clock at packet (if b then None else pcr_of packet)) errored

not-read : (at : ℕ) (last : Option LastClock) → behind last ≤ at → is_read_at at last ≡ false
not-read at None le = refl
not-read at (Some last) le = grind (arith, nat_tests, le)

pub errored-no_look : (pid : Option ℕ) (history : List Cell) (packet : List ℕ) → error_indicator_of packet ≡ true
    → is_look (span_on pid history packet) ≡ false
errored-no_look pid history packet errored =
    ap (λ (clock : StreamClock). is_read_at (length history) clock.last) (errored-same (clock_after pid history) (length history) packet errored)
    ∙ not-read (length history) (clock_after pid history).last (after-behind pid history)
