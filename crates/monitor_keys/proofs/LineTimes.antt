-- Lemmas on the time up to a packet, which is that of the line clock.
use Rattle.std.proofs.Common.{◌≡◌, ℕ, ◌+◌, ◌<◌, ◌≤◌, List, [], ◌∷◌, ◌++◌, length, Bool, true, false, nat_le, if◌then◌else◌, append_assoc, append-nil, Option, None, Some, is_some, ap, sym, subst, ◌∙◌, refl, arith}
use Rattle.std.specs.List.{last_or}
use Rattle.std.proofs.lemmas.Bool.{false≢true}
use Rattle.std.proofs.lemmas.Bool.Decides.{nat_tests}
use Rattle.ts_packet.specs.declared.cell.Cell.{Cell}
use Rattle.ts_packet.specs.Cells.{Live, Dropped}
use Rattle.ts_packet.specs.Header.{pid_of}
use Rattle.ts_packet.specs.MetRows.{Met, met_from, met_rows}
use Rattle.ts_packet.proofs.RowLemmas.{met-more}
use Rattle.plug_clock.specs.LineClock.{Tick, line_time, tick_of, ticks_from, ticks_of, time_after, time_between, time_by}
use Rattle.plug_clock.specs.StreamClock.{clock_after, clock_met, clock_read, clock_start, clock_through, clock_with, reads, time_in}
use Rattle.plug_clock.specs.declared.last_clock.LastClock.{LastClock}
use Rattle.plug_clock.specs.declared.stream_clock.StreamClock.{StreamClock}
use Rattle.monitor_keys.specs.Keys.{behind, span_on}
use Rattle.monitor_keys.specs.Looks.{is_look, is_read_at, time_at}
use Rattle.monitor_keys.specs.declared.span.Span.{Span}
use Rattle.monitor_keys.proofs.Reading.{after-behind, behind-at, met-behind}

-- ---- the PCRs before a position

-- all of them stand before it
abbrev AllBefore : List Tick → ℕ → Type 0
AllBefore [] n = Unit {0}
AllBefore (tick ∷ ticks) n = (tick.at < n) × AllBefore ticks n

before-later : (ticks : List Tick) (n m : ℕ) → n ≤ m → AllBefore ticks n → AllBefore ticks m
before-later [] n m le all = tt
before-later (tick ∷ ticks) n m le all = (omega (arith, all.0, le), before-later ticks n m le all.1)

before-more : (ticks : List Tick) (tick : Tick) (n : ℕ) → AllBefore ticks n → tick.at < n → AllBefore (ticks ++ tick ∷ []) n
before-more [] tick n all lt = (lt, tt)
before-more (t ∷ ticks) tick n all lt = (all.0, before-more ticks tick n all.1 lt)

-- the last of them is that of the clock
abbrev tick_at : StreamClock → Option LastClock → Option Tick
tick_at clock None = None
tick_at clock (Some last) = Some (record { at = last.at; time = clock.time })

record EndsWith (ticks : List Tick) (clock : StreamClock) : Type 0 where
  before : AllBefore ticks (behind clock.last)
  last_is : last_or None ticks ≡ tick_at clock clock.last

last_or-more : (o : Option Tick) (ticks : List Tick) (tick : Tick) → last_or o (ticks ++ tick ∷ []) ≡ Some tick
last_or-more o [] tick = refl
last_or-more o (t ∷ ticks) tick = last_or-more (Some t) ticks tick

-- with one packet more
ends-with : (ticks : List Tick) (clock : StreamClock) (row : Met) (value : Option ℕ) → time_in row.packet ≡ value → behind clock.last ≤ row.at
    → EndsWith ticks clock → EndsWith (ticks ++ tick_of clock row value) (clock_met clock row.at row.packet)
unfolding clock_met
ends-with ticks clock row None has le w =
    subst (λ (c : StreamClock). EndsWith (ticks ++ []) c) (sym (ap (clock_with clock row.at row.packet) has))
    (subst (λ (ts : List Tick). EndsWith ts clock) (sym (append-nil ticks)) w)
ends-with ticks clock row (Some value) has le w =
    subst (λ (c : StreamClock). EndsWith (ticks ++ (if reads clock row.at (pid_of row.packet) then record { at = row.at; time = c.time } ∷ [] else [])) c)
    (sym (ap (clock_with clock row.at row.packet) has)) (by_read (reads clock row.at (pid_of row.packet)))
  where
    by_read : (b : Bool) → EndsWith
        (ticks ++ (if b then record { at = row.at; time = (if b then clock_read clock row.at row.packet value else clock).time } ∷ [] else []))
        (if b then clock_read clock row.at row.packet value else clock)
    by_read true =
        let tick : Tick = record { at = row.at; time = (clock_read clock row.at row.packet value).time } in
        record {
          before = before-more ticks tick (row.at + 1) (before-later ticks (behind clock.last) (row.at + 1) (omega (arith, le)) w.before) (omega arith);
          last_is = last_or-more None ticks tick;
        }
    by_read false = subst (λ (ts : List Tick). EndsWith ts clock) (sym (append-nil ticks)) w

-- with all packets
through-ends : (ticks : List Tick) (clock : StreamClock) (start : ℕ) (cells : List Cell) → behind clock.last ≤ start → EndsWith ticks clock
    → EndsWith (ticks ++ ticks_from clock (met_from start cells)) (clock_through clock (met_from start cells))
through-ends ticks clock start [] le w = subst (λ (ts : List Tick). EndsWith ts clock) (sym (append-nil ticks)) w
through-ends ticks clock start (Live packet labels ∷ cells) le w =
    let row : Met = record { at = start; packet = packet; labels = labels } in
    subst (λ (ts : List Tick). EndsWith ts (clock_through (clock_met clock start packet) (met_from (start + 1) cells)))
    (append_assoc ticks (tick_of clock row (time_in packet)) (ticks_from (clock_met clock start packet) (met_from (start + 1) cells)))
    (through-ends (ticks ++ tick_of clock row (time_in packet)) (clock_met clock start packet) (start + 1) cells (met-behind clock start packet le)
    (ends-with ticks clock row (time_in packet) refl le w))
through-ends ticks clock start (Dropped ∷ cells) le w = through-ends ticks clock (start + 1) cells (omega (arith, le)) w

all-end : (pid : Option ℕ) (cells : List Cell) → EndsWith (ticks_of pid cells) (clock_after pid cells)
unfolding clock_after
all-end pid cells = through-ends [] (clock_start pid) 0 cells (omega arith) (record { before = tt; last_is = refl })

-- ---- one PCR more

ticks-more : (clock : StreamClock) (rows : List Met) (row : Met)
    → ticks_from clock (rows ++ row ∷ []) ≡ ticks_from clock rows ++ tick_of (clock_through clock rows) row (time_in row.packet)
ticks-more clock [] row = append-nil (tick_of clock row (time_in row.packet))
ticks-more clock (r ∷ rows) row =
    ap (λ (ts : List Tick). tick_of clock r (time_in r.packet) ++ ts) (ticks-more (clock_met clock r.at r.packet) rows row)
    ∙ sym (append_assoc (tick_of clock r (time_in r.packet)) (ticks_from (clock_met clock r.at r.packet) rows)
    (tick_of (clock_through (clock_met clock r.at r.packet) rows) row (time_in row.packet)))

-- a PCR that stands at the packet is one of its packet
tick-read : (clock : StreamClock) (row : Met) (value : Option ℕ) → time_in row.packet ≡ value → behind clock.last ≤ row.at
    → is_read_at row.at (clock_met clock row.at row.packet).last ≡ true
    → tick_of clock row value ≡ record { at = row.at; time = (clock_met clock row.at row.packet).time } ∷ []
unfolding clock_met
tick-read clock row None has le is =
    absurd (omega (arith, le, behind-at row.at clock.last (ap (λ (c : StreamClock). is_read_at row.at c.last) (sym (ap (clock_with clock row.at row.packet) has)) ∙ is)))
tick-read clock row (Some value) has le is =
    by_read (reads clock row.at (pid_of row.packet)) (ap (λ (c : StreamClock). is_read_at row.at c.last) (sym (ap (clock_with clock row.at row.packet) has)) ∙ is)
  where
    one : List Tick
    one = record { at = row.at; time = (clock_with clock row.at row.packet (time_in row.packet)).time } ∷ []

    by_read : (b : Bool) → is_read_at row.at (if b then clock_read clock row.at row.packet value else clock).last ≡ true → (if b then one else []) ≡ one
    by_read true read = refl
    by_read false read = absurd (omega (arith, le, behind-at row.at clock.last read))

-- the time behind a PCR, up to another one
abbrev time_behind_tick : Tick → ℕ → Option Tick → Option ℕ
time_behind_tick next n None = None
time_behind_tick next n (Some tick) = Some (time_between tick next n)

-- the time behind the last of some PCRs
skipped : (before : Tick) (ticks : List Tick) (next : Tick) (n : ℕ) → AllBefore ticks n → n ≤ next.at
    → (last : Tick) → last_or (Some before) ticks ≡ Some last → time_after before (ticks ++ next ∷ []) n ≡ Some (time_between last next n)
skipped before [] next n all le last is =
    ap (λ (b : Bool). if b then Some (time_between before next n) else None) (within n next.at le)
    ∙ ap (time_behind_tick next n) is
  where
    within : (m k : ℕ) → m ≤ k → nat_le m k ≡ true
    within m k h = grind (arith, nat_tests)
skipped before (t ∷ ticks) next n all le last is =
    ap (λ (b : Bool). if b then Some (time_between before t n) else time_after t (ticks ++ next ∷ []) n) (beyond n t.at all.0)
    ∙ skipped t ticks next n all.1 le last is
  where
    beyond : (m k : ℕ) → k < m → nat_le m k ≡ false
    beyond m k h = grind (arith, nat_tests)

still-some : (tick : Tick) (ticks : List Tick) → is_some (last_or (Some tick) ticks) ≡ true
still-some tick [] = refl
still-some tick (t ∷ ticks) = still-some t ticks

-- the line clock with one PCR more
by_last : (clock after : StreamClock) (ticks : List Tick) (last : Option LastClock) (at n : ℕ) → AllBefore ticks n → n ≤ at → last_or None ticks ≡ tick_at clock last
    → time_by (ticks ++ record { at = at; time = after.time } ∷ []) n ≡ Some (time_at (record { before = record clock { last = last }; at = at; after = after }) n)
by_last clock after [] None at n all le is = ap (λ (b : Bool). if b then Some 0 else None) (within n at le)
  where
    within : (m k : ℕ) → m ≤ k → nat_le m k ≡ true
    within m k h = grind (arith, nat_tests)
by_last clock after [] (Some last) at n all le is = absurd (false≢true (ap is_some is))
by_last clock after (tick ∷ ticks) None at n all le is = absurd (false≢true (sym (ap is_some is) ∙ still-some tick ticks))
by_last clock after (tick ∷ ticks) (Some last) at n all le is =
    ap (λ (b : Bool). if b then Some 0 else time_after tick (ticks ++ record { at = at; time = after.time } ∷ []) n) (beyond n tick.at all.0)
    ∙ skipped tick ticks (record { at = at; time = after.time }) n all.1 le (record { at = last.at; time = clock.time }) is
  where
    beyond : (m k : ℕ) → k < m → nat_le m k ≡ false
    beyond m k h = grind (arith, nat_tests)

through-is : (pid : Option ℕ) (cells : List Cell) → clock_through (clock_start pid) (met_rows cells) ≡ clock_after pid cells
unfolding clock_after
through-is pid cells = refl

-- the time up to a packet with a PCR that is read is that of the line clock
pub time-is : (pid : Option ℕ) (history : List Cell) (packet : List ℕ) (labels n : ℕ) → is_look (span_on pid history packet) ≡ true
    → behind (clock_after pid history).last ≤ n → n ≤ length history
    → line_time pid (history ++ Live packet labels ∷ []) n ≡ Some (time_at (span_on pid history packet) n)
time-is pid history packet labels n is begun le =
    ap (λ (ts : List Tick). time_by ts n) all
    ∙ by_last (clock_after pid history) span.after (ticks_of pid history) (clock_after pid history).last (length history) n
    (before-later (ticks_of pid history) (behind (clock_after pid history).last) n begun ended.before) le ended.last_is
  where
    span : Span
    span = span_on pid history packet

    row : Met
    row = record { at = length history; packet = packet; labels = labels }

    ended : EndsWith (ticks_of pid history) (clock_after pid history)
    ended = all-end pid history

    all : ticks_of pid (history ++ Live packet labels ∷ []) ≡ ticks_of pid history ++ record { at = length history; time = span.after.time } ∷ []
    all =
        ap (ticks_from (clock_start pid)) (met-more history (Live packet labels))
        ∙ (ticks-more (clock_start pid) (met_rows history) row
        ∙ ap (λ (ts : List Tick). ticks_of pid history ++ ts)
        (ap (λ (c : StreamClock). tick_of c row (time_in packet)) (through-is pid history)
        ∙ tick-read (clock_after pid history) row (time_in packet) refl (after-behind pid history) is))
