-- Lemmas on the clock of a stream of a constant bit rate.
use Rattle.std.proofs.Common.{◌≡◌, ℕ, ◌+◌, ◌-◌, ◌*◌, ◌%◌, ◌<◌, ◌≤◌, List, [], ◌∷◌, Bool, true, false, not, ◌&&◌, ◌||◌, is_some, IfSome, Option, None, Some, if◌then◌else◌, ap, ap₂, sym, subst, ◌∙◌, refl, arith, eq-eqb}
use Rattle.std.proofs.Math.Nat.{add-mul, div-mul-le_self, lt-div-mul-add, mul-le-mul_right}
use Rattle.std.proofs.lemmas.Nat.{div_below, le-div}
use Rattle.std.proofs.lemmas.Bool.Decides.{nat_tests}
use Rattle.ts_packet.specs.Header.{pid_of}
use Rattle.ts_packet.specs.Adaptation.{discontinuity_of}
use Rattle.ts_packet.specs.MetRows.{Met}
use Rattle.plug_clock.specs.ClockUnits.{clock_at, units_after, units_taken}
use Rattle.plug_clock.specs.declared.last_clock.LastClock.{LastClock}
use Rattle.plug_clock.specs.declared.limits.TheConstants.{CLOCK_PERIOD, CLOCK_RATE, PACKET_UNITS}
use Rattle.plug_clock.specs.ConstantRate.{AllKeepRate, KeepsRate, last_at}
use Rattle.plug_clock.specs.StreamClock.{clock_met, clock_read, clock_start, clock_through, clock_with, has_stopped, is_joint, is_read, moved, reads, stepped, time_in, up_to_most}
use Rattle.plug_clock.specs.declared.stream_clock.StreamClock.{StreamClock}

-- after the first PCR at a position and the last one at another, the clock has the time between them
record OnRate (bitrate start pid first : ℕ) (clock : StreamClock) (at : ℕ) : Type 0 where
  reads_pid : clock.pid ≡ (let p : Option ℕ = Some pid in p)
  last_is : clock.last ≡ (let l : Option LastClock = Some (record { at = at; clock = clock_at bitrate start at }) in l)
  time_is : clock.time ≡ up_to_most (units_taken bitrate at - units_taken bitrate first)
  after : first ≤ at
  more : units_taken bitrate first ≤ units_taken bitrate at

-- ---- numbers

-- a later clock is ahead by the units between, where these are less than the period
units_between : (start before now : ℕ) → before ≤ now → now ≤ before + CLOCK_RATE
    → units_after ((start + before) % CLOCK_PERIOD) ((start + now) % CLOCK_PERIOD) ≡ now - before
units_between start before now le within = omega arith

sum-up : (a b : ℕ) → up_to_most (up_to_most a + b) ≡ up_to_most (a + b)
sum-up a b = grind (arith, nat_tests)

up-more : (a b : ℕ) → a ≤ b → up_to_most a ≤ up_to_most b
up-more a b le = grind (arith, nat_tests)

no_joint : (step : ℕ) → 0 < step → step ≤ CLOCK_RATE → is_joint true false step ≡ false
no_joint step some within = grind (arith, nat_tests)

-- a position after which more units have passed is a later one
later_at : (bitrate before now : ℕ) → 0 < bitrate → units_taken bitrate before < units_taken bitrate now → before ≤ now
later_at bitrate before now some less =
    let u = units_taken bitrate before in
    let w = units_taken bitrate now in
    let more : u + 1 ≤ w = omega (arith, less) in
    let more_units : (u + 1) * bitrate ≤ w * bitrate = mul-le-mul_right bitrate more in
    omega (
      arith,
      add-mul u 1 bitrate,
      more_units,
      div-mul-le_self (now * PACKET_UNITS) bitrate,
      lt-div-mul-add {a = before * PACKET_UNITS} {b = bitrate} some,
    )

-- the units of two parts, and of both together
parts-least : (bitrate a b : ℕ) → 0 < bitrate → units_taken bitrate a + units_taken bitrate b ≤ units_taken bitrate (a + b)
parts-least bitrate a b some =
    le-div (units_taken bitrate a + units_taken bitrate b) ((a + b) * PACKET_UNITS) bitrate some
    (omega (
      arith,
      add-mul (units_taken bitrate a) (units_taken bitrate b) bitrate,
      div-mul-le_self (a * PACKET_UNITS) bitrate,
      div-mul-le_self (b * PACKET_UNITS) bitrate,
    ))

parts-most : (bitrate a b : ℕ) → 0 < bitrate → units_taken bitrate (a + b) < units_taken bitrate a + units_taken bitrate b + 2
parts-most bitrate a b some =
    div_below ((a + b) * PACKET_UNITS) bitrate (units_taken bitrate a + units_taken bitrate b + 2) some
    (omega (
      arith,
      add-mul (units_taken bitrate a + units_taken bitrate b) 2 bitrate,
      add-mul (units_taken bitrate a) (units_taken bitrate b) bitrate,
      lt-div-mul-add {a = a * PACKET_UNITS} {b = bitrate} some,
      lt-div-mul-add {a = b * PACKET_UNITS} {b = bitrate} some,
    ))

-- ---- the clock

-- a PCR that is read is one of the clock's PID
same-read : (pid : Option ℕ) (read now : ℕ) → pid ≡ (let p : Option ℕ = Some read in p) → now ≡ read → is_read pid now ≡ true
same-read pid read now is same = ap (λ (p : Option ℕ). is_read p now) is ∙ eq-eqb read now (sym same)

-- a PCR of a value that is read
met-read : (clock : StreamClock) (at : ℕ) (packet : List ℕ) (value : ℕ) → time_in packet ≡ (let v : Option ℕ = Some value in v)
    → reads clock at (pid_of packet) ≡ true → clock_met clock at packet ≡ clock_read clock at packet value
unfolding clock_met
met-read clock at packet value has does =
    ap (clock_with clock at packet) has ∙ ap (λ (b : Bool). if b then clock_read clock at packet value else clock) does

-- the first PCR
first-on_rate : (bitrate start : ℕ) (asked : Option ℕ) (at : ℕ) (packet : List ℕ)
    → time_in packet ≡ (let v : Option ℕ = Some (clock_at bitrate start at) in v) → IfSome asked (λ pid. pid ≡ pid_of packet)
    → OnRate bitrate start (pid_of packet) at (clock_met (clock_start asked) at packet) at
first-on_rate bitrate start asked at packet has same =
    subst (λ (clock : StreamClock). OnRate bitrate start (pid_of packet) at clock at)
    (sym (met-read (clock_start asked) at packet (clock_at bitrate start at) has (does asked same)))
    (record {
      reads_pid = refl;
      last_is = refl;
      time_is = zero_is;
      after = omega arith;
      more = omega arith;
    })
  where
    does : (asked : Option ℕ) → IfSome asked (λ pid. pid ≡ pid_of packet) → reads (clock_start asked) at (pid_of packet) ≡ true
    does None same = refl
    does (Some pid) same = ap (λ (b : Bool). b || false) (eq-eqb pid (pid_of packet) same)

    zero_is : 0 ≡ up_to_most (units_taken bitrate at - units_taken bitrate at)
    zero_is = sym (ap up_to_most (let none : units_taken bitrate at - units_taken bitrate at ≡ 0 = omega arith in none))

-- a step on a clock whose last PCR is known
read-time : (clock : StreamClock) (before at : ℕ) (packet : List ℕ) (old value step : ℕ)
    → clock.last ≡ (let l : Option LastClock = Some (record { at = before; clock = old }) in l) → units_after old value ≡ step
    → is_joint (is_read clock.pid (pid_of packet)) (discontinuity_of packet) step ≡ false
    → (clock_read clock at packet value).time ≡ up_to_most (clock.time + step)
read-time clock before at packet old value step last_is step_is none =
    ap (λ (l : Option LastClock). (moved clock l at packet value).time) last_is
    ∙ (ap (λ (s : ℕ). (stepped clock (is_joint (is_read clock.pid (pid_of packet)) (discontinuity_of packet) s) s (at - before)).time) step_is
    ∙ ap (λ (b : Bool). (stepped clock b step (at - before)).time) none)

-- the next PCR
next-on_rate : (bitrate start pid first : ℕ) (clock : StreamClock) (before : ℕ) (row : Met) (value : ℕ) → 0 < bitrate
    → OnRate bitrate start pid first clock before → time_in row.packet ≡ (let v : Option ℕ = Some value in v)
    → KeepsRate bitrate start pid before row value
    → OnRate bitrate start pid first (clock_met clock row.at row.packet) row.at
next-on_rate bitrate start pid first clock before row value some on has keeps =
    let u = units_taken bitrate before in
    let w = units_taken bitrate row.at in
    let is_same : is_read clock.pid (pid_of row.packet) ≡ true = same-read clock.pid pid (pid_of row.packet) on.reads_pid keeps.same_pid in
    let step : units_after (clock_at bitrate start before) value ≡ w - u =
    ap (units_after (clock_at bitrate start before)) keeps.on_time ∙ units_between start u w (omega (arith, keeps.later)) keeps.within in
    let none : is_joint (is_read clock.pid (pid_of row.packet)) (discontinuity_of row.packet) (w - u) ≡ false =
    ap₂ (λ (same flagged : Bool). is_joint same flagged (w - u)) is_same keeps.unflagged
    ∙ no_joint (w - u) (omega (arith, keeps.later)) (omega (arith, keeps.within)) in
    let sum : (u - units_taken bitrate first) + (w - u) ≡ w - units_taken bitrate first = omega (arith, on.more, keeps.later) in
    subst (λ (new : StreamClock). OnRate bitrate start pid first new row.at)
    (sym (met-read clock row.at row.packet value has (ap (λ (b : Bool). b || (not clock.is_asked && has_stopped clock clock.last row.at)) is_same)))
    (record {
      reads_pid = ap (λ (p : ℕ). let o : Option ℕ = Some p in o) keeps.same_pid;
      last_is = ap (λ (v : ℕ). let o : Option LastClock = Some (record { at = row.at; clock = v }) in o) keeps.on_time;
      time_is = read-time clock before row.at row.packet (clock_at bitrate start before) value (w - u) on.last_is step none
          ∙ (ap (λ (t : ℕ). up_to_most (t + (w - u))) on.time_is
          ∙ (sum-up (u - units_taken bitrate first) (w - u) ∙ ap up_to_most sum));
      after = omega (arith, on.after, later_at bitrate before row.at some keeps.later);
      more = omega (arith, on.more, keeps.later);
    })

-- a packet with or without a PCR
row-on_rate : (bitrate start pid first : ℕ) (clock : StreamClock) (before : ℕ) (row : Met) (value : Option ℕ) → 0 < bitrate
    → OnRate bitrate start pid first clock before → time_in row.packet ≡ value
    → IfSome value (KeepsRate bitrate start pid before row)
    → OnRate bitrate start pid first (clock_met clock row.at row.packet) (if is_some value then row.at else before)
unfolding clock_met
row-on_rate bitrate start pid first clock before row None some on has keeps =
    subst (λ (new : StreamClock). OnRate bitrate start pid first new before) (sym (ap (clock_with clock row.at row.packet) has)) on
row-on_rate bitrate start pid first clock before row (Some value) some on has keeps =
    next-on_rate bitrate start pid first clock before row value some on has keeps

-- all packets
record AtRate (bitrate start pid first : ℕ) (clock : StreamClock) : Type 0 where
  at : ℕ
  on : OnRate bitrate start pid first clock at

rows-at_rate : (bitrate start pid first : ℕ) (clock : StreamClock) (before : ℕ) (rows : List Met) → 0 < bitrate
    → OnRate bitrate start pid first clock before → AllKeepRate bitrate start pid before rows
    → AtRate bitrate start pid first (clock_through clock rows)
rows-at_rate bitrate start pid first clock before [] some on keep = record { at = before; on = on }
rows-at_rate bitrate start pid first clock before (row ∷ rows) some on keep =
    rows-at_rate bitrate start pid first (clock_met clock row.at row.packet) (last_at before row) rows some
    (row-on_rate bitrate start pid first clock before row (time_in row.packet) some on refl keep.0) keep.1

-- what the law says of a clock on its rate
abbrev IsLeast : ℕ → ℕ → StreamClock → Type 0
IsLeast bitrate first clock = IfSome clock.last (λ last. up_to_most (units_taken bitrate (last.at - first)) ≤ clock.time)

abbrev IsMost : ℕ → ℕ → StreamClock → Type 0
IsMost bitrate first clock = IfSome clock.last (λ last. clock.time ≤ up_to_most (units_taken bitrate (last.at - first) + 1))

least-at : (bitrate start pid first : ℕ) (clock : StreamClock) (at : ℕ) → 0 < bitrate → OnRate bitrate start pid first clock at → IsLeast bitrate first clock
least-at bitrate start pid first clock at some on =
    let whole : units_taken bitrate (first + (at - first)) ≡ units_taken bitrate at =
    ap (units_taken bitrate) (let e : first + (at - first) ≡ at = omega (arith, on.after) in e) in
    let least : up_to_most (units_taken bitrate (at - first)) ≤ up_to_most (units_taken bitrate at - units_taken bitrate first) =
    up-more (units_taken bitrate (at - first)) (units_taken bitrate at - units_taken bitrate first) (omega (arith, whole, parts-least bitrate first (at - first) some)) in
    subst (λ (last : Option LastClock). IfSome last (λ l. up_to_most (units_taken bitrate (l.at - first)) ≤ clock.time)) (sym on.last_is)
    (subst (λ (t : ℕ). up_to_most (units_taken bitrate (at - first)) ≤ t) (sym on.time_is) least)

most-at : (bitrate start pid first : ℕ) (clock : StreamClock) (at : ℕ) → 0 < bitrate → OnRate bitrate start pid first clock at → IsMost bitrate first clock
most-at bitrate start pid first clock at some on =
    let whole : units_taken bitrate (first + (at - first)) ≡ units_taken bitrate at =
    ap (units_taken bitrate) (let e : first + (at - first) ≡ at = omega (arith, on.after) in e) in
    let most : up_to_most (units_taken bitrate at - units_taken bitrate first) ≤ up_to_most (units_taken bitrate (at - first) + 1) =
    up-more (units_taken bitrate at - units_taken bitrate first) (units_taken bitrate (at - first) + 1) (omega (arith, whole, parts-most bitrate first (at - first) some)) in
    subst (λ (last : Option LastClock). IfSome last (λ l. clock.time ≤ up_to_most (units_taken bitrate (l.at - first) + 1))) (sym on.last_is)
    (subst (λ (t : ℕ). t ≤ up_to_most (units_taken bitrate (at - first) + 1)) (sym on.time_is) most)

-- the clock after all packets from the first PCR on
all-at_rate : (bitrate start : ℕ) (asked : Option ℕ) (first : Met) (rows : List Met) → 0 < bitrate
    → time_in first.packet ≡ (let v : Option ℕ = Some (clock_at bitrate start first.at) in v)
    → IfSome asked (λ pid. pid ≡ pid_of first.packet) → AllKeepRate bitrate start (pid_of first.packet) first.at rows
    → AtRate bitrate start (pid_of first.packet) first.at (clock_through (clock_start asked) (first ∷ rows))
all-at_rate bitrate start asked first rows some has same keep =
    rows-at_rate bitrate start (pid_of first.packet) first.at (clock_met (clock_start asked) first.at first.packet) first.at rows some
    (first-on_rate bitrate start asked first.at first.packet has same) keep

pub least_time : (bitrate start : ℕ) (asked : Option ℕ) (first : Met) (rows : List Met) → 0 < bitrate
    → time_in first.packet ≡ (let v : Option ℕ = Some (clock_at bitrate start first.at) in v)
    → IfSome asked (λ pid. pid ≡ pid_of first.packet) → AllKeepRate bitrate start (pid_of first.packet) first.at rows
    → IsLeast bitrate first.at (clock_through (clock_start asked) (first ∷ rows))
least_time bitrate start asked first rows some has same keep =
    let rate = all-at_rate bitrate start asked first rows some has same keep in
    least-at bitrate start (pid_of first.packet) first.at _ rate.at some rate.on

pub most_time : (bitrate start : ℕ) (asked : Option ℕ) (first : Met) (rows : List Met) → 0 < bitrate
    → time_in first.packet ≡ (let v : Option ℕ = Some (clock_at bitrate start first.at) in v)
    → IfSome asked (λ pid. pid ≡ pid_of first.packet) → AllKeepRate bitrate start (pid_of first.packet) first.at rows
    → IsMost bitrate first.at (clock_through (clock_start asked) (first ∷ rows))
most_time bitrate start asked first rows some has same keep =
    let rate = all-at_rate bitrate start asked first rows some has same keep in
    most-at bitrate start (pid_of first.packet) first.at _ rate.at some rate.on
