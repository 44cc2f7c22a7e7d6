-- The steps between the PCRs of a PID. This project's own rule, over ISO/IEC 13818-1, 2.4.3.5 and 2.7.2 (a PCR at least
-- each 100 ms; DVB asks for 40 ms, ETSI TS 101 154, 4.1.5.1).
use Rattle.std.specs.Prelude.{◌≡◌, ◌<◌, ◌^◌, ◌/◌, ℕ, List, [], ◌∷◌, ◌++◌, length, filter, codes, Bool, ◌==◌, ◌&&◌, not, is_none, nat_lt, unwrap_or, Option, None, Some, if◌then◌else◌}
use Rattle.std.specs.List.{fold, slice_index_or}
use Rattle.std.specs.Fmt.{decimal}
use Rattle.ts_packet.specs.declared.numbers.TheConstants.{PID_COUNT}
use Rattle.plug_clock.specs.ClockUnits.{units_after}
use Rattle.plug_times.specs.declared.clock_steps.ClockSteps.{ClockSteps}
use Rattle.plug_times.specs.declared.limits.TheConstants.{DVB_INTERVAL, LONGEST_INTERVAL, MICROSECOND}
use Rattle.plug_times.specs.declared.stamp.Stamp.{Stamp}
use Rattle.plug_times.specs.declared.step_row.StepRow.{StepRow}

-- the packet is on the PID and has a PCR
abbrev pub is_clock_on : ℕ → Stamp → Bool
is_clock_on pid stamp = stamp.pid == pid && not (is_none stamp.clock)

-- those of a PID
abbrev pub clocks_on : ℕ → List Stamp → List Stamp
clocks_on pid stamps = filter (is_clock_on pid) stamps

-- the value of its PCR
abbrev pub value_of : Stamp → ℕ
value_of stamp = unwrap_or stamp.clock 0

-- the step to a value from the one before, in units of the clock, which wraps at its period: none to the first one, nor
-- to one with the discontinuity_indicator
abbrev pub step_between : Option ℕ → ℕ → Bool → List ℕ
step_between None value jumps = []
step_between (Some before) value jumps = if jumps then [] else units_after before value ∷ []

-- the step to a PCR
abbrev pub step_to : Option ℕ → Stamp → List ℕ
step_to before stamp = step_between before (value_of stamp) stamp.jumps

-- the value before the next PCR
abbrev pub last_of : Option ℕ → List Stamp → Option ℕ
last_of before [] = before
last_of before (stamp ∷ stamps) = last_of (Some (value_of stamp)) stamps

-- the steps of PCRs, one after another
abbrev pub steps_from : Option ℕ → List Stamp → List ℕ
steps_from before [] = []
steps_from before (stamp ∷ stamps) = step_to before stamp ++ steps_from (Some (value_of stamp)) stamps

-- the greater of two numbers
abbrev pub greater : ℕ → ℕ → ℕ
greater m n = if nat_lt m n then n else m

-- the greatest of some steps, 0 where there are none
abbrev pub greatest : List ℕ → ℕ
greatest steps = fold greater 0 steps

-- how many of them are above a limit
abbrev pub above : ℕ → List ℕ → ℕ
above limit steps = length (filter (λ step. nat_lt limit step) steps)

-- the line of a PID: `pid <pid> pcrs <n> longest <us> over40 <n> over100 <n>`
abbrev pub steps_text : ℕ → ℕ → ℕ → ℕ → ℕ → List ℕ
steps_text pid count longest over40 over100 = codes "pid " ++ (decimal pid ++ (codes " pcrs " ++ (decimal count
    ++ (codes " longest " ++ (decimal (longest / MICROSECOND) ++ (codes " over40 " ++ (decimal over40
    ++ (codes " over100 " ++ decimal over100))))))))

-- of these PCRs of a PID
abbrev pub clocks_text : ℕ → List Stamp → List ℕ
clocks_text pid clocks =
    let steps = steps_from None clocks in
    steps_text pid (length clocks) (greatest steps) (above DVB_INTERVAL steps) (above LONGEST_INTERVAL steps)

-- the line of a PID, if it has PCRs
abbrev pub clock_lines : List Stamp → ℕ → List (List ℕ)
clock_lines stamps pid = if length (clocks_on pid stamps) == 0 then [] else clocks_text pid (clocks_on pid stamps) ∷ []

-- what is kept of the PCRs of a PID
pub record IsSteps (kept : ClockSteps) (clocks : List Stamp) : Type 0 where
  pub count : kept.count ≡ length clocks
  pub last : kept.last ≡ last_of None clocks
  pub longest : kept.longest ≡ greatest (steps_from None clocks)
  pub over40 : kept.over40 ≡ above DVB_INTERVAL (steps_from None clocks)
  pub over100 : kept.over100 ≡ above LONGEST_INTERVAL (steps_from None clocks)

-- nothing yet
abbrev pub no_steps : ClockSteps
no_steps = record { count = 0; last = None; longest = 0; over40 = 0; over100 = 0 }

-- the row keeps of each PID what its PCRs among these are
pub record IsStepped (row : StepRow) (stamps : List Stamp) : Type 0 where
  pub each : (pid : ℕ) → pid < PID_COUNT → IsSteps (slice_index_or row.steps pid no_steps) (clocks_on pid stamps)

-- what is kept is that of some PCRs, and one more can be counted
pub record HasStepRoom (kept : ClockSteps) : Type 0 where
  pub clocks : List Stamp
  pub steps : IsSteps kept clocks
  pub few : length clocks < 2 ^ 63

-- so of a row
pub record HasRowRoom (row : StepRow) : Type 0 where
  pub stamps : List Stamp
  pub stepped : IsStepped row stamps
  pub few : length stamps < 2 ^ 63

-- the line of what is kept of a PID, if it had PCRs
abbrev pub kept_lines : ℕ → ClockSteps → List (List ℕ)
kept_lines pid kept =
    if kept.count == 0 then [] else steps_text pid kept.count kept.longest kept.over40 kept.over100 ∷ []
