-- Which packet has a number, and on which PID. This project's own rule.
use Rattle.std.specs.Prelude.{ℕ, zero, suc, ◌+◌, ◌/◌, ◌%◌, ◌^◌, ◌==◌, if◌then◌else◌}
use Rattle.ts_testgen.specs.Mixed.{mixed}
use Rattle.ts_testgen.specs.declared.rule.Rule.{Rule}
use Rattle.ts_testgen.specs.declared.rule.Rule.TheVariants.{Pat, FirstPmt, SecondPmt, Sdt, Clock, Null, Payload}

-- the first rule that holds at a number
unfoldable pub rule_at : ℕ → Rule
rule_at i =
    if i % 50 == 0 then Pat
    else if i % 50 == 1 then FirstPmt
    else if i % 50 == 2 then SecondPmt
    else if i % 50 == 3 then Sdt
    else if i % 50 == 4 then Clock
    else if i % 10 == 9 then Null
    else Payload

-- the PID of a rule's packet
abbrev pub pid_by : Rule → ℕ → ℕ
pid_by Pat r = 0
pid_by FirstPmt r = 4096
pid_by SecondPmt r = 4097
pid_by Sdt r = 17
pid_by Clock r = 256
pid_by Null r = 8191
pid_by Payload r = 256 + r / 2 ^ 33 % 4

-- the PID of the packet with a number
abbrev pub pid_at : ℕ → ℕ → ℕ
pid_at seed i = pid_by (rule_at i) (mixed seed i)

-- one more where two PIDs are equal
abbrev pub counted : ℕ → ℕ → ℕ → ℕ
counted found pid count = if found == pid then count + 1 else count

-- the number of packets before a number that are on a PID
unfoldable pub earlier : ℕ → ℕ → ℕ → ℕ
earlier seed pid zero = 0
earlier seed pid (suc i) = counted (pid_at seed i) pid (earlier seed pid i)
