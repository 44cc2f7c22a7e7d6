-- When what follows a PID and what reads its tables stand for the packets that were taken.
-- This project's own rule.
use Rattle.std.specs.Prelude.{ℕ, List}
use Rattle.ts_demux.specs.PidTables.{StandsFor}
use Rattle.plug_psi.specs.declared.given.Given.{Given}
use Rattle.plug_psi.specs.declared.reading.Reading.{Reading}

-- the tables of these packets were read, and what follows the PID stands for the same packets
abbrev pub Reads : {T : Type 0} → (T → ℕ → List (List ℕ) → Type 0) → Reading T → ℕ → List (List ℕ) → Type 0
Reads stands it pid taken = StandsFor it.tables pid taken × stands it.follower pid taken

-- what follows the PID by tables that others read stands for these packets
abbrev pub GivenStands : {T : Type 0} → (T → ℕ → List (List ℕ) → Type 0) → Given T → ℕ → List (List ℕ) → Type 0
GivenStands stands it pid taken = stands it.follower pid taken
