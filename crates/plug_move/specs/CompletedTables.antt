-- The tables that a packet completes on its PID, if the tables there are edited.
-- This project's own rule.
use Rattle.std.specs.Prelude.{◌≡◌, ℕ, true, List, [], ◌∷◌, ◌++◌}
use Rattle.ts_packet.specs.Header.{pid_of}
use Rattle.ts_demux.specs.TablesOn.{Completes}
use Rattle.ts_demux.specs.TakenWhere.{taken_on}
use Rattle.plug_move.specs.RemapRule.{is_edited}

-- the packet is edited after those that were processed, and completes these tables on its PID
pub record IsCompleted (met : List (List ℕ)) (packet : List ℕ) (tables : List (List (List ℕ))) : Type 0 where
  pub edited : is_edited (pid_of packet) (met ++ packet ∷ []) ≡ true
  pub completes : Completes (pid_of packet) (taken_on is_edited (pid_of packet) met) packet tables
