-- The packets on a PID, and PIDs in their order. This project's own rule, over the PID of ISO/IEC 13818-1, 2.4.3.2.
use Rattle.std.specs.Prelude.{ℕ, zero, suc, List, [], ◌∷◌, ◌++◌, count_by, ◌==◌}
use Rattle.ts_packet.specs.Header.{pid_of}

-- how many of the packets are on the PID
abbrev pub packets_on : ℕ → List (List ℕ) → ℕ
packets_on pid packets = count_by (λ packet. pid_of packet == pid) packets

-- the numbers below a bound, ascending
unfoldable pub numbers_below : ℕ → List ℕ
numbers_below zero = []
numbers_below (suc n) = numbers_below n ++ n ∷ []
