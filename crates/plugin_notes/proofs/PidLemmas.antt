-- Lemmas on packets by PID, and on lines after others.
use Rattle.std.proofs.Common.{◌≡◌, ℕ, ◌+◌, List, [], ◌∷◌, ◌++◌, map, ap, ◌==◌, if◌then◌else◌, add-one, refl}
use Rattle.std.specs.List.{count_by, fold}
use Rattle.std.proofs.lemmas.List.{map-append}
use Rattle.ts_packet.specs.Header.{pid_of}
use Rattle.plugin_trait.specs.declared.line.Line.{Line}
use Rattle.plugin_trait.specs.PlacedLines.{placed_at}
use Rattle.plugin_notes.specs.PidPackets.{numbers_below, packets_on}

-- the packets on a PID, counted by PID only, after others
count_from : (pid n : ℕ) (packets : List (List ℕ))
    → fold (λ (a : ℕ) (q : ℕ). a + (if q == pid then 1 else 0)) n (map pid_of packets) ≡ fold (λ (a : ℕ) (p : List ℕ). a + (if pid_of p == pid then 1 else 0)) n packets
count_from pid n [] = refl
count_from pid n (packet ∷ packets) = count_from pid (n + (if pid_of packet == pid then 1 else 0)) packets

-- the packets on a PID, counted by PID only
pub packets_on-pids : (pid : ℕ) (packets : List (List ℕ)) → count_by (λ q. q == pid) (map pid_of packets) ≡ packets_on pid packets
packets_on-pids pid packets = count_from pid 0 packets

-- the numbers below one more
pub numbers_below_more : (n : ℕ) → numbers_below (n + 1) ≡ numbers_below n ++ n ∷ []
unfolding numbers_below
numbers_below_more n = ap numbers_below (add-one n)

-- lines at a position after others there
pub placed_at-append : (cut : ℕ) (xs ys : List (List ℕ)) → placed_at cut (xs ++ ys) ≡ placed_at cut xs ++ placed_at cut ys
placed_at-append cut xs ys = map-append (λ (text : List ℕ). let line : Line = record { at = cut; text = text } in line) xs ys
