-- The rows with another PID and with another counter: each has that one field set, and nothing else changed.
use Rattle.std.proofs.Common.{◌≡◌, ℕ, ◌+◌, ◌*◌, ◌/◌, ◌%◌, ◌<◌, List, length, arith}
use Rattle.ts_bit_rows.specs.BitRow.{SetsField}
use Rattle.ts_bit_rows.proofs.Fields.{SetsField-join, SetsField-whole_byte}
use Rattle.ts_packet.specs.Packet.{IsPacket}
use Rattle.ts_packet.specs.Header.{row_with, with_pid, with_counter}
use Rattle.ts_packet.proofs.Bytes.{row_with-sets}

pub with_pid-sets : (row : List ℕ) (pid : ℕ) → IsPacket row → pid < 8192 → SetsField row (with_pid row pid) 11 13 pid
unfolding with_pid
with_pid-sets row pid is fits =
    let mid = row_with row 1 3 5 (pid / 256) in
    let first : SetsField row mid 11 5 (pid / 256) = row_with-sets row 1 3 5 (pid / 256) (omega (arith, is.whole)) (omega arith) (omega arith) in
    let within : 2 < length mid = omega (arith, first.same_length, is.whole) in
    let whole : pid / 256 * 256 + pid % 256 ≡ pid = omega arith in
    rw whole at (SetsField-join row mid (with_pid row pid) 11 5 8 (pid / 256) (pid % 256) first
    (SetsField-whole_byte mid 2 (pid % 256) within (omega arith)))

pub with_counter-sets : (row : List ℕ) (counter : ℕ) → IsPacket row → counter < 16 → SetsField row (with_counter row counter) 28 4 counter
unfolding with_counter
with_counter-sets row counter is fits =
    row_with-sets row 3 4 4 counter (omega (arith, is.whole)) (omega arith) fits
