-- The row of a null packet with the header of another packet.
use Rattle.std.proofs.Common.{◌≡◌, ℕ, ◌+◌, ◌/◌, ◌%◌, ◌<◌, Bool, true, false, List, ◌∷◌, replicate, arith}
use Rattle.std.specs.Prelude.{if◌then◌else◌}
use Rattle.ts_packet.specs.Header.{byte_with, flag_of, with_pid, with_unit_start, with_counter}
use Rattle.ts_packet.specs.Packet.{null_packet}
use Rattle.ts_packetize.specs.Packing.{Load}
use Rattle.ts_packetize.specs.Packets.{packet_with}

second_byte : (unit_start : Bool) (pid : ℕ) → pid < 8191 → byte_with (byte_with 0x1F 3 5 (pid / 256)) 1 1 (flag_of unit_start) ≡ (if unit_start then 64 else 0) + pid / 256
second_byte true pid h = omega arith
second_byte false pid h = omega arith

fourth_byte : (counter : ℕ) → counter < 16 → byte_with 0x10 4 4 counter ≡ 16 + counter
fourth_byte counter h = omega arith

same_rows : (a b c d e : ℕ) (xs : List ℕ) → a ≡ b → c ≡ d → 0x47 ∷ a ∷ e ∷ c ∷ xs ≡ 0x47 ∷ b ∷ e ∷ d ∷ xs
same_rows a b c d e xs f g = cc

pub blank_row :
    (pid counter : ℕ) (unit_start : Bool) → pid < 8191 → counter < 16 →
    with_counter (with_unit_start (with_pid null_packet pid) unit_start) counter
    ≡ packet_with pid counter (let load : Load = record { unit_start = unit_start; payload = replicate 184 0xFF } in load)
unfolding with_pid with_unit_start with_counter
blank_row pid counter unit_start h k =
    same_rows (byte_with (byte_with 0x1F 3 5 (pid / 256)) 1 1 (flag_of unit_start)) ((if unit_start then 64 else 0) + pid / 256)
    (byte_with 0x10 4 4 counter) (16 + counter) (pid % 256) (replicate 184 0xFF) (second_byte unit_start pid h) (fourth_byte counter k)
