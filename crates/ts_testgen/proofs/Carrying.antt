-- The rows of packets as they are made, from a null packet on.
use Rattle.std.proofs.Common.{◌≡◌, ℕ, ◌+◌, ◌/◌, ◌%◌, ◌<◌, false, true, List, [], ◌∷◌, ◌++◌, length, drop, replicate, refl, ◌∙◌, ap, arith, append-nil}
use Rattle.std.proofs.Math.ListN.{drop_of_length-le}
use Rattle.ts_bit_rows.specs.BitRow.{bit_of, field}
use Rattle.ts_packet.specs.Adaptation.{adaptation_length_of}
use Rattle.ts_packet.specs.Header.{byte_with, with_pid, with_adaptation_control, with_counter}
use Rattle.ts_packet.specs.Packet.{null_packet}
use Rattle.ts_packet.specs.Payload.{with_piece}
use Rattle.ts_packet.specs.Pcr.{has_pcr_of, with_pcr, clock_bytes}
use Rattle.ts_packetize.specs.Packets.{packet_with}
use Rattle.ts_testgen.specs.Generated.{clock_packet}

-- the packet on PID 256 with an adaptation field that has room for a PCR
abbrev pub clock_blank : List ℕ
clock_blank = with_piece (with_adaptation_control (with_pid null_packet 256) 3) 4 (7 ∷ 16 ∷ [])

pub blank_has_clock : has_pcr_of clock_blank ≡ true
unfolding has_pcr_of adaptation_length_of field bit_of with_pid with_adaptation_control
blank_has_clock = refl

pub blank_clocked : (clock : ℕ) → with_pcr clock_blank clock ≡ clock_packet 0 clock (replicate 176 0xFF)
unfolding with_pcr with_pid with_adaptation_control
blank_clocked clock = refl

fourth_clocked : (counter : ℕ) → counter < 16 → byte_with 0x30 4 4 counter ≡ 48 + counter
fourth_clocked counter h = omega arith

fourth_plain : (counter : ℕ) → counter < 16 → byte_with 0x10 4 4 counter ≡ 16 + counter
fourth_plain counter h = omega arith

-- the counter in it
pub clock_counted : (clock counter : ℕ) (payload : List ℕ) → counter < 16 → with_counter (clock_packet 0 clock payload) counter ≡ clock_packet counter clock payload
unfolding with_counter
clock_counted clock counter payload h =
    ap (λ t. 0x47 ∷ 1 ∷ 0 ∷ t ∷ 7 ∷ 0x10 ∷ clock_bytes (clock / 300) (clock % 300) ++ payload) (fourth_clocked counter h)

-- and its payload
pub clock_laid :
    (clock counter : ℕ) (old payload : List ℕ) → length old ≡ 176 → length payload ≡ 176 →
    with_piece (clock_packet counter clock old) 12 payload ≡ clock_packet counter clock payload
clock_laid clock counter old payload e f =
    let n : 12 + length payload ≡ 188 = omega (arith, f) in
    let front : List ℕ = 0x47 ∷ 1 ∷ 0 ∷ (48 + counter) ∷ 7 ∷ 0x10 ∷ clock_bytes (clock / 300) (clock % 300) in
    ap (λ t. front ++ (payload ++ t)) (ap (λ k. drop k (clock_packet counter clock old)) n ∙ drop_of_length-le old {i = 176} (omega (arith, e)))
    ∙ ap (λ t. front ++ t) (append-nil payload)

-- the header of a packet with only a payload
pub plain_header :
    (pid counter : ℕ) → pid < 8191 → counter < 16 →
    with_counter (with_pid null_packet pid) counter ≡ 0x47 ∷ pid / 256 ∷ pid % 256 ∷ (16 + counter) ∷ replicate 184 0xFF
unfolding with_pid with_counter
plain_header pid counter h k =
    let second : byte_with 0x1F 3 5 (pid / 256) ≡ pid / 256 = omega arith in
    ap (λ t. 0x47 ∷ t ∷ pid % 256 ∷ byte_with 0x10 4 4 counter ∷ replicate 184 0xFF) second
    ∙ ap (λ t. 0x47 ∷ pid / 256 ∷ pid % 256 ∷ t ∷ replicate 184 0xFF) (fourth_plain counter k)

-- and the payload after it
pub plain_laid :
    (pid counter : ℕ) (payload : List ℕ) → length payload ≡ 184 →
    with_piece (0x47 ∷ pid / 256 ∷ pid % 256 ∷ (16 + counter) ∷ replicate 184 0xFF) 4 payload
    ≡ packet_with pid counter (record { unit_start = false; payload = payload })
plain_laid pid counter payload f =
    let n : 4 + length payload ≡ 188 = omega (arith, f) in
    let front : List ℕ = 0x47 ∷ pid / 256 ∷ pid % 256 ∷ (16 + counter) ∷ [] in
    ap (λ t. front ++ (payload ++ t)) (ap (λ k. drop k (front ++ replicate 184 0xFF)) n)
    ∙ ap (λ t. front ++ t) (append-nil payload)
    ∙ ap (λ t. 0x47 ∷ t ∷ pid % 256 ∷ (16 + counter) ∷ payload) (let z : pid / 256 ≡ 0 + pid / 256 = omega arith in z)
