use Rattle.std.proofs.Common.{ℕ, List, length, ◌≡◌, ◌+◌, ◌*◌, ◌/◌, ◌%◌, ◌<◌, ◌^◌, get_or, take, refl, sym, ap, ◌∙◌, arith}
use Rattle.std.specs.Prelude.{bit_xor}
use Rattle.std.proofs.lemmas.List.{take_more}
use Rattle.std.proofs.lemmas.Nat.{xor_lt}
use Rattle.ts_bit_rows.specs.BitRow.{field}
use Rattle.ts_section.specs.Crc.{crc_of, divided_row, remainder}
use Rattle.ts_section.proofs.CrcLemmas.{crc_of-byte, crc_of-lt}
use Rattle.ts_section.proofs.TableLemmas.{entry-is}
use Rattle.ts_section.specs.declared.crc_table.TheConstants.{CRC_TABLE}
use Rattle.ts_section.proofs.crc.crc_of.Goals as goal

pub loop-byte-init : goal.loop-byte-init
unfolding crc_of divided_row remainder field
loop-byte-init c = refl

-- one byte more, in the words of the code
more : (bytes : List ℕ) (index register entry : ℕ) → index < length bytes → get_or bytes index 0 < 256 → register ≡ crc_of (take index bytes) → entry ≡ get_or CRC_TABLE (bit_xor (register / 2 ^ 24) (get_or bytes index 0)) 0 → bit_xor (register * 256 % 2 ^ 32) entry ≡ crc_of (take (index + 1) bytes)
more bytes index register entry inside byte same entry_is =
    let small : register < 2 ^ 32 = rw same (crc_of-lt (take index bytes)) in
    let high : register / 2 ^ 24 < 2 ^ 8 = omega arith in
    ap (bit_xor (register * 256 % 2 ^ 32))
    (entry_is ∙ entry-is (bit_xor (register / 2 ^ 24) (get_or bytes index 0)) (xor_lt 8 (register / 2 ^ 24) (get_or bytes index 0) high byte))
    ∙ ap (λ n. bit_xor (n * 256 % 2 ^ 32) (remainder 8 (bit_xor (n / 2 ^ 24) (get_or bytes index 0) * 2 ^ 32))) same
    ∙ sym (crc_of-byte (take index bytes) (get_or bytes index 0) byte)
    ∙ sym (ap crc_of (take_more bytes index 0 inside))

pub loop-byte-preserved : goal.loop-byte-preserved
loop-byte-preserved c =
    more c.args.bytes.now c.loop-byte.byte-index c.loop-byte.register c.crc_entry-entry.result c.loop-byte-test.true
    (omega (arith, c.type_inv.bytes c.loop-byte.byte-index)) c.loop-byte.invariant c.crc_entry-entry.ensures
