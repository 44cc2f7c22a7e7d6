use Rattle.std.proofs.Common.{◌≡◌, ◌≢◌, ℕ, ◌+◌, ◌-◌, ◌*◌, ◌≤◌, List, length, take, drop, get_or, Some, refl, sym, ap, ◌∙◌, subst, arith}
use Rattle.ts_bit_rows.specs.BitRow.{field}
use Rattle.ts_section.specs.Crc.{crc_of}
use Rattle.ts_section.specs.FirstBroken.{first_broken_long}
use Rattle.ts_section.specs.declared.fault.SectionFault.TheVariants.{BadCrc}
use Rattle.ts_section.specs.SectionFields.{section_length_of, number_of, last_number_of, crc_field_of}
use Rattle.ts_section.proofs.HeadBytes.{IsBytes, IsBytes-drop, field-one_byte, field-four_bytes}
use Rattle.ts_section.proofs.RuleLemmas.{short_long-broken, numbers-broken, good_crc-broken, bad_crc-broken}
use Rattle.ts_section.proofs.section.first_fault_long.Goals as goal

pub returns-then-bytes : goal.returns-then-bytes
returns-then-bytes c = sym (short_long-broken c.args.bytes.now (omega arith))

pub returns-then-bytes-2 : goal.returns-then-bytes-2
returns-then-bytes-2 c =
    let number : number_of c.args.bytes.now ≡ get_or c.args.bytes.now 6 0 = field-one_byte c.args.bytes.now (λ i. (c.type_inv.bytes i).fits) 48 6 refl in
    let last : last_number_of c.args.bytes.now ≡ get_or c.args.bytes.now 7 0 = field-one_byte c.args.bytes.now (λ i. (c.type_inv.bytes i).fits) 56 7 refl in
    sym (numbers-broken c.args.bytes.now (omega arith) (omega arith))

-- the last four bytes as the code reads them
found_crc : (b last : List ℕ) (found : ℕ) → IsBytes b → last ≡ drop (length b - 4) b → found ≡ get_or last 0 0 * 16777216 + get_or last 1 0 * 65536 + get_or last 2 0 * 256 + get_or last 3 0 → found ≡ crc_field_of b
found_crc b last found small back read =
    let four : field last 0 32 ≡ ((get_or last 0 0 * 256 + get_or last 1 0) * 256 + get_or last 2 0) * 256 + get_or last 3 0 =
    field-four_bytes last (subst IsBytes (sym back) (IsBytes-drop (length b - 4) b small)) in
    read ∙ omega arith ∙ ap (λ n. field n 0 32) back

pub returns-then-wanted-found : goal.returns-then-wanted-found
returns-then-wanted-found c =
    let number : number_of c.args.bytes.now ≡ get_or c.args.bytes.now 6 0 = field-one_byte c.args.bytes.now (λ i. (c.type_inv.bytes i).fits) 48 6 refl in
    let last : last_number_of c.args.bytes.now ≡ get_or c.args.bytes.now 7 0 = field-one_byte c.args.bytes.now (λ i. (c.type_inv.bytes i).fits) 56 7 refl in
    sym (good_crc-broken c.args.bytes.now (omega arith) (omega arith)
    (sym (c.crc_of-wanted.ensures ∙ ap crc_of c.split_at.ensures.front)
    ∙ c.if-wanted-found.true
    ∙ found_crc c.args.bytes.now c.split_at.result.1.now c.from_be_bytes-found.result (λ i. (c.type_inv.bytes i).fits) c.split_at.ensures.back c.from_be_bytes-found.ensures))

-- a wrong CRC, in the words of the code
wrong : (b : List ℕ) (wanted found : ℕ) → 9 ≤ section_length_of b → number_of b ≤ last_number_of b → wanted ≡ crc_of (take (length b - 4) b) → found ≡ crc_field_of b → wanted ≢ found → first_broken_long b ≡ Some (BadCrc wanted found)
wrong b wanted found room within before last other =
    bad_crc-broken b room within (λ same. other (before ∙ same ∙ sym last))
    ∙ ap (λ n. Some (BadCrc n (crc_field_of b))) (sym before)
    ∙ ap (λ n. Some (BadCrc wanted n)) (sym last)

pub returns : goal.returns
returns c =
    let number : number_of c.args.bytes.now ≡ get_or c.args.bytes.now 6 0 = field-one_byte c.args.bytes.now (λ i. (c.type_inv.bytes i).fits) 48 6 refl in
    let last : last_number_of c.args.bytes.now ≡ get_or c.args.bytes.now 7 0 = field-one_byte c.args.bytes.now (λ i. (c.type_inv.bytes i).fits) 56 7 refl in
    sym (wrong c.args.bytes.now c.crc_of-wanted.result c.from_be_bytes-found.result (omega arith) (omega arith)
    (c.crc_of-wanted.ensures ∙ ap crc_of c.split_at.ensures.front)
    (found_crc c.args.bytes.now c.split_at.result.1.now c.from_be_bytes-found.result (λ i. (c.type_inv.bytes i).fits) c.split_at.ensures.back c.from_be_bytes-found.ensures)
    c.if-wanted-found.false)
