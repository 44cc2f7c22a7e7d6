use Rattle.std.proofs.Common.{◌≢◌, ℕ, ◌+◌, List, length, get_or, Some, sym, ap, ◌∙◌, arith}
use Rattle.ts_section.specs.SectionFields.{table_id_of}
use Rattle.ts_section.specs.declared.fault.SectionFault.TheVariants.{Short, TooLong}
use Rattle.ts_section.proofs.HeadBytes.{IsBytes, table_id-byte}
use Rattle.ts_section.proofs.RuleLemmas.{short_head-broken, stuffing-broken, too_long-broken, short-broken, trailing-broken, short_form-broken, long_form-broken}
use Rattle.ts_section.proofs.section.first_fault.Goals as goal

pub returns-then-found-lt-SHORT_BODY_PLACE : goal.returns-then-found-lt-SHORT_BODY_PLACE
returns-then-found-lt-SHORT_BODY_PLACE c = sym (short_head-broken c.args.bytes.now c.if-found-lt-SHORT_BODY_PLACE.true)

pub returns-then-bytes : goal.returns-then-bytes
returns-then-bytes c =
    sym (stuffing-broken c.args.bytes.now c.if-found-lt-SHORT_BODY_PLACE.false (table_id-byte c.args.bytes.now (λ i. (c.type_inv.bytes i).fits) ∙ c.if-bytes.true))

-- an id that is not 255 in the first byte
other_id : (b : List ℕ) → IsBytes b → get_or b 0 0 ≢ 255 → table_id_of b ≢ 255
other_id b small other = λ same. other (sym (table_id-byte b small) ∙ same)

pub returns-then-length-gt-MOST_SECTION_LENGTH : goal.returns-then-length-gt-MOST_SECTION_LENGTH
returns-then-length-gt-MOST_SECTION_LENGTH c =
    ap (λ n. Some (TooLong n)) c.section_length-length.ensures
    ∙ sym (too_long-broken c.args.bytes.now c.if-found-lt-SHORT_BODY_PLACE.false (other_id c.args.bytes.now (λ i. (c.type_inv.bytes i).fits) c.if-bytes.false) (omega arith))

pub returns-then-found-wanted : goal.returns-then-found-wanted
returns-then-found-wanted c =
    ap (λ n. Some (Short (3 + n) (length c.args.bytes.now))) (c.from-wanted.ensures ∙ c.section_length-length.ensures)
    ∙ sym (short-broken c.args.bytes.now c.if-found-lt-SHORT_BODY_PLACE.false (other_id c.args.bytes.now (λ i. (c.type_inv.bytes i).fits) c.if-bytes.false) (omega arith) (omega arith))

pub returns-then-wanted-found : goal.returns-then-wanted-found
returns-then-wanted-found c =
    sym (trailing-broken c.args.bytes.now c.if-found-lt-SHORT_BODY_PLACE.false (other_id c.args.bytes.now (λ i. (c.type_inv.bytes i).fits) c.if-bytes.false) (omega arith) (omega arith))

pub returns-then-is_long : goal.returns-then-is_long
returns-then-is_long c =
    c.first_fault_long.ensures
    ∙ sym (long_form-broken c.args.bytes.now (other_id c.args.bytes.now (λ i. (c.type_inv.bytes i).fits) c.if-bytes.false) (omega arith) (omega arith) (sym c.is_long.ensures ∙ c.if-is_long.true))

pub returns-else-is_long : goal.returns-else-is_long
returns-else-is_long c =
    sym (short_form-broken c.args.bytes.now (other_id c.args.bytes.now (λ i. (c.type_inv.bytes i).fits) c.if-bytes.false) (omega arith) (omega arith) (sym c.is_long.ensures ∙ c.if-is_long.false))
