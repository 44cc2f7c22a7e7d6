use Rattle.std.proofs.Common.{◌≤◌, length, ap, arith}
use Rattle.ts_fields.specs.Bodies.{spell_page}
use Rattle.ts_descr.proofs.LawLemmas.{spelled_is_typed}
use Rattle.ts_descr.proofs.descr_laws.written_is_typed.Goals as goal

pub returns : goal.returns
returns c = λ pages p h d found sound fit written.
    let whole = c.length_of_bits.ensures.bytes d.body in
    let small : length (spell_page p h) ≤ 2040 = omega (arith, ap length written.same_bits, written.room) in
    spelled_is_typed pages p h d found written.same_tag written.same_bits
    (c.written_is_read.ensures p h (λ _. small) sound (c.small_page_fits.ensures p h fit sound small))
