use Rattle.std.proofs.Common.{sym, ◌∙◌}
use Rattle.ts_fields.specs.Bits.{bits_of}
use Rattle.ts_descr.proofs.ByteLemmas.{all_bytes}
use Rattle.ts_descr.proofs.LawLemmas.{typed_parts, same_descriptor}
use Rattle.ts_descr.proofs.descr_laws.typed_is_written.Goals as goal

pub returns : goal.returns
returns c = λ pages p h d e found exact d_whole e_whole is written.
    let parts = typed_parts pages p h d found is in
    let spelled = c.read_is_written.ensures p (bits_of d.body) h exact parts.1 in
    same_descriptor d e (parts.0 ∙ sym written.same_tag)
    (c.bits_tell_bytes.ensures d.body e.body (all_bytes d.body d_whole.bytes) (all_bytes e.body e_whole.bytes)
    (spelled.0 ∙ sym written.same_bits))
