use Rattle.std.proofs.Common.{◌+◌, ◌*◌, get_or, sym, ap, ◌∙◌}
use Rattle.std.proofs.lemmas.Nat.{and_mask}
use Rattle.ts_section.proofs.HeadBytes.{length-bytes}
use Rattle.ts_section.proofs.section.section_length.Goals as goal

pub returns : goal.returns
returns c =
    c.from_be_bytes.ensures
    ∙ ap (λ n. n * 256 + get_or c.args.bytes.now 2 0) (and_mask (get_or c.args.bytes.now 1 0) 4)
    ∙ sym (length-bytes c.args.bytes.now (λ i. (c.type_inv.bytes i).fits))
