use Rattle.std.proofs.Common.{sym, ◌∙◌}
use Rattle.ts_fields.proofs.TextLemmas.{printable_utf8}
use Rattle.ts_fields.proofs.texts.text_of.Goals as goal

pub returns-in-Err : goal.returns-in-Err
returns-in-Err c =
    let printable = sym c.are_printable.ensures ∙ c.if-not-are_printable.false in
    absurd (c.in-Err.ensures.cases.0 (printable_utf8 c.args.bytes.now printable))
