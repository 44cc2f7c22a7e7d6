use Rattle.std.proofs.Common.{◌∙◌, sym}
use Rattle.named_services.proofs.WordLemmas.{word-name, word-number}
use Rattle.named_services.proofs.word_reading.read_service.Goals as goal

pub returns-then-is_number : goal.returns-then-is_number
returns-then-is_number c = c.numbered.ensures ∙ word-number c.args.text.now (sym c.is_number.ensures ∙ c.if-is_number.true)

pub returns : goal.returns
returns c = c.in_ok-name.ensures ∙ word-name c.args.text.now (sym c.is_number.ensures ∙ c.if-is_number.false)
