use Rattle.std.proofs.Common.{arith}
use Rattle.plugin_options.specs.Parts.{IsNumbered}
use Rattle.plugin_options.specs.declared.part.Part.TheVariants.{Code}
use Rattle.plug_edit.specs.PmtSettings.{IsSpoken}
use Rattle.plug_edit.proofs.WordsLemmas.{all_of_kind}
use Rattle.plug_edit.proofs.pmt_change_words.languages.Goals as goal

pub returns-clause-valid : goal.returns-clause-valid
returns-clause-valid c =
    all_of_kind (IsNumbered (0, 8191) Code) IsSpoken
    (λ p h. record { pid = omega (arith, h.1); code = h.2 }) c.numbered_parts.result c.numbered_parts.ensures.range
