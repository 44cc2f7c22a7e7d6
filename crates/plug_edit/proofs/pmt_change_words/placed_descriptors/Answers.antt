use Rattle.std.proofs.Common.{arith}
use Rattle.plugin_options.specs.Parts.{IsNumbered}
use Rattle.plugin_options.specs.declared.part.Part.TheVariants.{Descriptors}
use Rattle.plug_edit.specs.PmtSettings.{IsPlaced}
use Rattle.plug_edit.proofs.WordsLemmas.{all_of_kind}
use Rattle.plug_edit.proofs.pmt_change_words.placed_descriptors.Goals as goal

pub returns-clause-valid : goal.returns-clause-valid
returns-clause-valid c =
    all_of_kind (IsNumbered (0, 8191) Descriptors) IsPlaced (λ p h. omega (arith, h.1)) c.numbered_parts.result c.numbered_parts.ensures.range
