use Rattle.std.proofs.Common.{arith}
use Rattle.plugin_options.specs.Pairs.{IsPairWithin}
use Rattle.plug_edit.specs.PmtSettings.{IsAddedComponent}
use Rattle.plug_edit.proofs.WordsLemmas.{all_of_kind}
use Rattle.plug_edit.proofs.pmt_words.added_components.Goals as goal

pub returns-clause-valid : goal.returns-clause-valid
returns-clause-valid c =
    all_of_kind (IsPairWithin (0, 8191) (0, 255)) IsAddedComponent
    (λ p h. record { pid = omega (arith, h.1); type = omega (arith, h.3) }) c.pair_list.result c.pair_list.ensures.range
