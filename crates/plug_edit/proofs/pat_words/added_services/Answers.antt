use Rattle.std.proofs.Common.{arith}
use Rattle.plugin_options.specs.Pairs.{IsPairWithin}
use Rattle.plug_edit.specs.PatSettings.{IsAddedService}
use Rattle.plug_edit.proofs.WordsLemmas.{all_of_kind}
use Rattle.plug_edit.proofs.pat_words.added_services.Goals as goal

pub returns-clause-valid : goal.returns-clause-valid
returns-clause-valid c =
    all_of_kind (IsPairWithin (1, 65535) (0, 8191)) IsAddedService
    (λ p h. record { service = omega (arith, h.0); below = omega (arith, h.1); pid = omega (arith, h.3) }) c.pair_list.result c.pair_list.ensures.range
