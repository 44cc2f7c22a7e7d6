use Rattle.std.proofs.Common.{arith}
use Rattle.plugin_options.specs.Pairs.{IsPairWithin}
use Rattle.plug_edit.specs.CatSettings.{IsAddedCa}
use Rattle.plug_edit.proofs.WordsLemmas.{all_of_kind}
use Rattle.plug_edit.proofs.cat_words.added_systems.Goals as goal

pub returns-clause-valid : goal.returns-clause-valid
returns-clause-valid c =
    all_of_kind (IsPairWithin (0, 65535) (0, 8191)) IsAddedCa
    (λ p h. record { system = omega (arith, h.1); pid = omega (arith, h.3) }) c.pair_list.result c.pair_list.ensures.range
