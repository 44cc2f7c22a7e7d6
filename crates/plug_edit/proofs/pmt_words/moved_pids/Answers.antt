use Rattle.std.proofs.Common.{arith}
use Rattle.plugin_options.specs.Pairs.{IsPairWithin}
use Rattle.plug_edit.specs.PmtSettings.{IsMove}
use Rattle.plug_edit.proofs.WordsLemmas.{all_of_kind}
use Rattle.plug_edit.proofs.pmt_words.moved_pids.Goals as goal

pub returns-clause-valid : goal.returns-clause-valid
returns-clause-valid c =
    all_of_kind (IsPairWithin (0, 8191) (0, 8191)) IsMove
    (λ p h. record { old = omega (arith, h.1); new = omega (arith, h.3) }) c.pair_list.result c.pair_list.ensures.range
