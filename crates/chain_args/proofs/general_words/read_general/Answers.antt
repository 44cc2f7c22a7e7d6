use Rattle.std.proofs.Common.{refl}
use Rattle.plugin_settings.proofs.ItemLemmas.{words_read, words_refused}
use Rattle.chain_args.specs.General.{general}
use Rattle.chain_args.proofs.general_words.read_general.Goals as goal

pub returns-in_err-found-clause-reads : goal.returns-in_err-found-clause-reads
returns-in_err-found-clause-reads c = words_refused general _ _ refl _ _ c.from_residual.ensures.1 c.in_err-found.ensures

pub returns-clause-reads : goal.returns-clause-reads
returns-clause-reads c = words_read general _ _ refl c.in_ok-found.found c.in_ok-found.ensures.0 c.in_ok-found.ensures.1
    _ c.general_settings.ensures.reads
