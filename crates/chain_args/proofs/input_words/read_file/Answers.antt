use Rattle.std.proofs.Common.{refl}
use Rattle.plugin_settings.proofs.ItemLemmas.{words_read, words_refused}
use Rattle.chain_args.specs.Inputs.{file_input}
use Rattle.chain_args.proofs.input_words.read_file.Goals as goal

pub returns-in_err-found-clause-reads : goal.returns-in_err-found-clause-reads
returns-in_err-found-clause-reads c = words_refused file_input _ _ refl _ _ c.from_residual.ensures.1 c.in_err-found.ensures

pub returns-clause-reads : goal.returns-clause-reads
returns-clause-reads c = words_read file_input _ _ refl c.in_ok-found.found c.in_ok-found.ensures.0 c.in_ok-found.ensures.1
    _ c.file_settings.ensures.reads
