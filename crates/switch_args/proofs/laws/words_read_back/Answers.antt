use Rattle.switch_args.proofs.ValidLemmas.{read-valid}
use Rattle.switch_args.proofs.WordsBackLemmas.{read-back}
use Rattle.switch_args.proofs.laws.words_read_back.Goals as goal

pub returns : goal.returns
returns c = record { back = read-back; valid = read-valid }
