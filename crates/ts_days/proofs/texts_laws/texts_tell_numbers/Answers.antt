use Rattle.ts_days.proofs.TextLemmas.{day_again, time_again, start_again}
use Rattle.ts_days.proofs.texts_laws.texts_tell_numbers.Goals as goal

pub returns-clause-day : goal.returns-clause-day
returns-clause-day c = λ n small. day_again n small

pub returns-clause-time : goal.returns-clause-time
returns-clause-time c = λ hours n is. time_again hours n is

pub returns-clause-start : goal.returns-clause-start
returns-clause-start c = λ n small is. start_again n small is
