use Rattle.std.proofs.Common.{◌∷◌, true, refl}
use Rattle.chain_model.specs.PluginRule.{passing_rule}
use Rattle.plug_every.proofs.Between.{is_next, none_due}
use Rattle.plug_every.proofs.laws.a_mark_behind_each_summary.Goals as goal

pub returns-clause-keeps : goal.returns-clause-keeps
returns-clause-keeps c = λ n history from due rest keeps. (is_next n true passing_rule history from due (due ∷ rest) rest keeps refl).keeps

pub returns-clause-seen : goal.returns-clause-seen
returns-clause-seen c = λ n history from due rest keeps. (is_next n true passing_rule history from due (due ∷ rest) rest keeps refl).seen

pub returns-clause-lines : goal.returns-clause-lines
returns-clause-lines c = λ n counts rule history from due rest keeps. (is_next n counts rule history from due (due ∷ rest) rest keeps refl).lines

pub returns-clause-none : goal.returns-clause-none
returns-clause-none c = none_due
