use Rattle.section_flow.proofs.OnePid.{completed-on, replaced-on}
use Rattle.section_flow.proofs.laws.an_edit_that_stays_goes_by_one_pid.Goals as goal

pub returns-clause-completed : goal.returns-clause-completed
returns-clause-completed c = completed-on

pub returns-clause-replaced : goal.returns-clause-replaced
returns-clause-replaced c = replaced-on
