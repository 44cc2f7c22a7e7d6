use Rattle.std.proofs.Common.{refl, rules}
use Rattle.plug_inject.proofs.ScheduleLemmas.{first-scheduled}
use Rattle.plug_inject.proofs.schedule.Schedule.new.Goals as goal

pub returns-clause-fresh : goal.returns-clause-fresh
returns-clause-fresh c = first-scheduled _ (search rules) (search rules) refl
