use Rattle.packet_forms.proofs.Strips.{stripped-nil, stripped-ts, stripped-unit}
use Rattle.packet_forms.proofs.laws.packets_of_units.Goals as goal

pub returns-clause-none : goal.returns-clause-none
returns-clause-none c = λ form. stripped-nil form 0

pub returns-clause-units : goal.returns-clause-units
returns-clause-units c = stripped-unit

pub returns-clause-plain : goal.returns-clause-plain
returns-clause-plain c = stripped-ts 0
