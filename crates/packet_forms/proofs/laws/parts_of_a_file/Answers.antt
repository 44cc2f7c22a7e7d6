use Rattle.packet_forms.proofs.Strips.{stripped-parts, length-stripped, stripped-take}
use Rattle.packet_forms.proofs.laws.parts_of_a_file.Goals as goal

pub returns-clause-parts : goal.returns-clause-parts
returns-clause-parts c = stripped-parts

pub returns-clause-counted : goal.returns-clause-counted
returns-clause-counted c = length-stripped

pub returns-clause-begins : goal.returns-clause-begins
returns-clause-begins c = stripped-take
