use Rattle.plug_clock.proofs.Mean.{mean-least, mean-most}
use Rattle.plug_clock.proofs.stream_clock_laws.a_joint_is_bridged_at_the_mean.Goals as goal

pub returns-clause-least : goal.returns-clause-least
returns-clause-least c = λ clock count some. mean-least clock count some

pub returns-clause-most : goal.returns-clause-most
returns-clause-most c = λ clock count some. mean-most clock count some
