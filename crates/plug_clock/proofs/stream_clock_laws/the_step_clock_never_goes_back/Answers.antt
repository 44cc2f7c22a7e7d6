use Rattle.plug_clock.proofs.Growing.{cells-grow}
use Rattle.plug_clock.proofs.stream_clock_laws.the_step_clock_never_goes_back.Goals as goal

pub returns : goal.returns
returns c = λ pid cells more. cells-grow pid cells more
