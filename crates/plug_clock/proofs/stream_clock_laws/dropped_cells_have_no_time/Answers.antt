use Rattle.plug_clock.proofs.Ticking.{clock-dropped}
use Rattle.plug_clock.proofs.stream_clock_laws.dropped_cells_have_no_time.Goals as goal

pub returns : goal.returns
returns c = λ pid history. clock-dropped pid history
