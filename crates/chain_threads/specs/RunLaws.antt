-- What the stages of a run in threads rest on, as one. This project's own rule.
use Rattle.stage_run.specs.Seeing.{Seeing}
use Rattle.chain_run.specs.Laws.{MachineLaws}
use Rattle.chain_run.specs.StageLaws.{StageLaws}
use Rattle.window_ring.specs.SeatLaws.{SeatLaws}

pub record RunLaws {S K P : Type 0} (see : Seeing S K P) : Type 0 where
  pub machine : MachineLaws
  pub stages : StageLaws see
  pub seats : SeatLaws
