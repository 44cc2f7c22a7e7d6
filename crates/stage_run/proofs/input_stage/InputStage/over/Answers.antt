use Rattle.std.proofs.Common.{refl, arith}
use Rattle.stage_run.proofs.InputLemmas.{IsOver-some}
use Rattle.stage_run.proofs.input_stage.InputStage.over.Goals as goal

pub returns-clause-over : goal.returns-clause-over
returns-clause-over g c = IsOver-some c.args.self.now c.args.self.now.ended refl (omega arith)
