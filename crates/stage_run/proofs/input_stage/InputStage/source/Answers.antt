use Rattle.std.proofs.lemmas.Option.{IfSome_then}
use Rattle.stage_run.proofs.SourceNowLemmas.{was-read}
use Rattle.stage_run.proofs.input_stage.InputStage.source.Goals as goal

pub returns-clause-read : goal.returns-clause-read
returns-clause-read g c = IfSome_then c.source.result c.source.ensures.fed (λ source fed lists told stands. was-read g.S.Source.seen c.args.self.now source.now lists told fed stands)
