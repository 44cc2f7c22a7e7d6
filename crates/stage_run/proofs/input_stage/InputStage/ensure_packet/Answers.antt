use Rattle.stage_run.proofs.InputLemmas.{InputGoes-look, None-from_is_some}
use Rattle.std.proofs.Common.{◌≡◌, None, sym, arith, ◌∙◌}
use Rattle.stage_run.proofs.input_stage.InputStage.ensure_packet.Goals as goal

pub returns-clause-goes : goal.returns-clause-goes
returns-clause-goes g c = λ lists holds.
    let goes_on : c.args.self.now.ended ≡ None = None-from_is_some c.args.self.now.ended (sym c.is_some.ensures ∙ c.if-is_some.false) in
    InputGoes-look g.S.Source.seen c.args.self.now c.ensure_packet-self.new.self c.stop_count-self.result c.ensure_packet-self.result lists c.args.wanted
    (omega arith) goes_on c.stop_count-self.ensures holds c.ensure_packet-self.ensures.looks
