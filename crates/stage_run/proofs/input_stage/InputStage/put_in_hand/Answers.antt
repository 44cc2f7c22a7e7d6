use Rattle.std.proofs.Common.{take, ◌∙◌, sym, arith}
use Rattle.cell_rows.specs.Cells.{cells_of}
use Rattle.stage_run.proofs.InputLemmas.{InputGoes-none, InputGoes-put_all, None-from_is_some}
use Rattle.stage_run.proofs.input_stage.InputStage.put_in_hand.Goals as goal

pub returns-clause-goes : goal.returns-clause-goes
returns-clause-goes g c = λ lists wanted holds.
    let old = c.args.self.now in
    InputGoes-put_all g.S.Source.seen old c.put_in_hand.new.self lists wanted (take c.put_in_hand.result (cells_of c.put_in_hand.new.packets c.put_in_hand.new.marks))
    (omega arith) (omega arith) (None-from_is_some old.ended (sym c.is_some.ensures ∙ c.if-is_some.false)) holds c.put_in_hand.ensures.puts

pub returns-then-self-gt0-clause-goes : goal.returns-then-self-gt0-clause-goes
returns-then-self-gt0-clause-goes g c = λ lists wanted holds. InputGoes-none g.S.Source.seen c.args.self.now lists wanted holds

pub returns-then-self-gt0-2-clause-goes : goal.returns-then-self-gt0-2-clause-goes
returns-then-self-gt0-2-clause-goes g c = λ lists wanted holds. InputGoes-none g.S.Source.seen c.args.self.now lists wanted holds

pub returns-then-is_some-clause-goes : goal.returns-then-is_some-clause-goes
returns-then-is_some-clause-goes g c = λ lists wanted holds. InputGoes-none g.S.Source.seen c.args.self.now lists wanted holds
