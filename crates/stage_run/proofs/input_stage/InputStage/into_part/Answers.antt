use Rattle.std.proofs.Common.{sym, subst}
use Rattle.stage_run.specs.declared.input_part.InputPart.{InputPart}
use Rattle.stage_run.specs.InputStands.{stuffing_of}
use Rattle.stage_run.specs.Parts.{LeavesInput}
use Rattle.stage_run.specs.SourceNow.{WasReadOf}
use Rattle.stage_run.proofs.PartLemmas.{leaves_input, some_list}
use Rattle.stage_run.proofs.SourceNowLemmas.{left-read}
use Rattle.stage_run.proofs.input_stage.InputStage.into_part.Goals as goal

pub returns-clause-leaves : goal.returns-clause-leaves
returns-clause-leaves g c = λ lists told stands.
    subst (λ (p : InputPart g.row.S.Denot). LeavesInput g.S.Source.seen p (stuffing_of c.args.self.stuffing) lists told) (sym c.into_part.ensures)
    (leaves_input g.S.Source.seen c.args.self lists told stands)

pub returns-clause-some_list : goal.returns-clause-some_list
returns-clause-some_list g c = λ lists told stands. some_list g.S.Source.seen c.args.self lists told stands

pub returns-clause-read : goal.returns-clause-read
returns-clause-read g c = λ lists told stands.
    subst (λ (p : InputPart g.row.S.Denot). WasReadOf g.S.Source.seen p (stuffing_of c.args.self.stuffing) lists) (sym c.into_part.ensures)
    (left-read g.S.Source.seen c.args.self lists told stands)
