use Rattle.std.proofs.Common.{subst, sym}
use Rattle.ts_packet.specs.Cells.{Live, live_packets}
use Rattle.plugin_trait.specs.Steps.{StepTells, left_of, met_after}
use Rattle.plugin_trait.specs.Unmarked.{unmarked}
use Rattle.plug_rename.specs.RenameRule.{rename_rule}
use Rattle.plug_rename.specs.RenameState.{MeetsHistory}
use Rattle.plug_rename.proofs.StepLemmas.{meets-turn, met-ended, tells-turn}
use Rattle.plug_rename.proofs.rename_steps.RenameStepsSteps.step.Goals as goal

pub returns-in-Ok-clause-tells : goal.returns-in-Ok-clause-tells
returns-in-Ok-clause-tells c = λ history mark s count.
    let labels = c.args._labels.now in
    let left = c.take.new.packet in
    subst (λ outcome. StepTells (rename_rule c.args.self.now.conf) history (Live c.args.packet.now labels) outcome (left_of outcome left labels)) (sym c.outcome_by.ensures)
    (tells-turn c.args.self.now.conf history c.args.packet.now left labels c.in-Ok.turn (c.in-Ok.ensures.tells (live_packets history) s.0.0))

pub returns-in-Ok-clause-meets : goal.returns-in-Ok-clause-meets
returns-in-Ok-clause-meets c = λ history mark s count.
    let told = c.in-Ok.ensures in
    let labels = c.args._labels.now in
    subst (λ outcome. unmarked (MeetsHistory c.take.new.self) (met_after outcome history (Live c.args.packet.now labels)) mark) (sym c.outcome_by.ensures)
    (meets-turn c.args.self.now c.take.new.self mark history told.conf s c.args.packet.now labels c.args.at count c.in-Ok.turn told.stands told.found told.refused)

pub returns-in-Err-clause-meets : goal.returns-in-Err-clause-meets
returns-in-Err-clause-meets c = λ history mark s count.
    let told = c.in-Err.ensures in
    met-ended c.args.self.now c.take.new.self mark history told.conf s told.spent told.not_found
