use Rattle.std.proofs.Common.{◌≡◌, ◌-◌, ◌++◌, ℕ, suc, length, ap, sym, ◌∙◌, subst, arith}
use Rattle.std.specs.List.{AllByRecursion}
use Rattle.chain_core.specs.declared.progress.Progress.{Progress}
use Rattle.chain_core.specs.declared.core_plan.CorePlan.{CorePlan}
use Rattle.chain_core.specs.CoreNumbers.{CoreNumbers, progress_of_core}
use Rattle.chain_core.specs.ChainRun.{state_after}
use Rattle.stage_run.specs.Seeing.{seeing}
use Rattle.chain_tells.specs.PrintingRounds.{PrintsRound}
use Rattle.chain_tells.specs.Rounds.{IsWithin, lines_of_rounds}
use Rattle.chain_tells.specs.Telling.{Tells}
use Rattle.chain_tells.specs.Waiting.{waiting}
use Rattle.chain_tells.proofs.LiveLemmas.{when-ok, when-err}
use Rattle.chain_tells.proofs.RoundLemmas.{rounds-still, rounds-more, source-reaches}
use Rattle.chain_tells.proofs.round_run.tell_round.Goals as goal

pub returns-then-is_err-clause-told : goal.returns-then-is_err-clause-told
returns-then-is_err-clause-told g c = λ begun plugins name_of first has.
    let see = (seeing g.S.Source.seen g.K.Sink.seen g.P.Plugin.rule g.P.Plugin.stands_for g.P.Plugin.preallocated) in
    let old = c.args.chain.now in
    let new = c.take_told.new.chain in
    let told = c.args.told.now in
    rounds-still see begun plugins name_of (PrintsRound g.D.Desk.seen g.T.RoundTexts.writes) first (c.args.texts.now, c.args.printing.now, c.args.desk.now) told old.core old.parts.items old.cells.items has new.core new.parts.items new.cells.items
    (when-err c.take_told.result _ (sym c.is_err.ensures.value ∙ c.if-is_err.true) (c.take_told.ensures.keeps begun plugins name_of (λ _. told) told (lines_of_rounds has.rounds) has.tells))

pub returns-clause-told : goal.returns-clause-told
returns-clause-told g c = λ begun plugins name_of first has.
    let see = (seeing g.S.Source.seen g.K.Sink.seen g.P.Plugin.rule g.P.Plugin.stands_for g.P.Plugin.preallocated) in
    let old = c.args.chain.now in
    let new = c.take_told.new.chain in
    let told = c.args.told.now in
    let ok = sym c.is_err.ensures.value ∙ c.if-is_err.false in
    let lines = waiting c.take_told.new.lines in
    let written = (progress_of_core old.core (suc begun.plan.plugins)).given in
    let tells = when-ok c.take_told.result _ ok (c.take_told.ensures.tells begun plugins name_of told (lines_of_rounds has.rounds) has.tells) in
    let within = when-ok c.take_told.result _ ok (c.take_told.ensures.within begun plugins name_of told (lines_of_rounds has.rounds) has.tells) in
    let stages = tells.goes.fits.stages_are in
    let place : c.len-output.result - 1 ≡ suc begun.plan.plugins = omega (arith, stages) in
    let is : c.progress-written.result.given ≡ written =
    ap (λ (p : Progress). p.given) (c.progress-written.ensures ∙ ap (λ (n : ℕ). progress_of_core new.core n) place)
    ∙ ap (λ (core : CoreNumbers). (progress_of_core core (suc begun.plan.plugins)).given) c.take_told.ensures.core in
    let tells_to = subst (λ (n : ℕ). Tells see begun plugins name_of (λ _. n) n (lines_of_rounds has.rounds ++ lines) new.core new.parts.items new.cells.items) (sym is) tells in
    let within_to = subst (λ (n : ℕ). AllByRecursion (IsWithin told n) lines) (sym is) within in
    let reached : written ≡ length ((state_after begun.plan has.tells.goes.runs.visits).stages (suc begun.plan.plugins)).given =
    ap (λ (p : Progress). p.given) (has.tells.goes.runs.by.numbers.progress (suc begun.plan.plugins)) in
    rounds-more see begun plugins name_of (PrintsRound g.D.Desk.seen g.T.RoundTexts.writes) first (c.args.texts.now, c.args.printing.now, c.args.desk.now) told old.core old.parts.items old.cells.items has new.core new.parts.items new.cells.items
    c.progress-written.result.given lines _ (c.print_round.new.texts, c.print_round.new.printing, c.print_round.new.desk) tells_to (omega (arith, is, reached, has.tells.given)) within_to
    (source-reaches see c.machine_laws.ensures begun (λ _. c.progress-written.result.given) new.core new.parts.items new.cells.items tells_to.goes c.progress-written.result.given tells_to.given
    c.index.result.now c.index.ensures c.source-source.result c.source-source.ensures.read c.source-source.ensures.some c.source-source.ensures.none)
    c.print_round.ensures.prints

pub returns-clause-all : goal.returns-clause-all
returns-clause-all g c = λ is.
    let new = c.take_told.new.chain in
    let fits = c.take_told.ensures.runs.1.fits in
    let plan = ap (λ (p : CorePlan). p.plugins) fits.plan_is in
    let place : c.len-output.result - 1 ≡ suc new.core.plan.plugins = omega (arith, fits.stages_are, plan) in
    ap (λ (p : Progress). p.given) (c.progress-written.ensures ∙ ap (λ (n : ℕ). progress_of_core new.core n) place)
