use Rattle.std.proofs.Common.{◌≡◌, ◌-◌, ◌++◌, ℕ, suc, List, Result, Ok, Err, OnErr, refl, ap, sym, ◌∙◌, subst, arith}
use Rattle.std.specs.List.{AllByRecursion}
use Rattle.std.proofs.lemmas.Result.{IfOk-weaker}
use Rattle.chain_core.specs.declared.progress.Progress.{Progress}
use Rattle.chain_core.specs.CoreNumbers.{progress_of_core}
use Rattle.stage_run.specs.Seeing.{seeing}
use Rattle.chain_run.specs.Runs.{told_to}
use Rattle.chain_core.specs.ChainRun.{state_after}
use Rattle.chain_rounds.specs.declared.told_line.ToldLine.{ToldLine}
use Rattle.chain_tells.specs.Rounds.{IsWithin}
use Rattle.chain_tells.specs.Taking.{met_in}
use Rattle.chain_tells.specs.Telling.{Tells}
use Rattle.chain_tells.specs.Waiting.{told_rows}
use Rattle.chain_tells.proofs.RoundLemmas.{told-within}
use Rattle.chain_tells.proofs.TellLemmas.{tells-more, tells-kept}
use Rattle.chain_tells.proofs.taking.take_told.Goals as goal

on-err-then : {T E : Type 0} (r : Result T E) (P Q : Type 0) → OnErr r P → (P → Q) → OnErr r Q
on-err-then (Ok x) P Q p f = tt
on-err-then (Err e) P Q p f = f p

pub returns-clause-tells : goal.returns-clause-tells
returns-clause-tells g c = λ begun plugins name_of before told tells.
    let see = (seeing g.S.Source.seen g.K.Sink.seen g.P.Plugin.rule g.P.Plugin.stands_for g.P.Plugin.preallocated) in
    let chain = c.args.chain.now in
    let new = c.take_after.new.chain in
    let lines = told_rows 0 c.take_after.new.rows.items in
    let stages = tells.goes.fits.stages_are in
    let place : c.len-output.result - 1 ≡ suc begun.plan.plugins = omega (arith, stages) in
    let is : c.progress-written.result.given ≡ (progress_of_core chain.core (suc begun.plan.plugins)).given =
    ap (λ (p : Progress). p.given) (c.progress-written.ensures ∙ ap (λ (n : ℕ). progress_of_core chain.core n) place) in
    IfOk-weaker c.take_after.result _ _
    (λ done takes. subst (λ (n : ℕ). Tells see begun plugins name_of (λ _. n) n (told ++ lines) new.core new.parts.items new.cells.items) is
    (tells-more see begun plugins name_of c.machine_laws.ensures (λ _. before) before told chain.core chain.parts.items chain.cells.items tells
    c.progress-written.result.given is lines (takes.lines_are before (λ i a b. refl)) takes.told (λ i lt. takes.own i (omega arith) lt) new.core new.parts.items new.cells.items takes.runs))
    (c.take_after.ensures.takes (told_to begun (λ _. before)) tells.goes)

pub returns-clause-keeps : goal.returns-clause-keeps
returns-clause-keeps g c = λ begun plugins name_of taken before told tells.
    let see = (seeing g.S.Source.seen g.K.Sink.seen g.P.Plugin.rule g.P.Plugin.stands_for g.P.Plugin.preallocated) in
    let chain = c.args.chain.now in
    let new = c.take_after.new.chain in
    on-err-then c.take_after.result _ _ (c.take_after.ensures.keeps (told_to begun taken) tells.goes)
    (λ still. tells-kept see begun plugins name_of c.machine_laws.ensures taken before told chain.core chain.parts.items chain.cells.items tells new.core new.parts.items new.cells.items still)

pub returns-clause-within : goal.returns-clause-within
returns-clause-within g c = λ begun plugins name_of before told tells.
    let chain = c.args.chain.now in
    let lines = told_rows 0 c.take_after.new.rows.items in
    let stages = tells.goes.fits.stages_are in
    let place : c.len-output.result - 1 ≡ suc begun.plan.plugins = omega (arith, stages) in
    let written = (progress_of_core chain.core (suc begun.plan.plugins)).given in
    let is : c.progress-written.result.given ≡ written =
    ap (λ (p : Progress). p.given) (c.progress-written.ensures ∙ ap (λ (n : ℕ). progress_of_core chain.core n) place) in
    IfOk-weaker c.take_after.result _ _
    (λ done takes.
    let within = told-within before c.progress-written.result.given (met_in (state_after begun.plan tells.goes.runs.visits)) 0 begun.rules in
    subst (λ (n : ℕ). AllByRecursion (IsWithin before n) lines) is
    (subst (λ (l : List ToldLine). AllByRecursion (IsWithin before c.progress-written.result.given) l) (sym (takes.lines_are before (λ i a b. refl))) within))
    (c.take_after.ensures.takes (told_to begun (λ _. before)) tells.goes)
