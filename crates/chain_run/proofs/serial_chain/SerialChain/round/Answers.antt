use Rattle.std.proofs.Common.{◌≡◌, ◌⊎◌, ◌+◌, ◌<◌, ◌≤◌, ℕ, suc, Bool, true, false, length, refl, ap, sym, ◌∙◌, subst, arith, inl, inr}
use Rattle.std.specs.Prelude.{◌||◌}
use Rattle.std.proofs.lemmas.Bool.{cases_Bool}
use Rattle.chain_core.specs.declared.core_plan.CorePlan.{CorePlan}
use Rattle.chain_core.specs.Numbers.{StagesProgress}
use Rattle.chain_core.specs.CoreNumbers.{progress_of_core}
use Rattle.chain_run.specs.SerialRuns.{IsIdleOrOver, remaining_work}
use Rattle.stage_run.specs.Seeing.{seeing}
use Rattle.chain_run.proofs.ProgressLemmas.{Turned, one-more, over-of}
use Rattle.chain_run.proofs.TurnLaws.{ran-twice, rests-there}
use Rattle.chain_run.proofs.serial_chain.SerialChain.round.Goals as goal

pub loop-stage-init : goal.loop-stage-init
loop-stage-init g c =
    let chain = c.args.self.now in
    record {
      runs = λ begun goes. rests-there (seeing g.S.Source.seen g.K.Sink.seen g.P.Plugin.rule g.P.Plugin.stands_for g.P.Plugin.preallocated) begun chain.core chain.parts.items chain.cells.items goes;
      plan = refl;
      parts = refl;
      next = c.requires.next;
      moved = λ e. cc;
      rests = λ e. refl;
      idle = λ e stage lt. absurd (omega arith);
    }

pub turn-turned-requires-clause-runs : goal.turn-turned-requires-clause-runs
turn-turned-requires-clause-runs g c κs within = (c.requires.runs.0, (c.loop-stage.invariant.runs c.requires.runs.0 c.requires.runs.1).now)

pub loop-stage-preserved : goal.loop-stage-preserved
loop-stage-preserved g c =
    let plan : CorePlan = c.args.self.now.core.plan in
    let n : ℕ = plan.plugins + 2 in
    let start : StagesProgress = progress_of_core c.args.self.now.core in
    let old : StagesProgress = progress_of_core c.loop-stage.self.core in
    let new : StagesProgress = progress_of_core c.turn-turned.new.self.core in
    let branch : ((c.turn-turned.result ≡ true) × (c.one_holds-moved.result ≡ true)) ⊎ ((c.turn-turned.result ≡ false) × (c.one_holds-moved.result ≡ c.loop-stage.moved)) =
    elim (cases_Bool c.turn-turned.result) [
      | inl yes_ ↦ inl (yes_, c.one_holds-moved.ensures ∙ ap (λ (b : Bool). b || c.loop-stage.moved) yes_)
      | inr no_ ↦ inr (no_, c.one_holds-moved.ensures ∙ ap (λ (b : Bool). b || c.loop-stage.moved) no_)
    ] in
    let turned : Turned plan start new n (c.loop-stage.stage + 1) c.one_holds-moved.result =
    one-more plan start old new n c.loop-stage.stage c.loop-stage.moved c.turn-turned.result c.one_holds-moved.result branch
    (record { moves = c.loop-stage.invariant.moved; rests = c.loop-stage.invariant.rests; idle = c.loop-stage.invariant.idle })
    (subst (λ (p : CorePlan). c.turn-turned.result ≡ true → remaining_work new (p.plugins + 2) < remaining_work old (p.plugins + 2)) c.loop-stage.invariant.plan c.turn-turned.ensures.moved)
    c.turn-turned.ensures.rests
    (subst (λ (p : CorePlan). c.turn-turned.result ≡ false → IsIdleOrOver p new c.loop-stage.stage) c.loop-stage.invariant.plan c.turn-turned.ensures.idle) in
    record {
      runs = λ begun goes. let first = c.loop-stage.invariant.runs begun goes in
          ran-twice (seeing g.S.Source.seen g.K.Sink.seen g.P.Plugin.rule g.P.Plugin.stands_for g.P.Plugin.preallocated) begun goes.runs.visits
          c.loop-stage.self.core c.turn-turned.new.self.core c.loop-stage.self.parts.items c.turn-turned.new.self.parts.items c.loop-stage.self.cells.items c.turn-turned.new.self.cells.items
          first (c.turn-turned.ensures.runs begun first.now);
      plan = c.turn-turned.ensures.plan ∙ c.loop-stage.invariant.plan;
      parts = c.turn-turned.ensures.parts ∙ c.loop-stage.invariant.parts;
      next = c.after.ensures;
      moved = turned.moves;
      rests = turned.rests;
      idle = turned.idle;
    }

pub returns-clause-over : goal.returns-clause-over
returns-clause-over g c = λ rests.
    let begun = c.requires.runs.0 in
    let before = c.requires.runs.1 in
    let goes = (c.loop-stage.invariant.runs begun before).now in
    let stages : length c.args.self.now.parts.items ≡ c.args.self.now.core.plan.plugins + 2 =
    c.requires.runs.1.fits.stages_are ∙ (let e = c.requires.runs.1.fits.plan_is in subst (λ (p : CorePlan). c.requires.runs.0.plan.plugins + 2 ≡ p.plugins + 2) (sym e) refl) in
    let idle : (stage : ℕ) → stage ≤ suc c.args.self.now.core.plan.plugins → IsIdleOrOver c.args.self.now.core.plan (progress_of_core c.loop-stage.self.core) stage =
    λ stage le. subst (λ (m : StagesProgress). IsIdleOrOver c.args.self.now.core.plan m stage) (sym (c.loop-stage.invariant.rests rests))
    (c.loop-stage.invariant.idle rests stage (omega (arith, stages))) in
    over-of begun.plan c.loop-stage.self.core goes.runs.visits goes.fits.plan_is goes.fits.run.valid goes.runs.by.ran.run goes.runs.by.numbers c.machine_laws.ensures.quiet
    (subst (λ (p : CorePlan). (stage : ℕ) → stage ≤ suc p.plugins → IsIdleOrOver p (progress_of_core c.loop-stage.self.core) stage) before.fits.plan_is idle)
