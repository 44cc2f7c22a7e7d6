use Rattle.std.proofs.Common.{ap, sym, ◌∙◌, subst, refl}
use Rattle.chain_core.specs.CoreNumbers.{CoreNumbers, progress_of_core}
use Rattle.chain_core.specs.ChainRun.{AllEnded}
use Rattle.stage_run.specs.Seeing.{seeing}
use Rattle.chain_run.specs.Runs.{told_to}
use Rattle.chain_tells.specs.PrintingRounds.{PrintsRound}
use Rattle.chain_tells.specs.Rounds.{lines_of_rounds}
use Rattle.chain_tells.proofs.LiveLemmas.{parts-same, somehow-on}
use Rattle.chain_tells.proofs.RoundLemmas.{rounds-still}
use Rattle.chain_tells.proofs.round_run.run_told_rounds.Goals as goal

pub loop-alloc-init : goal.loop-alloc-init
loop-alloc-init g c = record {
  told = λ begun plugins name_of first has. has;
  runs = c.requires.runs;
  rows = c.requires.rows;
  same_rows = refl;
  plan = refl;
  next = c.requires.some_size;
}

pub tell_round-all_told-requires-clause-runs : goal.tell_round-all_told-requires-clause-runs
tell_round-all_told-requires-clause-runs g c κs within =
    let see = (seeing g.S.Source.seen g.K.Sink.seen g.P.Plugin.rule g.P.Plugin.stands_for g.P.Plugin.preallocated) in
    somehow-on see c.loop-alloc.chain c.round-moved.new.self c.loop-alloc.invariant.runs c.round-moved.ensures.runs

pub tell_round-all_told-requires-clause-rows : goal.tell_round-all_told-requires-clause-rows
tell_round-all_told-requires-clause-rows g c κs within =
    let see = (seeing g.S.Source.seen g.K.Sink.seen g.P.Plugin.rule g.P.Plugin.stands_for g.P.Plugin.preallocated) in
    c.loop-alloc.invariant.rows ∙ sym (parts-same see c.loop-alloc.chain c.round-moved.new.self c.loop-alloc.invariant.runs c.round-moved.ensures.runs)

pub returns-then-not-moved-clause-told : goal.returns-then-not-moved-clause-told
returns-then-not-moved-clause-told g c = λ begun plugins name_of first has.
    let see = (seeing g.S.Source.seen g.K.Sink.seen g.P.Plugin.rule g.P.Plugin.stands_for g.P.Plugin.preallocated) in
    let old = c.loop-alloc.chain in
    let new = c.round-moved.new.self in
    let told = c.loop-alloc.told in
    let h = c.loop-alloc.invariant.told begun plugins name_of first has in
    c.tell_round-all_told.ensures.told begun plugins name_of first
    (rounds-still see begun plugins name_of (PrintsRound g.D.Desk.seen g.T.RoundTexts.writes) first (c.loop-alloc.texts, c.loop-alloc.printing, c.loop-alloc.desk) told old.core old.parts.items old.cells.items h new.core new.parts.items new.cells.items
    (c.a_round_tells_nothing.ensures begun plugins name_of (λ _. told) told (lines_of_rounds h.rounds) old.core new.core old.parts.items new.parts.items old.cells.items new.cells.items h.tells
    (c.round-moved.ensures.runs (told_to begun (λ _. told)) h.tells.goes)))

pub returns-then-not-moved-clause-over : goal.returns-then-not-moved-clause-over
returns-then-not-moved-clause-over g c =
    subst (λ (core : CoreNumbers). AllEnded core.plan (progress_of_core core)) (sym c.tell_round-all_told.ensures.core) (c.round-moved.ensures.over c.if-not-moved.true)

pub returns-then-not-moved-clause-same_rows : goal.returns-then-not-moved-clause-same_rows
returns-then-not-moved-clause-same_rows g c = c.tell_round-all_told.ensures.same_rows ∙ c.loop-alloc.invariant.same_rows

pub loop-alloc-preserved : goal.loop-alloc-preserved
loop-alloc-preserved g c = record {
  told = λ begun plugins name_of first has.
      let see = (seeing g.S.Source.seen g.K.Sink.seen g.P.Plugin.rule g.P.Plugin.stands_for g.P.Plugin.preallocated) in
      let old = c.loop-alloc.chain in
      let new = c.round-moved.new.self in
      let told = c.loop-alloc.told in
      let h = c.loop-alloc.invariant.told begun plugins name_of first has in
      c.tell_round-all_told.ensures.told begun plugins name_of first
      (rounds-still see begun plugins name_of (PrintsRound g.D.Desk.seen g.T.RoundTexts.writes) first (c.loop-alloc.texts, c.loop-alloc.printing, c.loop-alloc.desk) told old.core old.parts.items old.cells.items h new.core new.parts.items new.cells.items
      (c.a_round_tells_nothing.ensures begun plugins name_of (λ _. told) told (lines_of_rounds h.rounds) old.core new.core old.parts.items new.parts.items old.cells.items new.cells.items h.tells
      (c.round-moved.ensures.runs (told_to begun (λ _. told)) h.tells.goes)));
  runs = c.tell_round-all_told.ensures.runs;
  rows = c.tell_round-all_told.ensures.rows;
  same_rows = c.tell_round-all_told.ensures.same_rows ∙ c.loop-alloc.invariant.same_rows;
  plan = ap (λ (core : CoreNumbers). core.plan) c.tell_round-all_told.ensures.core ∙ (c.round-moved.ensures.plan ∙ c.loop-alloc.invariant.plan);
  next = c.round-moved.ensures.next;
}
