use Rattle.std.proofs.Common.{◌≡◌, ◌+◌, ℕ, suc, List, map, drop, Result, Ok, Err, OnErr, ap, sym, ◌∙◌, subst, arith}
use Rattle.stage_run.specs.Seeing.{seeing}
use Rattle.plugin_trait.specs.declared.line.Line.{Line}
use Rattle.chain_rounds.specs.Merged.{merged}
use Rattle.chain_rounds.specs.Told.{told_by, place_of}
use Rattle.chain_rounds.specs.declared.told_line.ToldLine.{ToldLine}
use Rattle.chain_run.specs.Runs.{told_to}
use Rattle.chain_tells.specs.Taking.{TakesLines}
use Rattle.chain_tells.specs.Waiting.{told_rows}
use Rattle.chain_tells.proofs.NextLemmas.{set-row}
use Rattle.chain_tells.proofs.RowLemmas.{takes-none, marked, takes-more}
use Rattle.chain_tells.proofs.taking.+take_after.Goals as goal

next : (n : ℕ) → n + 1 ≡ suc n
next n = omega arith

on-err : {T E : Type 0} (r : Result T E) (P : Type 0) → P → OnErr r P
on-err (Ok x) P p = tt
on-err (Err e) P p = p

pub returns-then-plugin-len-clause-takes : goal.returns-then-plugin-len-clause-takes
returns-then-plugin-len-clause-takes g t c = λ begun goes.
    let see = (seeing g.S.Source.seen g.K.Sink.seen g.P.Plugin.rule g.P.Plugin.stands_for g.P.Plugin.preallocated) in
    let chain = c.args.chain.now in
    takes-none see begun chain.core chain.parts.items chain.cells.items goes c.args.plugin c.args.written c.args.rows.now.items c.requires.rows (omega arith)

pub returns-in_err-mark_one-clause-keeps : goal.returns-in_err-mark_one-clause-keeps
returns-in_err-mark_one-clause-keeps g t c = λ begun goes. on-err c.from_residual.result _ (c.mark_one.ensures.keeps begun goes)

pub returns-in_err-take_after-clause-keeps : goal.returns-in_err-take_after-clause-keeps
returns-in_err-take_after-clause-keeps g t c = λ begun goes.
    let kept = c.mark_one.ensures.keeps begun goes in
    let later = c.in_err-take_after.ensures.keeps begun kept.now in
    on-err c.from_residual-in_err-take_after.result _ (record { now = later.now; visits_are = later.visits_are ∙ kept.visits_are })

pub returns-clause-takes : goal.returns-clause-takes
returns-clause-takes g t c = λ begun goes.
    let see = (seeing g.S.Source.seen g.K.Sink.seen g.P.Plugin.rule g.P.Plugin.stands_for g.P.Plugin.preallocated) in
    let chain = c.args.chain.now in
    let one = c.mark_one.new.chain in
    let two = c.take_after.new.chain in
    let three = c.take_one-lines.new.chain in
    let rows = c.take_after.new.rows.items in
    let j = c.args.plugin in
    let first = c.in_ok-mark_one.ensures.marks begun goes in
    let rest = subst (λ (n : ℕ). TakesLines see begun first.runs.now.runs.visits first.runs.now.runs.lists n c.args.written (told_rows n (drop n rows)) two.core two.parts.items two.cells.items) (next j)
    (c.in_ok-take_after.ensures.takes begun first.runs.now) in
    let own = c.take_one-lines.ensures.gives (told_to begun rest.told) c.args.written rest.runs.now
    (marked see begun chain.core chain.parts.items chain.cells.items goes j c.args.written one.core one.parts.items one.cells.items first two.core two.parts.items two.cells.items (told_rows (suc j) (drop (suc j) rows)) rest) in
    subst (λ (l : List ToldLine). TakesLines see begun goes.runs.visits goes.runs.lists j c.args.written l three.core three.parts.items three.cells.items)
    (sym (set-row rows j (record { lines = c.from_vec.result }) (omega (arith, c.requires.rows, c.take_after.ensures.rows))
    ∙ ap (λ (l : List Line). merged place_of (map (told_by (suc j)) l) (told_rows (suc j) (drop (suc j) rows))) c.from_vec.ensures.items))
    (takes-more see begun chain.core chain.parts.items chain.cells.items goes j c.args.written one.core one.parts.items one.cells.items first two.core two.parts.items two.cells.items
    (told_rows (suc j) (drop (suc j) rows)) rest three.core three.parts.items three.cells.items c.take_one-lines.result.items own (omega arith))
