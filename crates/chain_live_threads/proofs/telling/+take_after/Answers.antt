use Rattle.std.proofs.Common.{◌≡◌, ℕ, suc, ◌+◌, ◌<◌, length, Result, Ok, Err, sym, subst, arith, rules}
use Rattle.std.specs.Prelude.{OnErr}
use borrow.Author.Rules.{scaled_Fits}
use Rattle.std.proofs.lemmas.List.{length-set}
use Rattle.stage_run.specs.Seeing.{seeing}
use Rattle.chain_live_threads.specs.Marking.{IsMarked}
use Rattle.chain_live_threads.proofs.RowLemmas.{plugin-at, serves-at, gave-none, one-beside, one-other, one-serves, here, later-beside, later-other, at-later, all-beside, all-other, row-gave}
use Rattle.chain_live_threads.proofs.ToldLemmas.{beside-all}
use Rattle.chain_live_threads.proofs.telling.+take_after.Goals as goal

next : (n : ℕ) → n + 1 ≡ suc n
next n = omega arith

on-err : {T E : Type 0} (r : Result T E) (P : Type 0) → P → OnErr r P
on-err (Ok x) P p = tt
on-err (Err e) P p = p

pub returns-then-plugin-row-clause-same : goal.returns-then-plugin-row-clause-same
returns-then-plugin-row-clause-same g t c = beside-all c.args.row.now

pub returns-then-plugin-row-clause-gave : goal.returns-then-plugin-row-clause-gave
returns-then-plugin-row-clause-gave g t c = λ begun base table s.
    gave-none (seeing g.S.Source.seen g.K.Sink.seen g.P.Plugin.rule g.P.Plugin.stands_for g.P.Plugin.preallocated) begun base table c.args.row.now c.args.plugin c.args.lines.now.rows.items s c.requires.rows (omega arith)

pub mark-requires : goal.mark-requires
mark-requires g t c =
    let see = (seeing g.S.Source.seen g.K.Sink.seen g.P.Plugin.rule g.P.Plugin.stands_for g.P.Plugin.preallocated) in let r = c.requires.serves in let row = c.args.row.now in let j = c.args.plugin in let d = c.index-row-plugin.result in
    record { plugin = (r.0, r.1, r.2, j, plugin-at see r.0 r.1 r.2 row j d r.3 (omega arith), serves-at see r.0 r.1 r.2 row j d r.3 (omega arith)) }

pub returns-in_err-mark-clause-same : goal.returns-in_err-mark-clause-same
returns-in_err-mark-clause-same g t c = one-beside c.args.row.now c.args.plugin c.index-row-plugin.result c.mark.new.self (omega arith) c.mark.ensures.same

pub returns-in_err-mark-clause-untouched : goal.returns-in_err-mark-clause-untouched
returns-in_err-mark-clause-untouched g t c = λ i e less. one-other c.args.row.now c.args.plugin c.index-row-plugin.result c.mark.new.self (omega arith) c.mark.ensures.same i e less

pub returns-in_err-mark-clause-keeps : goal.returns-in_err-mark-clause-keeps
returns-in_err-mark-clause-keeps g t c = λ begun base table s.
    let see = (seeing g.S.Source.seen g.K.Sink.seen g.P.Plugin.rule g.P.Plugin.stands_for g.P.Plugin.preallocated) in let row = c.args.row.now in let j = c.args.plugin in let d = c.index-row-plugin.result in
    on-err c.from_residual.result _ (one-serves row j d c.mark.new.self (omega arith) c.mark.ensures.same see begun base table s
    (c.mark.ensures.serves begun base table j (plugin-at see begun base table row j d s (omega arith)) (serves-at see begun base table row j d s (omega arith))))

pub offset_bounds-row-plugin : goal.offset_bounds-row-plugin
offset_bounds-row-plugin g t c =
    let within : c.args.plugin < length c.args.row.now = omega arith in
    search rules

pub offset_bounds-row-plugin-2 : goal.offset_bounds-row-plugin-2
offset_bounds-row-plugin-2 g t c =
    let within : c.args.plugin < length c.args.row.now = omega arith in
    search (scaled_Fits, within)

pub take_after-requires : goal.take_after-requires
take_after-requires g t c = λ κs within.
    let see = (seeing g.S.Source.seen g.K.Sink.seen g.P.Plugin.rule g.P.Plugin.stands_for g.P.Plugin.preallocated) in let r = c.requires.serves in let row = c.args.row.now in let j = c.args.plugin in let d = c.index-row-plugin.result in
    let long = length-set row j c.mark.new.self in
    let more : j + 1 < length row = omega arith in (
      omega (arith, more, long, c.decreases),
      (
        within.0,
        (
          within.1.0,
          (
            within.1.1,
            (
              (
                r.0,
                r.1,
                r.2,
                one-serves row j d c.mark.new.self more c.mark.ensures.same see r.0 r.1 r.2 r.3
                    (c.mark.ensures.serves r.0 r.1 r.2 j (plugin-at see r.0 r.1 r.2 row j d r.3 more) (serves-at see r.0 r.1 r.2 row j d r.3 more)),
              ),
              (omega (arith, more, long), omega (arith, c.requires.rows, long)),
            ),
          ),
        ),
      ),
    )

pub returns-in_err-take_after-clause-same : goal.returns-in_err-take_after-clause-same
returns-in_err-take_after-clause-same g t c =
    later-beside c.args.row.now c.args.plugin c.index-row-plugin.result c.mark.new.self (omega arith) c.mark.ensures.same c.take_after.new.row c.take_after.ensures.same c.take_after.ensures.untouched

pub returns-in_err-take_after-clause-untouched : goal.returns-in_err-take_after-clause-untouched
returns-in_err-take_after-clause-untouched g t c = λ i e less.
    later-other c.args.row.now c.args.plugin c.index-row-plugin.result c.mark.new.self (omega arith) c.mark.ensures.same c.take_after.new.row c.take_after.ensures.same c.take_after.ensures.untouched i e less

pub returns-in_err-take_after-clause-keeps : goal.returns-in_err-take_after-clause-keeps
returns-in_err-take_after-clause-keeps g t c = λ begun base table s.
    let see = (seeing g.S.Source.seen g.K.Sink.seen g.P.Plugin.rule g.P.Plugin.stands_for g.P.Plugin.preallocated) in let row = c.args.row.now in let j = c.args.plugin in let d = c.index-row-plugin.result in
    on-err c.from_residual-in_err-take_after.result _ (c.in_err-take_after.ensures.keeps begun base table
    (one-serves row j d c.mark.new.self (omega arith) c.mark.ensures.same see begun base table s
    (c.mark.ensures.serves begun base table j (plugin-at see begun base table row j d s (omega arith)) (serves-at see begun base table row j d s (omega arith)))))

pub take_lines-taken-requires : goal.take_lines-taken-requires
take_lines-taken-requires g t c =
    let see = (seeing g.S.Source.seen g.K.Sink.seen g.P.Plugin.rule g.P.Plugin.stands_for g.P.Plugin.preallocated) in let r = c.requires.serves in let row = c.args.row.now in let j = c.args.plugin in let d = c.index-row-plugin.result in
    let at = plugin-at see r.0 r.1 r.2 row j d r.3 (omega arith) in
    let e = c.index-row-plugin-2.result in
    record {
      plugin = (
        r.0,
        r.1,
        r.2,
        j,
        at-later row j d c.mark.new.self (omega arith) c.mark.ensures.same c.take_after.new.row c.take_after.ensures.same c.take_after.ensures.untouched see r.0 r.1 r.2 e at,
        subst (IsMarked see r.0 r.1 r.2) (sym (here row j d c.mark.new.self (omega arith) c.mark.ensures.same c.take_after.new.row c.take_after.ensures.same c.take_after.ensures.untouched e))
            (c.in_ok-mark.ensures.marked r.0 r.1 r.2 j at (serves-at see r.0 r.1 r.2 row j d r.3 (omega arith))),
      );
    }

pub put-requires : goal.put-requires
put-requires g t c = omega (arith, c.requires.rows, c.take_after.ensures.rows)

pub returns-clause-same : goal.returns-clause-same
returns-clause-same g t c =
    all-beside c.args.row.now c.args.plugin c.index-row-plugin.result c.mark.new.self (omega arith) c.mark.ensures.same c.take_after.new.row c.take_after.ensures.same c.take_after.ensures.untouched
    c.index-row-plugin-2.result c.take_lines-taken.new.self c.take_lines-taken.ensures.same

pub returns-clause-untouched : goal.returns-clause-untouched
returns-clause-untouched g t c = λ i f less.
    all-other c.args.row.now c.args.plugin c.index-row-plugin.result c.mark.new.self (omega arith) c.mark.ensures.same c.take_after.new.row c.take_after.ensures.same c.take_after.ensures.untouched
    c.index-row-plugin-2.result c.take_lines-taken.new.self c.take_lines-taken.ensures.same i f less

pub returns-clause-gave : goal.returns-clause-gave
returns-clause-gave g t c = λ begun base table s.
    let see = (seeing g.S.Source.seen g.K.Sink.seen g.P.Plugin.rule g.P.Plugin.stands_for g.P.Plugin.preallocated) in let row = c.args.row.now in let j = c.args.plugin in let d = c.index-row-plugin.result in
    let at = plugin-at see begun base table row j d s (omega arith) in
    let was = serves-at see begun base table row j d s (omega arith) in
    let e = c.index-row-plugin-2.result in
    let first = one-serves row j d c.mark.new.self (omega arith) c.mark.ensures.same see begun base table s (c.mark.ensures.serves begun base table j at was) in
    let marked = subst (IsMarked see begun base table) (sym (here row j d c.mark.new.self (omega arith) c.mark.ensures.same c.take_after.new.row c.take_after.ensures.same c.take_after.ensures.untouched e))
    (c.in_ok-mark.ensures.marked begun base table j at was) in
    let later = at-later row j d c.mark.new.self (omega arith) c.mark.ensures.same c.take_after.new.row c.take_after.ensures.same c.take_after.ensures.untouched see begun base table e at in
    row-gave row j d c.mark.new.self (omega arith) c.mark.ensures.same c.take_after.new.row c.take_after.ensures.same c.take_after.ensures.untouched
    e c.take_lines-taken.new.self c.take_lines-taken.ensures.same see begun base table s (j + 1) (next j) c.take_after.new.lines.rows.items c.put.new.self.rows.items
    (c.in_ok-take_after.ensures.gave begun base table first) c.take_lines-taken.result.items (c.take_lines-taken.ensures.gave begun base table j later marked)
    (omega (arith, c.requires.rows, c.take_after.ensures.rows)) c.put.ensures.0 c.put.ensures.1 c.put.ensures.2
