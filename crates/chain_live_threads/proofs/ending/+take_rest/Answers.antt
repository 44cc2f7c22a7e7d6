use Rattle.std.proofs.Common.{◌≡◌, ℕ, suc, ◌+◌, ◌<◌, List, length, map, drop, rules, Result, Ok, Err, ap, sym, ◌∙◌, subst, arith}
use Rattle.std.specs.Prelude.{OnErr, slice_set}
use Rattle.std.proofs.lemmas.List.{length-set, get_or-set_other}
use Rattle.chain_model.specs.StageLists.{stage_list}
use Rattle.plugin_trait.specs.declared.heard.Heard.{Heard}
use Rattle.plugin_trait.specs.declared.line.Line.{Line}
use Rattle.chain_rounds.specs.Merged.{merged}
use Rattle.chain_rounds.specs.Told.{told_by, place_of}
use Rattle.chain_rounds.specs.declared.told_line.ToldLine.{ToldLine}
use Rattle.chain_tells.specs.Waiting.{told_rows}
use Rattle.chain_tells.specs.declared.line_row.LineRow.{LineRow}
use Rattle.chain_tells.proofs.NextLemmas.{set-row}
use Rattle.chain_live_threads.specs.Ending.{TakesRest}
use Rattle.chain_live_threads.proofs.RestLemmas.{takes-none, own-met, later-met, kept-one, keeps-later, takes-more, rules-one, here}
use Rattle.chain_live_threads.proofs.ending.+take_rest.Goals as goal

next : (n : ℕ) → suc n ≡ n + 1
next n = omega arith

on-err : {T E : Type 0} (r : Result T E) (P : Type 0) → P → OnErr r P
on-err (Ok x) P p = tt
on-err (Err e) P p = p

pub returns-then-plugin-len-clause-takes : goal.returns-then-plugin-len-clause-takes
returns-then-plugin-len-clause-takes g t c = λ rules input gave from met.
    takes-none g.P.Plugin.rule g.P.Plugin.stands_for rules input gave from c.args.cut c.args.plugin c.args.plugins.now.items c.args.lines.now.rows.items (omega arith) (omega (arith, c.requires.rows))

pub mark_rest-requires : goal.mark_rest-requires
mark_rest-requires g t c =
    let r = c.requires.met in
    record { met = (_, _, r.3, own-met g.P.Plugin.rule g.P.Plugin.stands_for r.0 r.1 r.2 r.3 c.args.cut c.args.plugin c.args.plugins.now.items (omega arith) c.index_mut.result.now c.index_mut.ensures.value r.4) }

pub returns-in_err-mark_rest-clause-keeps : goal.returns-in_err-mark_rest-clause-keeps
returns-in_err-mark_rest-clause-keeps g t c = λ rules input gave from met.
    let old = c.args.plugins.now.items in let j = c.args.plugin in let own = c.index_mut.result.now in
    on-err c.from_residual.result _ (kept-one g.P.Plugin.rule g.P.Plugin.stands_for rules input gave from c.args.cut j old (omega arith) own c.index_mut.ensures.value c.mark_rest.new.heard
    (c.mark_rest.ensures.keeps (stage_list rules input j).cells (gave (suc j)) from (own-met g.P.Plugin.rule g.P.Plugin.stands_for rules input gave from c.args.cut j old (omega arith) own c.index_mut.ensures.value met)) met)

pub returns-in_err-mark_rest-clause-rules : goal.returns-in_err-mark_rest-clause-rules
returns-in_err-mark_rest-clause-rules g t c =
    rules-one g.P.Plugin.rule c.args.plugins.now.items c.args.plugin c.index_mut.result.now c.mark_rest.new.heard (omega arith) c.index_mut.ensures.value c.mark_rest.ensures.rule

pub returns-in_err-mark_rest-clause-untouched : goal.returns-in_err-mark_rest-clause-untouched
returns-in_err-mark_rest-clause-untouched g t c = λ i d less.
    get_or-set_other c.args.plugins.now.items c.args.plugin i c.mark_rest.new.heard d (λ is. absurd (omega (arith, is, less)))

pub take_rest-requires : goal.take_rest-requires
take_rest-requires g t c = λ κs within.
    let r = c.requires.met in
    let plugins = c.args.plugins.now.items in
    let j = c.args.plugin in
    let long = length-set plugins j c.mark_rest.new.heard in
    let more : j < length plugins = omega arith in (
      omega (arith, more, long, c.decreases),
      (
        search rules,
        (
          omega (arith, more, long),
          (
            omega (arith, c.requires.rows, long),
            (
              r.0,
              r.1,
              r.2,
              r.3,
              later-met g.P.Plugin.rule g.P.Plugin.stands_for r.0 r.1 r.2 r.3 c.args.cut j plugins more c.index_mut.result.now c.index_mut.ensures.value (j + 1) (next j) c.mark_rest.new.heard r.4,
            ),
          ),
        ),
      ),
    )

pub returns-in_err-take_rest-clause-keeps : goal.returns-in_err-take_rest-clause-keeps
returns-in_err-take_rest-clause-keeps g t c = λ rules input gave from met.
    let old = c.args.plugins.now.items in let j = c.args.plugin in let own = c.index_mut.result.now in let marked = c.mark_rest.new.heard in
    let served = c.take_rest.new.plugins.items in
    on-err c.from_residual-in_err-take_rest.result _
    (keeps-later g.P.Plugin.rule g.P.Plugin.stands_for rules input gave from c.args.cut j old (omega arith) own c.index_mut.ensures.value marked (j + 1) (next j) served
    (c.take_rest.ensures.long ∙ length-set old j marked) (λ d. c.take_rest.ensures.untouched j d (omega arith))
    (c.mark_rest.ensures.keeps (stage_list rules input j).cells (gave (suc j)) from (own-met g.P.Plugin.rule g.P.Plugin.stands_for rules input gave from c.args.cut j old (omega arith) own c.index_mut.ensures.value met))
    (c.in_err-take_rest.ensures.keeps rules input gave from
    (later-met g.P.Plugin.rule g.P.Plugin.stands_for rules input gave from c.args.cut j old (omega arith) own c.index_mut.ensures.value (j + 1) (next j) marked met)))

pub returns-in_err-take_rest-clause-rules : goal.returns-in_err-take_rest-clause-rules
returns-in_err-take_rest-clause-rules g t c =
    c.take_rest.ensures.rules
    ∙ rules-one g.P.Plugin.rule c.args.plugins.now.items c.args.plugin c.index_mut.result.now c.mark_rest.new.heard (omega arith) c.index_mut.ensures.value c.mark_rest.ensures.rule

pub returns-in_err-take_rest-clause-untouched : goal.returns-in_err-take_rest-clause-untouched
returns-in_err-take_rest-clause-untouched g t c = λ i d less.
    c.take_rest.ensures.untouched i d (omega (arith, less))
    ∙ get_or-set_other c.args.plugins.now.items c.args.plugin i c.mark_rest.new.heard d (λ is. absurd (omega (arith, is, less)))

pub put-requires : goal.put-requires
put-requires g t c = omega (arith, c.requires.rows, c.take_rest.ensures.rows)

pub returns-clause-takes : goal.returns-clause-takes
returns-clause-takes g t c = λ rules input gave from met.
    let old = c.args.plugins.now.items in let j = c.args.plugin in let own = c.index_mut.result.now in let marked = c.mark_rest.new.heard in
    let served = c.take_rest.new.plugins.items in let rows = c.take_rest.new.lines.rows.items in
    let left = c.take_own-taken.new.heard in let lines = c.take_own-taken.result.items in let one = c.put.ensures.0 in
    let long = c.take_rest.ensures.long ∙ length-set old j marked in
    let at : c.index_mut-2.result.now ≡ marked =
    c.index_mut-2.ensures.value ∙ here g.P.Plugin.rule g.P.Plugin.stands_for rules input gave from c.args.cut j old (omega arith) own c.index_mut.ensures.value marked (j + 1) (next j) served long (λ d. c.take_rest.ensures.untouched j d (omega arith)) c.index_mut-2.result.now in
    subst (λ (l : List ToldLine). TakesRest g.P.Plugin.rule g.P.Plugin.stands_for rules input gave from c.args.cut j (drop j old) (drop j (slice_set served j left)) l)
    (sym (ap (λ (l : List LineRow). told_rows j (drop j l)) c.put.ensures.2
    ∙ (set-row rows j one (omega (arith, c.requires.rows, c.take_rest.ensures.rows))
    ∙ ap (λ (l : List Line). merged place_of (map (told_by (suc j)) l) (told_rows (suc j) (drop (suc j) rows))) c.put.ensures.1)))
    (takes-more g.P.Plugin.rule g.P.Plugin.stands_for rules input gave from c.args.cut j old (omega arith) own c.index_mut.ensures.value marked (j + 1) (next j) served long (λ d. c.take_rest.ensures.untouched j d (omega arith))
    (c.in_ok-mark_rest.ensures.marked (stage_list rules input j).cells (gave (suc j)) from (own-met g.P.Plugin.rule g.P.Plugin.stands_for rules input gave from c.args.cut j old (omega arith) own c.index_mut.ensures.value met))
    c.mark_rest.ensures.rule (told_rows (suc j) (drop (suc j) rows))
    (subst (λ (n : ℕ). TakesRest g.P.Plugin.rule g.P.Plugin.stands_for rules input gave from c.args.cut (j + 1) (drop (j + 1) (slice_set old j marked)) (drop (j + 1) served) (told_rows n (drop n rows))) (sym (next j))
    (c.in_ok-take_rest.ensures.takes rules input gave from (later-met g.P.Plugin.rule g.P.Plugin.stands_for rules input gave from c.args.cut j old (omega arith) own c.index_mut.ensures.value (j + 1) (next j) marked met)))
    left (c.take_own-taken.ensures.plugin ∙ ap (λ (x : Heard _). x.plugin) at) c.take_own-taken.ensures.none lines (c.take_own-taken.ensures.lines ∙ ap (λ (x : Heard _). x.lines.items) at))

pub returns-clause-rules : goal.returns-clause-rules
returns-clause-rules g t c =
    rules-one g.P.Plugin.rule c.take_rest.new.plugins.items c.args.plugin c.index_mut-2.result.now c.take_own-taken.new.heard (omega (arith, c.take_rest.ensures.long, length-set c.args.plugins.now.items c.args.plugin c.mark_rest.new.heard)) c.index_mut-2.ensures.value
    (ap g.P.Plugin.rule c.take_own-taken.ensures.plugin)
    ∙ (c.take_rest.ensures.rules
    ∙ rules-one g.P.Plugin.rule c.args.plugins.now.items c.args.plugin c.index_mut.result.now c.mark_rest.new.heard (omega arith) c.index_mut.ensures.value c.mark_rest.ensures.rule)

pub returns-clause-untouched : goal.returns-clause-untouched
returns-clause-untouched g t c = λ i d less.
    get_or-set_other c.take_rest.new.plugins.items c.args.plugin i c.take_own-taken.new.heard d (λ is. absurd (omega (arith, is, less)))
    ∙ (c.take_rest.ensures.untouched i d (omega (arith, less))
    ∙ get_or-set_other c.args.plugins.now.items c.args.plugin i c.mark_rest.new.heard d (λ is. absurd (omega (arith, is, less))))
