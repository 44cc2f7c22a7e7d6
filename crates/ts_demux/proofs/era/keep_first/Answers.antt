use Rattle.std.proofs.Common.{ap, sym, ◌∙◌, is_some, not, arith}
use Rattle.ts_demux.proofs.FirstsLemmas.{with_first-set, with_first-kept, with_first-past}
use Rattle.ts_demux.proofs.era.keep_first.Goals as goal
use Rattle.ts_demux.proofs.era.keep_first.Goals.{else-place-len-via-then-place-len+else-is_none, else-place-len-via-else-place-len}

pub returns-then-is_none : goal.returns-then-is_none
returns-then-is_none c =
    with_first-set c.args.place c.args.section c.args.firsts.now.items c.index.result.now (omega arith)
    (ap is_some (sym c.index.ensures) ∙ c.is_none.ensures ∙ ap not c.if-is_none.true)

pub returns-else-place-len : goal.returns-else-place-len
returns-else-place-len c =
    elim c.else-place-len.branch [
      | else-place-len-via-then-place-len+else-is_none w ↦
          with_first-kept c.args.place c.args.section c.args.firsts.now.items w.index.result.now
          (ap is_some (sym w.index.ensures) ∙ w.is_none.ensures ∙ ap not w.if-is_none.false)
      | else-place-len-via-else-place-len w ↦ with_first-past c.args.place c.args.section c.args.firsts.now.items (omega arith)
    ]
