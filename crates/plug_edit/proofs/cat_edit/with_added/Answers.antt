use Rattle.std.proofs.Common.{sym, ◌∙◌}
use Rattle.plug_edit.proofs.CatLemmas.{ca_all, ca_more, ca_none}
use Rattle.plug_edit.proofs.cat_edit.with_added.Goals as goal

pub returns-in_default : goal.returns-in_default
returns-in_default c =
    ca_none c.loop-pair.all.items c.args.added.now c.loop-pair.pair-index _ _ c.loop-pair-test.true (sym c.in_ok-descriptor.ensures ∙ c.in_default.is) c.loop-pair.invariant

pub loop-pair-preserved : goal.loop-pair-preserved
loop-pair-preserved c =
    ca_more c.loop-pair.all.items c.args.added.now c.loop-pair.pair-index _ _ c.in-Some.descriptor _ c.loop-pair-test.true (sym c.in_ok-descriptor.ensures ∙ c.in-Some.is) c.in_ok-push.ensures.items c.loop-pair.invariant

pub returns : goal.returns
returns c = ca_all c.loop-pair.all.items c.args.added.now c.loop-pair.pair-index _ c.loop-pair-test.false c.loop-pair.invariant
