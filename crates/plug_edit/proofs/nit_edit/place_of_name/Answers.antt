use Rattle.std.proofs.Common.{sym, ◌∙◌}
use Rattle.plug_edit.specs.NitEdit.{is_name_descriptor}
use Rattle.plug_edit.proofs.ChangingLemmas.{first_here, first_later}
use Rattle.plug_edit.proofs.nit_edit.place_of_name.Goals as goal

pub returns-then-branch-clause-place : goal.returns-then-branch-clause-place
returns-then-branch-clause-place c =
    first_here is_name_descriptor c.args.descriptors.now c.loop-place.place c.index-descriptors-place.result c.loop-place-test.true c.index-descriptors-place.is (sym c.in_ok-is_name.ensures ∙ c.if-branch.true) c.loop-place.invariant

pub loop-place-preserved : goal.loop-place-preserved
loop-place-preserved c =
    first_later is_name_descriptor c.args.descriptors.now c.loop-place.place c.index-descriptors-place.result c.loop-place-test.true c.index-descriptors-place.is (sym c.in_ok-is_name.ensures ∙ c.if-branch.false) c.loop-place.invariant
