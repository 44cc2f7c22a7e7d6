use Rattle.std.proofs.Common.{◌≡◌, drop}
use Rattle.std.specs.Prelude.{Some}
use Rattle.plug_edit.specs.CatEdit.{with_ca}
use Rattle.plug_edit.proofs.cat_edit.with_added.Given as goal

abbrev pub invariant-loop-pair : goal.invariant-loop-pair
invariant-loop-pair l = with_ca (Some l.all.items) (drop l.pair-index l.added) ≡ with_ca (Some l.fn.descriptors.items) l.added
