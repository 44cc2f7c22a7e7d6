use Rattle.std.proofs.Common.{◌≡◌, length, map}
use Rattle.ts_item_forms.specs.ItemForms as forms
use Rattle.ts_item_forms.specs.ItemForms.{item_held}
use Rattle.ts_item_forms.proofs.TakesLemmas.{with_items}
use Rattle.ts_item_forms.proofs.read.read_each.Given as goal

abbrev pub invariant-loop-rest : goal.invariant-loop-rest
invariant-loop-rest l = with_items (map (item_held (forms.form l.form)) l.items.items) (forms.read_each (length l.rest) (forms.form l.form) l.rest) ≡ forms.read_each (length l.fn.from) (forms.form l.form) l.fn.from

abbrev pub decreases-loop-rest : goal.decreases-loop-rest
decreases-loop-rest l = length l.rest
