use Rattle.ts_jtree.proofs.ShapeLemmas.{attributes_shaped}
use Rattle.ts_jtree.proofs.element_laws.values_are_shaped.Goals as goal

pub returns : goal.returns
returns c = λ rs ms values is. attributes_shaped rs ms values is
