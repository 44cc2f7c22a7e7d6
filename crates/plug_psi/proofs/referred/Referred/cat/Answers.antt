use Rattle.std.proofs.Common.{ap, ◌∙◌}
use Rattle.std.specs.Prelude.{option_map}
use Rattle.ts_psi.specs.CatTables.{cat_held}
use Rattle.plug_psi.proofs.NamedLemmas.{cat-kept}
use Rattle.plug_psi.proofs.referred.Referred.cat.Goals as goal

pub returns : goal.returns
returns c = λ fed h. ap (option_map cat_held) c.as_ref.ensures.value ∙ cat-kept c.args.self.now.one fed h.cat_fed
