use Rattle.std.proofs.Common.{ap, ◌∙◌}
use Rattle.std.specs.Prelude.{option_map}
use Rattle.ts_psi.specs.CatTables.{cat_held}
use Rattle.plug_info.specs.CaSystems.{cat_systems}
use Rattle.plug_info.proofs.cat_lines.systems_of.Goals as goal

pub returns : goal.returns
returns c = λ cells w. c.in_ok-systems.ensures ∙ ap cat_systems (ap (option_map cat_held) c.as_ref.ensures.value ∙ w.has_others.cat.kept)
