use Rattle.std.proofs.Common.{sym, ap, ◌∙◌}
use Rattle.plug_psi.specs.EditedView.{change_of}
use Rattle.plug_psi.proofs.AlteredLemmas.{not-altered}
use Rattle.plug_psi.proofs.altered_tables.alters.Goals as goal

pub returns-in-Same : goal.returns-in-Same
returns-in-Same g c =
    not-altered (g.E.TableEdit.change c.args.edit.now) c.args.run.now (sym c.in_ok-sections.ensures ∙ (sym c.sections.view_is ∙ ap change_of c.in-Same.is))
