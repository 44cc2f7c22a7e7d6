use Rattle.std.proofs.Common.{◌||◌, ap, refl, sym, ◌∙◌}
use Rattle.plug_psi.specs.AlteredTables.{alters_one}
use Rattle.plug_psi.specs.CycleStands.{edit_of}
use Rattle.plug_psi.specs.EditedCycles.{replaced}
use Rattle.plug_psi.proofs.AlteredLemmas.{altered-more}
use Rattle.service_edit.proofs.StepLemmas.{moved}
use Rattle.service_edit.proofs.table_editor.TableEditorFollows.take.Goals as goal

pub returns-clause-stands : goal.returns-clause-stands
returns-clause-stands g c = λ seed pid taken h given.
    let change = g.E.TableEdit.change in
    let own = change (edit_of c.args.self.now.cycles) in
    let completes = c.in_ok-tables.ensures.completes pid taken h.tables_read in
    let before = moved pid (change seed) own (sym h.same_change) h.edited in
    record {
      same_change = ap change c.in_ok-edited.ensures.same_edit ∙ h.same_change;
      tables_read = c.in_ok-tables.ensures.stands pid taken h.tables_read;
      edited = moved pid own (change seed) h.same_change (c.in_ok-edited.ensures.stands pid (λ s. own) taken before refl completes);
      told = altered-more (change seed) c.args.self.now.altered c.in_ok-altered.altered pid taken c.args.packet.now c.in_ok-tables.tables.items
          (c.in_ok-altered.ensures ∙ ap (λ tables. c.args.self.now.altered || alters_one own tables) c.as_slice.ensures.value ∙ ap (λ w. c.args.self.now.altered || alters_one w c.in_ok-tables.tables.items) h.same_change)
          h.told completes;
    }

pub returns-clause-tells : goal.returns-clause-tells
returns-clause-tells g c = λ seed pid taken h given.
    let change = g.E.TableEdit.change in
    let own = change (edit_of c.args.self.now.cycles) in
    let completes = c.in_ok-tables.ensures.completes pid taken h.tables_read in
    let before = moved pid (change seed) own (sym h.same_change) h.edited in
    record {
      made = c.in_ok-edited.ensures.replaced pid (λ s. own) taken before refl completes ∙ ap (λ w. replaced pid w taken c.args.packet.now) h.same_change;
      altered = altered-more (change seed) c.args.self.now.altered c.in_ok-altered.altered pid taken c.args.packet.now c.in_ok-tables.tables.items
          (c.in_ok-altered.ensures ∙ ap (λ tables. c.args.self.now.altered || alters_one own tables) c.as_slice.ensures.value ∙ ap (λ w. c.args.self.now.altered || alters_one w c.in_ok-tables.tables.items) h.same_change)
          h.told completes;
    }
