use Rattle.std.proofs.Common.{subst, sym}
use Rattle.plug_psi.specs.VariedStands.{Varies}
use Rattle.service_items.proofs.streams.set_stream.Goals as goal

pub returns-clause-stands : goal.returns-clause-stands
returns-clause-stands g c = λ pid wanted met h.
    subst (λ edit. Varies (g.E.TableEdit.change edit) c.set_edit.new.self pid wanted met) (sym c.set_edit.ensures.edit)
    (c.set_edit.ensures.stands pid wanted met h)
