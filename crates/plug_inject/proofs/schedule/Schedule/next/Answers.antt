use Rattle.std.proofs.Common.{◌∙◌, arith, refl, sym}
use Rattle.plug_inject.proofs.ScheduleLemmas.{none-given, one-given, row-coming}
use Rattle.plug_inject.proofs.schedule.Schedule.next.Goals as goal

pub returns-in_default-clause-met : goal.returns-in_default-clause-met
returns-in_default-clause-met c =
    none-given c.begin_where_over.new.self c.args.number c.begin_where_over.ensures.coming (sym c.in_default.ensures)

pub returns-in_default-clause-row : goal.returns-in_default-clause-row
returns-in_default-clause-row c =
    c.in_default.ensures ∙ row-coming c.begin_where_over.new.self c.args.self.now.groups.items c.args.number c.begin_where_over.ensures.coming c.begin_where_over.ensures.same

pub overflow_add-self : goal.overflow_add-self
overflow_add-self c = omega (arith, c.begin_where_over.ensures.coming.few, c.requires.small)

pub returns-clause-row : goal.returns-clause-row
returns-clause-row c =
    c.in-Some.ensures ∙ row-coming c.begin_where_over.new.self c.args.self.now.groups.items c.args.number c.begin_where_over.ensures.coming c.begin_where_over.ensures.same

pub returns-clause-met : goal.returns-clause-met
returns-clause-met c =
    one-given c.begin_where_over.new.self _ c.args.number c.begin_where_over.ensures.coming refl refl refl refl refl
