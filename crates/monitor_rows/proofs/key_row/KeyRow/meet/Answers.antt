use Rattle.std.proofs.Common.{ap, sym, ◌∙◌}
use Rattle.monitor_keys.specs.Looks.{is_look}
use Rattle.monitor_rows.proofs.Rowing.{no_number, quiet_row, quiet_told}
use Rattle.monitor_rows.proofs.key_row.KeyRow.meet.Goals as goal

pub returns-in-empty-clause-stands : goal.returns-in-empty-clause-stands
returns-in-empty-clause-stands c = λ rule history packet labels has span_is occurring.
    quiet_row rule history packet labels c.args.self.now has (sym (ap is_look span_is) ∙ (sym c.is_look.ensures ∙ c.if-is_look.false))
    (λ i d within. sym (occurring _) ∙ no_number c.args.occurred.now c.in-empty.len_below _)

pub returns-in-empty-clause-tells : goal.returns-in-empty-clause-tells
returns-in-empty-clause-tells c = λ rule history packet labels has span_is occurring.
    c.new.ensures.items ∙ quiet_told rule history packet (sym (ap is_look span_is) ∙ (sym c.is_look.ensures ∙ c.if-is_look.false))

pub returns-in-len1-clause-tells : goal.returns-in-len1-clause-tells
returns-in-len1-clause-tells c = λ rule history packet labels has span_is occurring.
    c.new-in-len1.ensures.items ∙ quiet_told rule history packet (sym (ap is_look span_is) ∙ (sym c.is_look.ensures ∙ c.if-is_look.false))
