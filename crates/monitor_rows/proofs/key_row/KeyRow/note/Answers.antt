use Rattle.std.proofs.Common.{◌++◌, ◌∷◌, [], ap, sym, ◌∙◌, refl, get_or-set_other, length-set}
use Rattle.ts_packet.specs.Cells.{Live}
use Rattle.monitor_keys.specs.Looks.{is_look}
use Rattle.monitor_keys.specs.Named.{begun_at}
use Rattle.monitor_rows.specs.KeyRows.{key_of}
use Rattle.monitor_rows.specs.declared.row_key.RowKey.{RowKey}
use Rattle.monitor_rows.proofs.Rowing.{ascending, kept_at, met_at, no_key, noted_row, occurs_alone, set_number, unkept_row}
use Rattle.monitor_rows.proofs.key_row.KeyRow.note.Goals as goal

pub returns-in_default : goal.returns-in_default
returns-in_default c = λ rule history packet labels has span_is no_look occurring.
    unkept_row rule history packet labels c.args.self.now has (sym (ap is_look span_is) ∙ no_look) c.args.number
    (c.in_default.ensures.none (ascending rule c.args.self.now history (history ++ Live packet labels ∷ []) has)) occurring

pub returns : goal.returns
returns c = λ rule history packet labels has span_is no_look occurring.
    let found = c.in-Some.ensures.found in
    let number = sym (ap (λ (k : RowKey). k.number) (kept_at c.args.self.now.keys.items c.in-Some.i c.index.result.now no_key found.0 c.index.ensures)) ∙ found.1 no_key in
    noted_row rule history packet labels c.args.self.now has (sym (ap is_look span_is) ∙ no_look) _ c.in-Some.i c.args.number found.0 found.1 refl
    (length-set c.args.self.now.keys.items c.in-Some.i _)
    (λ j d other. get_or-set_other c.args.self.now.keys.items c.in-Some.i j _ d other)
    (λ d. set_number c.args.self.now.keys.items c.in-Some.i c.index.result.now c.meet.new.self d found.0 c.index.ensures)
    (λ d. met_at rule history (history ++ Live packet labels ∷ []) (history ++ Live packet labels ∷ []) c.args.self.now.keys.items c.in-Some.i c.index.result.now c.meet.new.self d found.0
    c.index.ensures (has.each c.in-Some.i d found.0)
    (λ is. c.meet.ensures.stands (begun_at (key_of rule c.index.result.now.number) c.index.result.now.key.from) history packet labels is span_is
    (occurs_alone rule history packet c.args.number c.index.result.now.number number occurring) refl))
    occurring
