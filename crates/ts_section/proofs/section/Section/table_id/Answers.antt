use Rattle.std.proofs.Common.{get_or, sym, ap, ◌∙◌}
use Rattle.ts_section.specs.SectionFields.{table_id_of}
use Rattle.ts_section.proofs.HeadBytes.{IsBytes-section, table_id-byte}
use Rattle.ts_section.proofs.section.Section.table_id.Goals as goal

pub returns-clause-id : goal.returns-clause-id
returns-clause-id c =
    ap (λ row. get_or row 0 0) c.as_slice-b.ensures.value
    ∙ sym (table_id-byte c.self.inside.bytes.items (IsBytes-section c.self.inside.bytes.items c.self.invariant))
    ∙ ap table_id_of c.self.view_is
