use Rattle.std.proofs.Common.{ap, arith}
use Rattle.ts_bit_rows.proofs.Fields.{field-below}
use Rattle.ts_section.proofs.section.Section.head.Goals as goal

pub returns-then-is_long-clause-version : goal.returns-then-is_long-clause-version
returns-then-is_long-clause-version c = omega (arith, ap (λ h. h.version) c.long_head.ensures, field-below c.as_slice-b.result.now 42 5)
