use Rattle.std.proofs.Common.{◌≡◌, take, map}
use Rattle.ts_section.specs.SectionFields.{body_of}
use Rattle.ts_json_tables.proofs.runs.payloads_of.Given as goal

abbrev pub invariant-loop-section : goal.invariant-loop-section
invariant-loop-section l = map (λ row. row.items) l.payloads.items ≡ map body_of (take l.section-index l.sections)
