use Rattle.std.proofs.Common.{◌≡◌, true, sym, ap, subst, ◌∙◌}
use Rattle.ts_section.specs.SectionFields.{is_long, body_of}
use Rattle.ts_section.specs.ValidSection.{IsSection}
use Rattle.ts_section.proofs.HeadBytes.{long_body, long_size}
use Rattle.ts_section.proofs.section.Section.body.Goals as goal

pub returns-then-is_long-clause-body : goal.returns-then-is_long-clause-body
returns-then-is_long-clause-body c =
    let form : is_long c.as_slice-b.result.now ≡ true = sym c.is_long.ensures ∙ c.if-is_long.true in
    long_body c.as_slice-b.result.now form
    (long_size c.as_slice-b.result.now (subst IsSection (sym c.as_slice-b.ensures.value) c.self.invariant) form)
    ∙ ap body_of (c.as_slice-b.ensures.value ∙ c.self.view_is)
