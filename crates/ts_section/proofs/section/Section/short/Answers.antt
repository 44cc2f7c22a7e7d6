use Rattle.std.proofs.Common.{◌≡◌, sym, subst}
use Rattle.ts_section.specs.WrittenSection.{short_section, IsShortSectionOf}
use Rattle.ts_section.proofs.WrittenLemmas.{short_made, short_section-is, all_bytes}
use Rattle.ts_section.proofs.section.Section.short.Goals as goal

pub returns-clause-made : goal.returns-clause-made
returns-clause-made c =
    short_made c.args.table_id c.args.private c.first_bytes.result c.args.body.now c.in_ok-bytes.bytes.items c.extend_from_slice.new.self.items c.extend_from_slice-2.new.self.items
    c.in_ok-bytes.ensures.items c.in_ok-extend_from_slice.ensures.items c.in_ok-extend_from_slice-2.ensures.items c.first_bytes.ensures

pub returns-clause-written : goal.returns-clause-written
returns-clause-written c =
    let made : c.extend_from_slice-2.new.self.items ≡ short_section c.args.table_id c.args.private c.args.body.now =
    short_made c.args.table_id c.args.private c.first_bytes.result c.args.body.now c.in_ok-bytes.bytes.items c.extend_from_slice.new.self.items c.extend_from_slice-2.new.self.items
    c.in_ok-bytes.ensures.items c.in_ok-extend_from_slice.ensures.items c.in_ok-extend_from_slice-2.ensures.items c.first_bytes.ensures in
    subst (IsShortSectionOf c.args.table_id c.args.private c.args.body.now) (sym made)
    (short_section-is c.args.table_id c.args.private c.args.body.now c.requires.valid_id (all_bytes c.args.body.now (λ i. (c.type_inv.body i).fits)) c.requires.room)

pub invariant_of-result : goal.invariant_of-result
invariant_of-result c =
    let made : c.extend_from_slice-2.new.self.items ≡ short_section c.args.table_id c.args.private c.args.body.now =
    short_made c.args.table_id c.args.private c.first_bytes.result c.args.body.now c.in_ok-bytes.bytes.items c.extend_from_slice.new.self.items c.extend_from_slice-2.new.self.items
    c.in_ok-bytes.ensures.items c.in_ok-extend_from_slice.ensures.items c.in_ok-extend_from_slice-2.ensures.items c.first_bytes.ensures in
    (subst (IsShortSectionOf c.args.table_id c.args.private c.args.body.now) (sym made)
    (short_section-is c.args.table_id c.args.private c.args.body.now c.requires.valid_id (all_bytes c.args.body.now (λ i. (c.type_inv.body i).fits)) c.requires.room)).valid
