use Rattle.std.proofs.Common.{◌≡◌, sym, subst, arith}
use Rattle.ts_section.specs.WrittenSection.{long_section, IsLongSectionOf}
use Rattle.ts_section.proofs.WrittenLemmas.{long_made, long_section-is, all_bytes}
use Rattle.ts_section.proofs.section.Section.long.Goals as goal

pub returns-clause-made : goal.returns-clause-made
returns-clause-made c =
    let made : c.extend_from_slice-4.new.self.items ≡ long_section c.args.head c.args.body.now =
    long_made c.args.head _ c.first_bytes.result c.long_bytes.result c.args.body.now c.to_be_bytes.result
    c.in_ok-bytes.bytes.items c.extend_from_slice.new.self.items c.extend_from_slice-2.new.self.items c.extend_from_slice-3.new.self.items c.extend_from_slice-4.new.self.items c.deref.result.now c.crc_of-crc.result
    c.in_ok-bytes.ensures.items c.in_ok-extend_from_slice.ensures.items c.in_ok-extend_from_slice-2.ensures.items c.in_ok-extend_from_slice-3.ensures.items c.in_ok-extend_from_slice-4.ensures.items
    c.deref.ensures.value c.crc_of-crc.ensures c.to_be_bytes.ensures c.first_bytes.ensures c.long_bytes.ensures (omega arith) in
    made

pub returns-clause-written : goal.returns-clause-written
returns-clause-written c =
    let made : c.extend_from_slice-4.new.self.items ≡ long_section c.args.head c.args.body.now =
    long_made c.args.head _ c.first_bytes.result c.long_bytes.result c.args.body.now c.to_be_bytes.result
    c.in_ok-bytes.bytes.items c.extend_from_slice.new.self.items c.extend_from_slice-2.new.self.items c.extend_from_slice-3.new.self.items c.extend_from_slice-4.new.self.items c.deref.result.now c.crc_of-crc.result
    c.in_ok-bytes.ensures.items c.in_ok-extend_from_slice.ensures.items c.in_ok-extend_from_slice-2.ensures.items c.in_ok-extend_from_slice-3.ensures.items c.in_ok-extend_from_slice-4.ensures.items
    c.deref.ensures.value c.crc_of-crc.ensures c.to_be_bytes.ensures c.first_bytes.ensures c.long_bytes.ensures (omega arith) in
    subst (IsLongSectionOf c.args.head c.args.body.now) (sym made)
    (long_section-is c.args.head c.args.body.now c.requires.valid_id (omega arith) c.requires.version c.requires.numbers (omega arith) (all_bytes c.args.body.now (λ i. (c.type_inv.body i).fits)) c.requires.room)

pub invariant_of-result : goal.invariant_of-result
invariant_of-result c =
    let made : c.extend_from_slice-4.new.self.items ≡ long_section c.args.head c.args.body.now =
    long_made c.args.head _ c.first_bytes.result c.long_bytes.result c.args.body.now c.to_be_bytes.result
    c.in_ok-bytes.bytes.items c.extend_from_slice.new.self.items c.extend_from_slice-2.new.self.items c.extend_from_slice-3.new.self.items c.extend_from_slice-4.new.self.items c.deref.result.now c.crc_of-crc.result
    c.in_ok-bytes.ensures.items c.in_ok-extend_from_slice.ensures.items c.in_ok-extend_from_slice-2.ensures.items c.in_ok-extend_from_slice-3.ensures.items c.in_ok-extend_from_slice-4.ensures.items
    c.deref.ensures.value c.crc_of-crc.ensures c.to_be_bytes.ensures c.first_bytes.ensures c.long_bytes.ensures (omega arith) in
    (subst (IsLongSectionOf c.args.head c.args.body.now) (sym made)
    (long_section-is c.args.head c.args.body.now c.requires.valid_id (omega arith) c.requires.version c.requires.numbers (omega arith) (all_bytes c.args.body.now (λ i. (c.type_inv.body i).fits)) c.requires.room)).valid
