use Rattle.plug_move.specs.RemapRule.{is_edited}
use Rattle.plug_move.proofs.MapperLemmas.{err-none, made-edited, made-unedited, none-told, some-none, some-told}
use Rattle.plug_move.proofs.table_mapper.TableMapper.advance.Goals as goal

pub returns-in_default-clause-mapped : goal.returns-in_default-clause-mapped
returns-in_default-clause-mapped c = λ pairs met h is.
    made-unedited pairs met c.args.packet.now c.move_to.new.packet c.args.target is
    (none-told _ _ c.in_ok-tables.tables c.in_default.is (c.in_ok-tables.ensures.tables met h.in_force h.cats_read)) c.move_to.ensures

pub returns-in_default-clause-stands : goal.returns-in_default-clause-stands
returns-in_default-clause-stands c = λ pairs met h. record {
  working = h.working;
  same_pairs = h.same_pairs;
  in_force = c.in_ok-tables.ensures.force met h.in_force;
  cats_read = c.in_ok-tables.ensures.cats met h.cats_read;
  edits = c.unfollowed_packets_change_nothing.ensures c.args.self.now.table c.args.self.now.editors is_edited met c.args.packet.now h.edits
      (none-told _ _ c.in_ok-tables.tables c.in_default.is (c.in_ok-tables.ensures.tables met h.in_force h.cats_read));
}

pub returns-clause-mapped : goal.returns-clause-mapped
returns-clause-mapped c = λ pairs met h is.
    let told = some-told _ _ c.in_ok-tables.tables c.in-Some.tables c.in-Some.is (c.in_ok-tables.ensures.tables met h.in_force h.cats_read) in
    made-edited pairs _ met c.args.packet.now c.in_ok-new.new c.move_edited.new.packet c.args.target h.same_pairs is told.edited
    (c.in_ok-new.ensures.tells is_edited met h.edits told.completes) c.move_edited.ensures

pub returns-clause-stands : goal.returns-clause-stands
returns-clause-stands c = λ pairs met h.
    let told = some-told _ _ c.in_ok-tables.tables c.in-Some.tables c.in-Some.is (c.in_ok-tables.ensures.tables met h.in_force h.cats_read) in
    record {
      working = h.working;
      same_pairs = h.same_pairs;
      in_force = c.in_ok-tables.ensures.force met h.in_force;
      cats_read = c.in_ok-tables.ensures.cats met h.cats_read;
      edits = c.in_ok-new.ensures.stands is_edited met h.edits told.edited told.completes;
    }

pub returns-in_err-tables-clause-quiet : goal.returns-in_err-tables-clause-quiet
returns-in_err-tables-clause-quiet c = λ pairs met h unread. absurd (err-none _ _ (c.in_err-tables.ensures.quiet met h.in_force unread))

pub returns-in_err-new-clause-quiet : goal.returns-in_err-new-clause-quiet
returns-in_err-new-clause-quiet c = λ pairs met h unread.
    absurd (some-none c.in_ok-tables.tables c.in-Some.tables c.in-Some.is (c.in_ok-tables.ensures.quiet met h.in_force unread))
