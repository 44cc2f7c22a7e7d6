use Rattle.std.proofs.Common.{ℕ, ◌++◌, ◌∷◌, [], List, OnOk, sym, ◌∙◌, subst}
use Rattle.plug_move.specs.MapperState.{StandsFor}
use Rattle.plug_move.proofs.table_mapper.TableMapper.step.Goals as goal

pub returns-clause-stands : goal.returns-clause-stands
returns-clause-stands c = λ pairs met h.
    let after = subst (λ r. OnOk r ((pairs : List (ℕ × ℕ)) (met : List (List ℕ)) → StandsFor pairs c.args.self.now met
    → StandsFor pairs c.advance-answer.new.self (met ++ c.args.packet.now ∷ []))) (sym c.in_ok-note.ensures.same) c.advance-answer.ensures.stands pairs met h in
    record {
      working = c.in_ok-note.ensures.as_before ∙ after.working;
      same_pairs = after.same_pairs;
      in_force = after.in_force;
      cats_read = after.cats_read;
      edits = after.edits;
    }
