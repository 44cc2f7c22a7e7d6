use Rattle.std.proofs.Common.{ℕ, ◌≡◌, ◌++◌, ◌∷◌, [], List, ap, sym, subst, ◌∙◌}
use Rattle.std.specs.Prelude.{IfOk, OnOk}
use Rattle.std.specs.Option.{option_to_list}
use Rattle.ts_demux.specs.AssemblyState.{StandsFor}
use Rattle.ts_demux.specs.Tables.{table_at, tables_of}
use Rattle.ts_demux.proofs.Assembling.{tables_of-push}
use Rattle.ts_demux.proofs.assembly.Assembly.add.Goals as goal

pub returns-clause-tables : goal.returns-clause-tables
returns-clause-tables c =
    λ before stands. tables_of-push before c.args.section ∙ ap (λ t. tables_of before ++ option_to_list t) (sym
    (subst (λ r. IfOk r (λ table. (given : List (List ℕ)) → StandsFor c.args.self.now given → table ≡ table_at given c.args.section))
    (sym c.note.ensures.same ∙ c.in_ok-table.was) c.take-answer.ensures.completes before stands))

pub returns-clause-stands : goal.returns-clause-stands
returns-clause-stands c = λ before stands.
    subst (λ failed. StandsFor (record { eras = c.self-2.inside.eras.entries; failed = failed }) (before ++ c.args.section ∷ []))
    (sym c.in_ok-table.ensures.as_before)
    (subst (λ seen. StandsFor seen (before ++ c.args.section ∷ [])) (sym c.self-2.view_is)
    (subst (λ r. OnOk r ((given : List (List ℕ)) → StandsFor c.args.self.now given → StandsFor c.take-answer.new.self (given ++ c.args.section ∷ [])))
    (sym c.note.ensures.same ∙ c.in_ok-table.was) c.take-answer.ensures.stands before stands))
