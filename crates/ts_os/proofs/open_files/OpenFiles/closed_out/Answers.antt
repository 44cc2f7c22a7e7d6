use Rattle.std.proofs.Common.{◌≡◌, ◌∙◌, false, sym, ap, Option, rules, tests}
use Rattle.std.specs.List.{position}
use Rattle.std.specs.Option.{option_map, unwrap_or}
use Rattle.std.proofs.lemmas.Iterator.{YieldsList-from_slice}
use Rattle.std.proofs.lemmas.Iterator.Search.{position_from_yields_List}
use Rattle.ts_os.specs.declared.open_files.OpenOutput.{OpenOutput}
use Rattle.ts_os.specs.OpenFiles.{same_file}
use Rattle.ts_os.proofs.FirstPlace.{without_found, without_none, found_first, found_none}
use Rattle.ts_os.proofs.open_files.OpenFiles.closed_out.Goals.{After-position}
use Rattle.ts_os.proofs.open_files.OpenFiles.closed_out.Goals as goal

-- what `position` answered
place : (c : After-position) → c.position.result ≡ position (λ output. same_file output.file c.args.closed) c.args.self.now.outputs.items
place c =
    position_from_yields_List (λ output. same_file output.file c.args.closed) _ _ c.position.result c.position.ensures.ran (YieldsList-from_slice _ c.iter.ensures.rest) (λ x b q k. search (rules, tests))
    ∙ ap (position (λ output. same_file output.file c.args.closed)) c.deref.ensures.value

pub returns-in-Some-clause-asked : goal.returns-in-Some-clause-asked
returns-in-Some-clause-asked c =
    sym (ap (λ (found : Option OpenOutput). unwrap_or (option_map (λ output. output.wanted) found) false)
    (found_first (λ output. same_file output.file c.args.closed) c.args.self.now.outputs.items c.in-Some.at c.remove.result
    (sym (place (goal.at.returns-in-Some-clause-asked c).After-position) ∙ c.in-Some.is) c.remove.ensures.value))

pub returns-in-Some-clause-outputs : goal.returns-in-Some-clause-outputs
returns-in-Some-clause-outputs c =
    c.remove.ensures.items ∙ without_found (λ output. same_file output.file c.args.closed) c.args.self.now.outputs.items c.in-Some.at (sym (place (goal.at.returns-in-Some-clause-outputs c).After-position) ∙ c.in-Some.is)

pub returns-in-None-clause-asked : goal.returns-in-None-clause-asked
returns-in-None-clause-asked c =
    sym (ap (λ (found : Option OpenOutput). unwrap_or (option_map (λ output. output.wanted) found) false)
    (found_none (λ output. same_file output.file c.args.closed) c.args.self.now.outputs.items
    (sym (place (goal.at.returns-in-None-clause-asked c).After-position) ∙ c.in-None.is)))

pub returns-in-None-clause-outputs : goal.returns-in-None-clause-outputs
returns-in-None-clause-outputs c =
    without_none (λ output. same_file output.file c.args.closed) c.args.self.now.outputs.items (sym (place (goal.at.returns-in-None-clause-outputs c).After-position) ∙ c.in-None.is)
