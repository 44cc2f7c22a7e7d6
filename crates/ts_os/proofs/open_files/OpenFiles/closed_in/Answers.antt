use Rattle.std.proofs.Common.{◌≡◌, ◌∙◌, sym, ap, rules, tests}
use Rattle.std.specs.List.{position}
use Rattle.std.proofs.lemmas.Iterator.{YieldsList-from_slice}
use Rattle.std.proofs.lemmas.Iterator.Search.{position_from_yields_List}
use Rattle.ts_os.specs.OpenFiles.{same_file}
use Rattle.ts_os.proofs.FirstPlace.{without_found, without_none}
use Rattle.ts_os.proofs.open_files.OpenFiles.closed_in.Goals.{After-position}
use Rattle.ts_os.proofs.open_files.OpenFiles.closed_in.Goals as goal

-- what `position` answered
place : (c : After-position) → c.position.result ≡ position (λ file. same_file file c.args.closed) c.args.self.now.inputs.items
place c =
    position_from_yields_List (λ file. same_file file c.args.closed) _ _ c.position.result c.position.ensures.ran (YieldsList-from_slice _ c.iter.ensures.rest) (λ x b q k. search (rules, tests))
    ∙ ap (position (λ file. same_file file c.args.closed)) c.deref.ensures.value

pub returns-in-Some-clause-inputs : goal.returns-in-Some-clause-inputs
returns-in-Some-clause-inputs c =
    c.remove.ensures.items ∙ without_found (λ file. same_file file c.args.closed) c.args.self.now.inputs.items c.in-Some.at (sym (place (goal.at.returns-in-Some-clause-inputs c).After-position) ∙ c.in-Some.is)

pub returns-in_default-clause-inputs : goal.returns-in_default-clause-inputs
returns-in_default-clause-inputs c =
    without_none (λ file. same_file file c.args.closed) c.args.self.now.inputs.items (sym (place (goal.at.returns-in_default-clause-inputs c).After-position) ∙ c.in_default.is)
