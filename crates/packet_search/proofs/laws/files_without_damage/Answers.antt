use Rattle.std.proofs.Common.{◌∙◌, ap}
use Rattle.std.specs.List.{concat}
use Rattle.packet_search.specs.Search.{Searched, search, packets_in}
use Rattle.packet_search.proofs.Runs.{all-found, at-stripped, run-found}
use Rattle.packet_search.proofs.laws.files_without_damage.Goals as goal

pub returns-clause-packets : goal.returns-clause-packets
unfolding search
returns-clause-packets c = all-found

pub returns-clause-same : goal.returns-clause-same
unfolding search
returns-clause-same c = λ form n bytes row few. ap (λ (s : Searched). concat (packets_in s.found)) (all-found form n bytes row few) ∙ at-stripped form 0 n bytes few

pub returns-clause-begins : goal.returns-clause-begins
unfolding search
returns-clause-begins c = run-found
