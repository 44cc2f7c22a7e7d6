use Rattle.std.proofs.Common.{◌∙◌, ◌+◌, ap, true, arith}
use Rattle.packet_search.specs.Search.{with_found, search}
use Rattle.packet_search.proofs.Runs.{all-found-after, run-found-after, entered, fewer}
use Rattle.packet_search.proofs.laws.runs_found_again.Goals as goal

pub returns-clause-ending : goal.returns-clause-ending
unfolding search
returns-clause-ending c = λ form n junk run many row few alone.
    let rest = entered form 0 true 0 junk run (omega arith) (fewer form 5 n run many row) alone in
    (rest.0, rest.1, rest.2 ∙ ap (with_found rest.0) (all-found-after form rest.1 n run (omega arith) row few))

pub returns-clause-followed : goal.returns-clause-followed
unfolding search
returns-clause-followed c = λ form n junk run some row alone.
    let rest = entered form 0 true 0 junk run (omega arith) (fewer form 5 (n + 4) run (omega arith) row) alone in
    (rest.0, rest.1, rest.2 ∙ ap (with_found rest.0) (run-found-after form rest.1 n run some row))
