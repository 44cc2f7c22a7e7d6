use Rattle.std.proofs.Common.{ap}
use Rattle.switch_top.proofs.FoundLemmas.{is-new}
use Rattle.switch_top.proofs.found_source.FoundSource.new.Goals as goal

pub invariant_of-result : goal.invariant_of-result
invariant_of-result g c =
    let found = c.new-found in
    let made = is-new found.result.finder (g.S.Source.seen c.args.source) (g.S.Source.seen found.result.first.value) (g.S.Source.seen found.result.source)
    found.ensures.finder.6 found.ensures.seen found.ensures.found c.requires.small (ap g.S.Source.seen found.ensures.inner) in
    record { counts = made.counts; at_end = λ ended. cc; small = made.small; few = made.few }

pub returns-clause-seen : goal.returns-clause-seen
returns-clause-seen g c =
    let found = c.new-found in
    (is-new found.result.finder (g.S.Source.seen c.args.source) (g.S.Source.seen found.result.first.value) (g.S.Source.seen found.result.source)
    found.ensures.finder.6 found.ensures.seen found.ensures.found c.requires.small (ap g.S.Source.seen found.ensures.inner)).seen
