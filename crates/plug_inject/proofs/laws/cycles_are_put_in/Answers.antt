use Rattle.plug_inject.proofs.PlaceLemmas.{places-apart, places-others, places-put_in, places-rising}
use Rattle.plug_inject.proofs.laws.cycles_are_put_in.Goals as goal

pub returns-clause-put_in : goal.returns-clause-put_in
returns-clause-put_in c = places-put_in

pub returns-clause-others : goal.returns-clause-others
returns-clause-others c = places-others

pub returns-clause-rising : goal.returns-clause-rising
returns-clause-rising c = places-rising

pub returns-clause-apart : goal.returns-clause-apart
returns-clause-apart c = places-apart
