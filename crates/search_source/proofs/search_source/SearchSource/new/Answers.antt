use Rattle.search_source.proofs.Through.{first-coming}
use Rattle.search_source.proofs.search_source.SearchSource.new.Goals as goal

pub returns-clause-found : goal.returns-clause-found
returns-clause-found g c =
    let made = c.new-finder.ensures in
    first-coming c.new-finder.result c.args.form (g.S.Source.seen c.args.source).left made.parts.0 made.parts.1 made.parts.2 made.parts.3
    made.counts.0 made.counts.1 made.counts.2 made.hand
