use Rattle.std.proofs.Common.{◌∙◌, [], false, refl, take}
use Rattle.search_source.specs.SearchView.{search_view}
use Rattle.search_source.proofs.Views.{view-given, seen-none}
use Rattle.search_source.proofs.search_source.SearchSource.give_next.Goals as goal

pub returns-clause-moved : goal.returns-clause-moved
returns-clause-moved g c =
    let old = c.args.self.now in
    let mid = c.begin.new.self in
    let new = c.give.new.self in
    let first = g.S.Source.seen old.first.value in
    let now = g.S.Source.seen old.source in
    view-given old.finder mid first now now [] [] old.ended old.at_end c.begin.ensures.same refl c.begin.ensures.gives
    ∙ seen-none (search_view mid first now)
    ∙ view-given mid new first now now (take c.give.result c.give.new.into) [] false (λ no. absurd cc) c.give.ensures.same refl (λ more none. c.give.ensures.given more)
