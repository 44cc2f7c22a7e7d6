use Rattle.std.proofs.Common.{◌≡◌, [], None, option_to_list}
use Rattle.search_source.specs.SearchView.{search_view, unsearched, IsWithin}
use Rattle.search_source.proofs.search_source.SearchSourceSource.read.Given as goal

abbrev pub invariant-loop : goal.invariant-loop
invariant-loop g l = record {
  seen : search_view l.fn.self.finder (g.S.Source.seen l.fn.self.first.value) (g.S.Source.seen l.fn.self.source)
      ≡ unsearched [] (option_to_list l.fn.self.finder.noted) (search_view l.self.finder (g.S.Source.seen l.self.first.value) (g.S.Source.seen l.self.source));
  noted : l.self.finder.noted ≡ None;
  within : IsWithin (g.S.Source.seen l.self.source).left l.counter l.self.ended;
}
