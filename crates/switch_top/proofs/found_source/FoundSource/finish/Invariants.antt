use Rattle.std.proofs.Common.{◌≡◌}
use Rattle.search_source.specs.SearchView.{search_view, plain, IsWithin}
use Rattle.switch_top.proofs.found_source.FoundSource.finish.Given as goal

abbrev pub invariant-loop : goal.invariant-loop
invariant-loop g l = record {
  file : (g.S.Source.seen l.self.source.first.value).left ≡ (g.S.Source.seen l.fn.self.source.first.value).left;
  faults : (g.S.Source.seen l.self.source.source).faults ≡ (g.S.Source.seen l.fn.self.source.source).faults;
  within : IsWithin (plain (search_view l.self.source.finder (g.S.Source.seen l.self.source.first.value) (g.S.Source.seen l.self.source.source))).left l.counter l.self.ended;
}
