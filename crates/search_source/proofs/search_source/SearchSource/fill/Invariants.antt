use Rattle.std.proofs.Common.{◌≡◌, ◌<◌, ◌≤◌, ◌-◌, [], length, take}
use Rattle.search_source.specs.SearchView.{search_view, unsearched}
use Rattle.search_source.proofs.search_source.SearchSource.fill.Given as goal

abbrev pub invariant-loop-filled : goal.invariant-loop-filled
invariant-loop-filled g l = record {
  some : 0 < l.filled;
  within : l.filled ≤ length l.into;
  moved : search_view l.fn.self.finder (g.S.Source.seen l.fn.self.first.value) (g.S.Source.seen l.fn.self.source)
      ≡ unsearched (take l.filled l.into) [] (search_view l.self.finder (g.S.Source.seen l.self.first.value) (g.S.Source.seen l.self.source));
  source : l.self.source ≡ l.fn.self.source;
  ended : l.self.ended ≡ l.fn.self.ended;
}

abbrev pub decreases-loop-filled : goal.decreases-loop-filled
decreases-loop-filled g l = length l.into - l.filled
