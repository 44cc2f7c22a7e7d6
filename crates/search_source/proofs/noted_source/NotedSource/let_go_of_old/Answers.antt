use Rattle.search_source.proofs.SinceLemmas.{since-less}
use Rattle.search_source.proofs.noted_source.NotedSource.let_go_of_old.Goals as goal

pub invariant_of-self : goal.invariant_of-self
invariant_of-self g c = record {
  kept = λ lossless.
      since-less c.args.self.now.from c.later_of-from.result c.args.self.now.gaps.items c.let_go.new.gaps.items _ _ c.later_of-from.ensures c.let_go.ensures
      (c.args.self.now.kept lossless);
  ends = c.args.self.now.ends;
}
