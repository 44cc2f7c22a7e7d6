use Rattle.std.proofs.Common.{◌≡◌, ◌≤◌, ap, arith}
use Rattle.std.proofs.lemmas.Bool.{eqb-true}
use Rattle.ts_outside.specs.Source.{SourceView}
use Rattle.packet_forms.proofs.Through.{behind-more}
use Rattle.ts_outside.specs.Told.{told_length}
use Rattle.search_source.proofs.Views.{told-less, told-none}
use Rattle.search_source.proofs.search_source.SearchSource.read_once.Goals as goal

pub invariant_of-self-2 : goal.invariant_of-self-2
invariant_of-self-2 g c =
    let took = c.in_ok-count.ensures.read in
    let moved = ap (λ (s : SourceView). s.left) took.source in
    let less : told_length (g.S.Source.seen c.read_from.new.source).left ≤ told_length (g.S.Source.seen c.args.self.now.source).left = told-less _ _ took.bytes moved in
    record {
      behind = behind-more _ _ _ took.bytes c.args.self.now.behind moved;
      at_end = λ none.
          let zero : told_length (g.S.Source.seen c.args.self.now.source).left ≡ 0 = told-none _ (took.at_end (eqb-true c.in_ok-count.count 0 none)) in
          omega arith;
      small = omega (arith, c.args.self.now.small);
    }
