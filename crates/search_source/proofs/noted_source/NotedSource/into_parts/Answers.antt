use Rattle.std.proofs.Common.{◌++◌, ◌∙◌, ℕ, List, Option, option_to_list, refl, ap, sym, subst}
use Rattle.std.specs.Option.{option_map}
use Rattle.search_source.specs.Coming.{coming_from, found_in, hand_of}
use Rattle.search_source.specs.Since.{left_behind}
use Rattle.search_source.specs.Gaps.{counted}
use Rattle.search_source.specs.Kept.{KeptTo}
use Rattle.search_source.specs.SearchView.{search_view}
use Rattle.search_source.proofs.Kept.{behind-told, keeps-last}
use Rattle.search_source.proofs.SinceLemmas.{all-kept}
use Rattle.search_source.proofs.noted_source.NotedSource.into_parts.Goals as goal

pub returns-clause-kept : goal.returns-clause-kept
returns-clause-kept g c =
    let source = c.args.self.source in
    let f = source.finder in
    subst (λ s. KeptTo (search_view f (g.S.Source.seen source.first.value) (g.S.Source.seen source.source)) (g.S.Source.seen s) c.is_lost.result c.keep-kept.new.gaps.items
    c.number-number.result c.behind-behind.result c.is_over-over.result)
    (sym c.into_inner-inner.ensures.inner)
    (record {
      kept = record {
        through = record {
          form = f.form;
          due = f.due;
          tail = f.tail;
          near = f.near;
          left = f.left;
          number = f.number;
          noted = option_to_list f.noted;
          hand = hand_of f;
          unit_is = refl;
          coming = refl;
          faults = refl;
          behind = source.behind;
        };
        kept = λ lost.
            keeps-last c.args.self.gaps.items (option_to_list f.noted) c.keep-kept.new.gaps.items
            (λ rest. coming_from f.form f.due f.tail f.near f.left f.number (hand_of f ++ rest)) (g.S.Source.seen source.source).left _
            (c.keep-kept.ensures (c.is_lost.ensures lost).1 ∙ ap (λ noted. c.args.self.gaps.items ++ option_to_list noted) c.gap-noted.ensures)
            (all-kept c.args.self.from c.args.self.gaps.items _ _ (c.is_lost.ensures lost).2 (c.args.self.kept (c.is_lost.ensures lost).0));
      };
      number_is = sym c.number-number.ensures;
      behind_is = ap counted (sym c.behind-behind.ensures.left) ∙ c.behind-behind.ensures.counted;
      over_is = c.is_over-over.ensures;
    })

pub returns-clause-ends : goal.returns-clause-ends
returns-clause-ends g c = λ file told over.
    let source = c.args.self.source in
    let f = source.finder in
    behind-told f.form f.due f.tail f.near f.left f.number (option_to_list f.noted) (hand_of f) file _ (g.S.Source.seen source.source).left
    (ap counted (sym c.behind-behind.ensures.left) ∙ c.behind-behind.ensures.counted)
    (c.is_over-over.ensures over)
    (ap (λ (o : Option (List ℕ)). left_behind (option_map (found_in f.form) o)) (sym told) ∙ c.args.self.ends)
