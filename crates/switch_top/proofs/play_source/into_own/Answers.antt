use Rattle.std.proofs.Common.{inl, inr, refl, ap, sym, subst}
use Rattle.ts_outside.specs.Source.{SourceView}
use Rattle.search_source.specs.FileView.{of_either}
use Rattle.search_source.specs.SearchView.{search_view, plain}
use Rattle.switch_top.specs.PlaySources.{ClosesAs}
use Rattle.switch_top.specs.declared.found_source.FoundSource.{FoundSource}
use Rattle.switch_top.specs.declared.play_source.OwnSource.{OwnSource}
use Rattle.switch_top.proofs.play_source.into_own.Goals as goal

pub returns-in-Placed-clause-closes : goal.returns-in-Placed-clause-closes
returns-in-Placed-clause-closes g c =
    subst (λ play. ClosesAs (of_either (λ (own : OwnSource g.row.S.Denot g.S.Source). g.S.Source.seen own.source) (λ (found : FoundSource g.row.S.Denot g.S.Source). plain (search_view found.source.finder (g.S.Source.seen found.source.first.value) (g.S.Source.seen found.source.source))) play) (g.S.Source.seen c.into_source.result)) (sym c.in-Placed.is)
    (inl (sym (ap g.S.Source.seen c.into_source.ensures.inner), c.into_source.ensures.own))

pub returns-in-Found-clause-closes : goal.returns-in-Found-clause-closes
returns-in-Found-clause-closes g c =
    subst (λ play. ClosesAs (of_either (λ (own : OwnSource g.row.S.Denot g.S.Source). g.S.Source.seen own.source) (λ (found : FoundSource g.row.S.Denot g.S.Source). plain (search_view found.source.finder (g.S.Source.seen found.source.first.value) (g.S.Source.seen found.source.source))) play) (g.S.Source.seen c.into_source-in-Found.result)) (sym c.in-Found.is)
    (inr (
      record { form = c.in-Found.found.source.finder.form; unit_is = refl; behind = c.into_source-in-Found.ensures.behind },
      sym (ap (λ (s : SourceView). s.faults) (ap g.S.Source.seen c.into_source-in-Found.ensures.inner)),
    ))
