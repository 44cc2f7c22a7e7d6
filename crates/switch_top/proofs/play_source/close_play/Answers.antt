use Rattle.std.proofs.Common.{◌≡◌, List, ℕ, Option, inl, inr, refl, ap, sym, subst}
use Rattle.ts_outside.specs.Told.{before}
use Rattle.packet_forms.specs.FormView.{came}
use Rattle.search_source.specs.FileView.{of_either}
use Rattle.search_source.specs.SearchView.{search_view, plain}
use Rattle.switch_top.specs.PlayCuts.{end_of}
use Rattle.switch_top.specs.PlaySources.{ClosesPlay, EndsFound}
use Rattle.switch_top.specs.declared.played_cut.PlayedCut.{PlayedCut}
use Rattle.switch_top.specs.declared.found_source.FoundSource.{FoundSource}
use Rattle.switch_top.specs.declared.play_source.OwnSource.{OwnSource}
use Rattle.switch_top.proofs.play_source.close_play.Goals as goal

pub returns-in-Placed : goal.returns-in-Placed
returns-in-Placed g c =
    let played : PlayedCut = record { count = c.args.cut.count; end = c.of.result } in
    subst (λ play. ClosesPlay (of_either (λ (own : OwnSource g.row.S.Denot g.S.Source). g.S.Source.seen own.source) (λ (found : FoundSource g.row.S.Denot g.S.Source). plain (search_view found.source.finder (g.S.Source.seen found.source.first.value) (g.S.Source.seen found.source.source))) play) (g.S.Source.seen c.into_source.result) c.args.cut played) (sym c.in-Placed.is)
    (record {
      count = refl;
      closes = inl (sym (ap g.S.Source.seen c.into_source.ensures.inner), c.into_source.ensures.own, c.of.ensures);
    })

pub returns-in-Found : goal.returns-in-Found
returns-in-Found g c =
    let old = c.in-Found.found in
    let outer = plain (search_view old.source.finder (g.S.Source.seen old.source.first.value) (g.S.Source.seen old.source.source)) in
    let inner = g.S.Source.seen c.into_source-in-Found.result in
    let played : PlayedCut = record { count = c.args.cut.count; end = c.found_end-end.result } in
    subst (λ play. ClosesPlay (of_either (λ (own : OwnSource g.row.S.Denot g.S.Source). g.S.Source.seen own.source) (λ (found : FoundSource g.row.S.Denot g.S.Source). plain (search_view found.source.finder (g.S.Source.seen found.source.first.value) (g.S.Source.seen found.source.source))) play) inner c.args.cut played) (sym c.in-Found.is)
    (record {
      count = refl;
      closes = inr (
        record {
          form = old.source.finder.form;
          unit_is = refl;
          behind = subst (λ (o : Option (List ℕ)). o ≡ before (came o inner.left) inner.left) c.found_end-end.ensures.origin c.into_source-in-Found.ensures.behind;
        },
        subst (λ s. EndsFound outer s c.args.cut.end (end_of c.found_end-end.result)) (sym (ap g.S.Source.seen c.into_source-in-Found.ensures.inner)) c.found_end-end.ensures.ends,
      );
    })
