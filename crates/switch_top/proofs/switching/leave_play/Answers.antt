use Rattle.search_source.specs.FileView.{of_either}
use Rattle.search_source.specs.SearchView.{search_view, plain}
use Rattle.switch_top.specs.declared.found_source.FoundSource.{FoundSource}
use Rattle.switch_top.specs.declared.play_source.OwnSource.{OwnSource}
use Rattle.switch_top.proofs.switching.leave_play.Goals as goal

pub returns : goal.returns
returns g c = λ resync. (
  g.D.In.Source.seen c.into_own.result,
  c.close_in.ensures,
  λ plan source is. (
    of_either (λ (own : OwnSource g.row.D-In.Denot g.D.In.Source). g.D.In.Source.seen own.source) (λ (found : FoundSource g.row.D-In.Denot g.D.In.Source). plain (search_view found.source.finder (g.D.In.Source.seen found.source.first.value) (g.D.In.Source.seen found.source.source))) c.leave.result,
    c.leave.ensures plan source is,
    c.into_own.ensures.closes,
  ),
)
