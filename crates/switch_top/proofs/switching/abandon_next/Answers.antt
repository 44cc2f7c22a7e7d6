use Rattle.std.proofs.Common.{subst, sym}
use Rattle.search_source.specs.FileView.{of_either}
use Rattle.search_source.specs.SearchView.{search_view, plain}
use Rattle.switch_top.specs.Nexts.{kind_of, LeavesNext}
use Rattle.switch_top.specs.declared.found_source.FoundSource.{FoundSource}
use Rattle.switch_top.specs.declared.play_source.OwnSource.{OwnSource}
use Rattle.switch_top.proofs.switching.abandon_next.Goals as goal

pub returns-in-Open : goal.returns-in-Open
returns-in-Open g c = λ resync.
    subst (λ next. LeavesNext (kind_of resync (of_either (λ (own : OwnSource g.row.D-In.Denot g.D.In.Source). g.D.In.Source.seen own.source) (λ (found : FoundSource g.row.D-In.Denot g.D.In.Source). plain (search_view found.source.finder (g.D.In.Source.seen found.source.first.value) (g.D.In.Source.seen found.source.source)))) g.D.Out.Sink.seen g.A.OpenPlay.is_open) next (g.D.Desk.seen c.args.desk.now) (g.D.Desk.seen c.leave_play.new.desk)) (sym c.in-Open.is)
    (c.leave_play.ensures resync)
