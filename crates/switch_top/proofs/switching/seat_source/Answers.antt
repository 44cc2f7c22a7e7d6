use Rattle.ts_outside.specs.Source.{own_bytes}
use Rattle.search_source.specs.FileView.{of_either}
use Rattle.search_source.specs.SearchView.{search_view, plain}
use Rattle.switch_top.specs.PlaySources.{play_source}
use Rattle.switch_top.specs.declared.found_source.FoundSource.{FoundSource}
use Rattle.switch_top.specs.declared.play_source.OwnSource.{OwnSource}
use Rattle.switch_top.proofs.SwitchLemmas.{play-of-source}
use Rattle.switch_top.proofs.switching.seat_source.Goals as goal

pub returns-in-Ok-clause-opened : goal.returns-in-Ok-clause-opened
returns-in-Ok-clause-opened g c =
    play-of-source c.begin_play.result (of_either (λ (own : OwnSource g.row.S.Denot g.S.Source). g.S.Source.seen own.source) (λ (found : FoundSource g.row.S.Denot g.S.Source). plain (search_view found.source.finder (g.S.Source.seen found.source.first.value) (g.S.Source.seen found.source.source)))) g.A.OpenPlay.is_open c.args.core.now c.in-Ok.source (play_source c.args.resync) (g.S.Source.seen c.args.source)
    (λ content. record { left = content; faults = 0; origin = own_bytes }) c.begin_play.ensures.opened c.in-Ok.ensures.opened
