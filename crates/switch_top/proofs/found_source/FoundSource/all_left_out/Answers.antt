use Rattle.std.proofs.Common.{◌∙◌, ◌+◌, min, option_to_list, ap}
use Rattle.ts_outside.specs.Count.{count_end}
use Rattle.search_source.specs.SearchView.{search_view}
use Rattle.switch_top.specs.LeftOut.{bytes_of_gaps}
use Rattle.switch_top.proofs.FoundLemmas.{all-counted}
use Rattle.switch_top.proofs.found_source.FoundSource.all_left_out.Goals as goal

pub returns : goal.returns
returns g c =
    let self = c.args.self.now in
    all-counted (search_view self.source.finder (g.S.Source.seen self.source.first.value) (g.S.Source.seen self.source.source))
    self.left_out (bytes_of_gaps (option_to_list self.source.finder.noted)) self.source.finder.left c.sum.result self.small self.counts (self.at_end c.requires)
    (c.sum.ensures
    ∙ ap (λ behind. min (c.with_gap-noted.result + behind) count_end) c.behind.ensures.left
    ∙ ap (λ noted. min (noted + self.source.finder.left) count_end)
    (c.with_gap-noted.ensures ∙ ap (λ gap. min (self.left_out + bytes_of_gaps (option_to_list gap)) count_end) c.gap.ensures))
