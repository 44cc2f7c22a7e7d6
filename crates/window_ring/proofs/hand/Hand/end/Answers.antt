use Rattle.std.proofs.Common.{ap, ◌∙◌}
use Rattle.window_ring.proofs.HandLemmas.{no_windows}
use Rattle.window_ring.proofs.hand.Hand.end.Goals as goal

pub nothing-requires : goal.nothing-requires
nothing-requires c =
    let i = c.self.inside in
    (no_windows i.at i.base i.count i.first i.second c.self.invariant (ap (λ r. r.cells) c.self.view_is ∙ c.requires)).0

pub nothing-requires-2 : goal.nothing-requires-2
nothing-requires-2 c =
    let i = c.self.inside in
    (no_windows i.at i.base i.count i.first i.second c.self.invariant (ap (λ r. r.cells) c.self.view_is ∙ c.requires)).1
