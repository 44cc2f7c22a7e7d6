use Rattle.std.proofs.Common.{ℕ, List, ap, ◌∙◌}
use Rattle.ts_packet.specs.Cells.{Live}
use Rattle.ts_packet.specs.Labels.{no_labels}
use Rattle.ts_testgen.specs.Generated.{generated}
use Rattle.stage_run.proofs.generated_feed.GeneratedFeed.next_packet.Goals as goal

pub returns-clause-puts : goal.returns-clause-puts
returns-clause-puts c =
    c.live.ensures.cell c.next_packet.result
    ∙ ap (λ (p : List ℕ). Live p no_labels) (c.next_packet.ensures.packet ∙ ap (generated c.args.self.now.generator.seed) c.requires.counted.1)
