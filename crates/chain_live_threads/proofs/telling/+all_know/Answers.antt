use Rattle.std.proofs.Common.{ap, ◌∙◌, arith}
use Rattle.chain_live_threads.specs.declared.live_stage.LiveStage.{LiveStage}
use Rattle.chain_live_threads.proofs.ToldLemmas.{none-asked, one-more}
use Rattle.chain_live_threads.proofs.telling.+all_know.Goals as goal

pub returns-then-plugin-row : goal.returns-then-plugin-row
returns-then-plugin-row g t c = λ yes_. none-asked c.args.row.now c.args.plugin c.args.written (omega arith)

pub returns : goal.returns
returns g t c = λ yes_. one-more c.args.row.now c.args.plugin c.args.written c.index-row-plugin.result (omega arith) c.index-row-plugin.is (ap (λ (x : LiveStage g.row.S.Denot g.row.K.Denot g.row.P.Denot). x.written) c.index-row-plugin.is ∙ c.if-row-plugin.false) (c.all_know.ensures yes_)
