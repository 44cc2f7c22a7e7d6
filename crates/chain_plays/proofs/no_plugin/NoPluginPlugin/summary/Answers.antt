use Rattle.std.proofs.Common.{sym, append-nil}
use Rattle.chain_plays.proofs.no_plugin.NoPluginPlugin.summary.Goals as goal

pub returns-clause-said : goal.returns-clause-said
returns-clause-said c = λ history mark holds. sym (append-nil c.args._lines.now.items)
