use Rattle.plug_masked.proofs.ShownLemmas.{met-shown}
use Rattle.plug_masked.proofs.masked_plugin.MaskedPluginPlugin.pass_over.Goals as goal

pub pass_over-requires-clause-met : goal.pass_over-requires-clause-met
pass_over-requires-clause-met g c = met-shown (g.P.Plugin.stands_for c.args.self.now.plugin) c.args.self.now.only c.args.at c.requires.met
