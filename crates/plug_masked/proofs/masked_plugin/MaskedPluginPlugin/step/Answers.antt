use Rattle.plug_masked.proofs.ShownLemmas.{met-shown, room-shown}
use Rattle.plug_masked.proofs.masked_plugin.MaskedPluginPlugin.step.Goals as goal

pub step-requires-clause-met : goal.step-requires-clause-met
step-requires-clause-met g c = met-shown (g.P.Plugin.stands_for c.args.self.now.plugin) c.args.self.now.only c.args.at c.requires.met

pub pass_over-requires-clause-met : goal.pass_over-requires-clause-met
pass_over-requires-clause-met g c = met-shown (g.P.Plugin.stands_for c.args.self.now.plugin) c.args.self.now.only c.args.at c.requires.met

pub returns-then-shows-clause-room : goal.returns-then-shows-clause-room
returns-then-shows-clause-room g c = λ room.
    c.step.ensures.room (room-shown (g.P.Plugin.preallocated c.args.self.now.plugin) (g.P.Plugin.stands_for c.args.self.now.plugin) c.args.self.now.only c.args.at room)
