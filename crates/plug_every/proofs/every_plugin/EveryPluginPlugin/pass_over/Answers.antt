use Rattle.std.proofs.Common.{refl, ◌∙◌, sym, append-nil}
use Rattle.ts_packet.specs.Cells.{Dropped}
use Rattle.plug_every.proofs.StandsLemmas.{count-dropped, stands_cell}
use Rattle.plug_every.proofs.every_plugin.EveryPluginPlugin.pass_over.Goals as goal

pub returns-clause-meets : goal.returns-clause-meets
returns-clause-meets g c = λ history mark w count.
    stands_cell g.P.Plugin.rule g.P.Plugin.stands_for c.args.self.now _ history Dropped mark w (c.pass_over.ensures.meets history w.inner w.holds count)
    refl (w.seen ∙ sym (count-dropped history)) refl refl c.pass_over.ensures.same_rule (λ _. sym (append-nil c.args.self.now.due.items))
