use Rattle.std.proofs.Common.{◌∙◌}
use Rattle.plug_eit.proofs.EventsLemmas.{any_event}
use Rattle.plug_eit.proofs.events.has_event.Goals as goal

pub returns : goal.returns
returns c = c.any_asked.ensures ∙ any_event c.args.conf.now c.args.events.now
