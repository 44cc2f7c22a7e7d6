use Rattle.std.proofs.Common.{None, sym, subst}
use Rattle.plugin_notes.specs.LastSeen.{HasCounters}
use Rattle.plugin_notes.proofs.last_packets.LastPackets.on.Goals as goal

pub returns-clause-counters : goal.returns-clause-counters
returns-clause-counters c = subst HasCounters (sym (c.get.ensures None)) (c.requires.table.small c.args.pid)
