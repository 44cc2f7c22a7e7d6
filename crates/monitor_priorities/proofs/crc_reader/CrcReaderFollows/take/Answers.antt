use Rattle.std.proofs.Common.{[], ◌∷◌, ◌++◌}
use Rattle.monitor_crcs.specs.WrongCrcs.{told_of_pid}
use Rattle.monitor_priorities.proofs.Giving.{with_more}
use Rattle.monitor_priorities.proofs.crc_reader.CrcReaderFollows.take.Goals as goal

pub returns-clause-stands : goal.returns-clause-stands
returns-clause-stands c = λ seed pid taken has given.
    c.in_ok-tables.ensures.stands pid (taken ++ c.args.packet.now ∷ []) (told_of_pid pid taken)
    (c.in_ok-feed.ensures.taken.stands pid taken (told_of_pid pid taken) has)

pub returns-clause-tells : goal.returns-clause-tells
returns-clause-tells c = λ seed pid taken has given.
    with_more pid taken c.args.packet.now c.in_ok-tables.tables.items
    (c.in_ok-tables.ensures.tables pid (taken ++ c.args.packet.now ∷ []) (told_of_pid pid taken)
    (c.in_ok-feed.ensures.taken.stands pid taken (told_of_pid pid taken) has))
