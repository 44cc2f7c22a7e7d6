use Rattle.std.proofs.Common.{[], ◌∷◌, ◌++◌}
use Rattle.ts_demux.specs.SectionsOfPid.{sections_of_pid}
use Rattle.monitor_tables.proofs.Giving.{with_more}
use Rattle.monitor_tables.proofs.section_reader.SectionReader.read.Goals as goal

pub returns-clause-stands : goal.returns-clause-stands
returns-clause-stands c = λ pid fed read.
    c.in_ok-sections.ensures.stands pid (fed ++ c.args.packet.now ∷ []) (sections_of_pid pid fed)
    (c.in_ok-feed.ensures.taken.stands pid fed (sections_of_pid pid fed) read)

pub returns-clause-gives : goal.returns-clause-gives
returns-clause-gives c = λ pid fed read.
    with_more pid fed c.args.packet.now c.in_ok-sections.sections.items
    (c.in_ok-sections.ensures.sections pid (fed ++ c.args.packet.now ∷ []) (sections_of_pid pid fed)
    (c.in_ok-feed.ensures.taken.stands pid fed (sections_of_pid pid fed) read))
