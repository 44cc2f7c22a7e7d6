use Rattle.stage_run.proofs.packet_feed.PacketFeed.fill_window.Goals as goal

pub returns-in-Stream-clause-reads : goal.returns-in-Stream-clause-reads
returns-in-Stream-clause-reads g c = λ first read rows.
    rw c.in-Stream.is
    (λ stands. let reads = c.fill_window.ensures.reads first read rows stands in
    record { same = tt; bytes = reads.bytes; stands = reads.stands; reads = reads.reads })
