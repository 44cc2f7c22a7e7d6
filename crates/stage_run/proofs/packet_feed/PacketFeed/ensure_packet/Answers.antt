use Rattle.stage_run.proofs.packet_feed.PacketFeed.ensure_packet.Goals as goal

pub returns-in-Stream-clause-looks : goal.returns-in-Stream-clause-looks
returns-in-Stream-clause-looks g c = λ first read rows.
    rw c.in-Stream.is
    (λ stands. let looks = c.ensure_packet.ensures.looks first read rows stands in
    record { same = tt; bytes = looks.bytes; stands = looks.stands; reads = looks.reads })
