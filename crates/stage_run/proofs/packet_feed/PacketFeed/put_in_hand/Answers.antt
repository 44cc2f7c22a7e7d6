use Rattle.stage_run.proofs.packet_feed.PacketFeed.put_in_hand.Goals as goal

pub returns-in-Stream-clause-puts : goal.returns-in-Stream-clause-puts
returns-in-Stream-clause-puts g c = λ first read rows.
    rw c.in-Stream.is
    (λ stands. let puts = c.put_in_hand.ensures.puts first read rows stands in
    record { same = tt; put = puts.put; are_put = puts.are_put; stands = puts.stands })
