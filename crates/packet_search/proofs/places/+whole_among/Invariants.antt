use Rattle.packet_search.proofs.places.+whole_among.Given as goal

abbrev pub decreases-whole_among : goal.decreases-whole_among
decreases-whole_among l = l.count
