use Rattle.packet_search.proofs.places.+in_row.Given as goal

abbrev pub decreases-in_row : goal.decreases-in_row
decreases-in_row l = l.count
