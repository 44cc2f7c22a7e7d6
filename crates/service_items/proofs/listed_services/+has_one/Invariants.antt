use Rattle.service_items.proofs.listed_services.+has_one.Given as goal

abbrev pub decreases-has_one : goal.decreases-has_one
decreases-has_one l = l.count
