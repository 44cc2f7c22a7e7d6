use Rattle.service_items.proofs.listed_services.+push_items.Given as goal

abbrev pub decreases-push_items : goal.decreases-push_items
decreases-push_items l = l.count
