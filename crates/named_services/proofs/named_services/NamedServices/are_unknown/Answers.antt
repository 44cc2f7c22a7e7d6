use Rattle.named_services.proofs.named_services.NamedServices.are_unknown.Goals as goal

pub returns : goal.returns
returns c = λ words met n. n.meant.unknown
