use Rattle.named_services.proofs.named_services.NamedServices.services.Goals as goal

pub returns : goal.returns
returns c = λ words met n. n.meant.services
