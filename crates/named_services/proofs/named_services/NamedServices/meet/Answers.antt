use Rattle.std.proofs.Common.{refl}
use Rattle.named_services.proofs.NameLemmas.{meets-named, meets-numbers, same-named, same-numbers}
use Rattle.named_services.proofs.named_services.NamedServices.meet.Goals as goal

pub returns-in_ok-other-in-Some-clause-stands : goal.returns-in_ok-other-in-Some-clause-stands
returns-in_ok-other-in-Some-clause-stands c = λ words met n forced same.
    meets-named words c.args.self.now met c.args.packet.now n _ c.in-Some.is _ _ refl refl (c.in_ok-other-in-Some.ensures.fed met)
    (λ named w are. c.in_ok-other-in-Some.ensures.meant met named w forced same are)

pub returns-in_ok-other-in-Some-clause-same : goal.returns-in_ok-other-in-Some-clause-same
returns-in_ok-other-in-Some-clause-same c = λ none words met n forced same.
    same-named words c.args.self.now met c.args.packet.now n _ c.in-Some.is _ (λ named w are. c.in_ok-other-in-Some.ensures.meant met named w forced same are)
    (c.in_ok-other-in-Some.ensures.same none)

pub returns-in-None-clause-stands : goal.returns-in-None-clause-stands
returns-in-None-clause-stands c = λ words met n forced same. meets-numbers words c.args.self.now met c.args.packet.now n c.in-None.is

pub returns-in-None-clause-same : goal.returns-in-None-clause-same
returns-in-None-clause-same c = λ none words met n forced same. same-numbers words c.args.self.now met c.args.packet.now n c.in-None.is
