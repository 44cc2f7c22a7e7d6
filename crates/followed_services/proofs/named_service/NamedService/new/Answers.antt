use Rattle.std.proofs.Common.{[], None, Some, ap, refl, subst, sym}
use Rattle.named_services.specs.ServiceWords.{is_name}
use Rattle.followed_services.specs.NumberStands.{FollowsWord, StandsFor}
use Rattle.followed_services.proofs.NumberLemmas.{name-none, number-fixed}
use Rattle.followed_services.proofs.named_service.NamedService.new.Goals as goal

pub returns-in-Number-clause-fresh : goal.returns-in-Number-clause-fresh
returns-in-Number-clause-fresh c =
    subst (λ word. StandsFor word (record { number = Some c.in-Number.id; followed = None }) []) (sym c.in-Number.is) (record { number = sym (number-fixed c.in-Number.id []); follows = refl })

pub returns-in_ok-new-in-Name-clause-fresh : goal.returns-in_ok-new-in-Name-clause-fresh
returns-in_ok-new-in-Name-clause-fresh c =
    let named = ap is_name c.in-Name.is in
    record {
      number = name-none c.args.word.now named;
      follows = (named, subst (λ followed. FollowsWord c.args.word.now followed []) (sym c.in_ok-new-in-Name.ensures.ok) c.in_ok-followed-in-Name.ensures);
    }
