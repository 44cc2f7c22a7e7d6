use Rattle.std.proofs.Common.{[], subst}
use Rattle.named_services.specs.NamesStand.{FollowsSdts}
use Rattle.named_services.proofs.NameLemmas.{meant-new}
use Rattle.named_services.proofs.named_services.NamedServices.new.Goals as goal

pub returns : goal.returns
returns c = record {
  same_words = c.in_ok-own.ensures;
  follows = subst (λ named. FollowsSdts named c.in_ok-sdts.sdts []) c.has_name-unknown.ensures c.in_ok-sdts.ensures;
  meant = meant-new c.args.words.now _ c.in_ok-services.ensures c.has_name-unknown.ensures;
}
