use Rattle.std.proofs.Common.{[], List, IfOk, sym, subst}
use Rattle.named_services.specs.declared.service_word.ServiceWord.{ServiceWord}
use Rattle.plug_service.specs.EditorsState.{EditorsStand}
use Rattle.plug_service.specs.ActionsState.{FollowsServices}
use Rattle.plug_service.specs.Presence.{is_there_after}
use Rattle.plug_service.specs.ServiceState.{IsNoted}
use Rattle.plug_service.specs.declared.way.Way.{Way}
use Rattle.plug_service.proofs.StepLemmas.{none-there, noted-none}
use Rattle.plug_service.proofs.service_steps.ServiceSteps.new.Goals as goal

pub returns-clause-stands : goal.returns-clause-stands
returns-clause-stands c = λ _.
    let same = sym c.in_ok-own.ensures in
    record {
      followed = subst (λ words. FollowsServices c.args.way words c.in_ok-follower-2.follower []) same
          (subst (λ w. FollowsServices c.args.way c.args.words.now w []) (sym c.in_ok-follower-2.ensures.first) c.in_ok-follower.ensures);
      edited = subst (λ r. IfOk r (λ e. (way : Way) (words : List ServiceWord) → EditorsStand way words e [])) c.in_ok-follower-2.ensures.second c.new-editors.ensures c.args.way c.in_ok-own.own;
      noted = subst (λ words. IsNoted c.none.result (is_there_after c.args.way words [])) same
          (noted-none c.none.result (is_there_after c.args.way c.args.words.now []) c.none.ensures (none-there c.args.way c.args.words.now));
    }
