use Rattle.std.proofs.Common.{[]}
use Rattle.plug_service.proofs.service_follower.ServiceFollower.new.Goals as goal

pub returns : goal.returns
returns c = record {
  present = c.in_ok-present.ensures c.args.words.now [] c.in_ok-names.ensures c.in_ok-force.ensures;
  named = c.in_ok-names.ensures;
  forced = c.in_ok-force.ensures;
  fated = c.in_ok-renew.ensures [] c.in_ok-force.ensures;
}
