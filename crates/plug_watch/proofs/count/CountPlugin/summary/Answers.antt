use Rattle.std.proofs.Common.{take}
use Rattle.std.proofs.lemmas.Result.{on_ok_weaker}
use Rattle.plug_watch.specs.CountRule.{counted}
use Rattle.plug_watch.specs.CountConfOf.{conf_of}
use Rattle.plug_watch.proofs.CountStates.{counted_is}
use Rattle.plug_watch.proofs.count.CountPlugin.summary.Goals as goal

pub returns-clause-said : goal.returns-clause-said
returns-clause-said c = λ history mark w.
    on_ok_weaker c.push_summary.result (λ each. each (counted (conf_of c.args.self.now) (take mark history)) (counted_is (conf_of c.args.self.now) _ _ history mark w)) c.push_summary.ensures
