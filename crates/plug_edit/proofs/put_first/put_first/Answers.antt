use Rattle.std.proofs.Common.{sym, ◌∙◌}
use Rattle.plug_edit.proofs.ChangingLemmas.{changed_at, changed_last}
use Rattle.plug_edit.proofs.put_first.put_first.Goals as goal

pub returns-in-Some : goal.returns-in-Some
returns-in-Some g c = λ test same. changed_at test c.args.thing c.args.list.now.items c.in-Some.place (sym c.in-Some.is ∙ same)

pub returns-in_ok-push-in-None : goal.returns-in_ok-push-in-None
returns-in_ok-push-in-None g c = λ test same. c.in_ok-push-in-None.ensures.items ∙ changed_last test (λ _. c.args.thing) c.args.thing c.args.list.now.items (sym c.in-None.is ∙ same)
