use Rattle.std.proofs.lemmas.Result.{on_ok_weaker}
use Rattle.service_items.specs.ServiceItems.{item_left}
use Rattle.service_items.proofs.ItemLemmas.{left-more, left-none}
use Rattle.service_items.proofs.listed_services.+push_items.Goals as goal

pub returns-then-count-eq0-clause-left : goal.returns-then-count-eq0-clause-left
returns-then-count-eq0-clause-left t c =
    left-none (item_left c.args.services.now c.args.number) c.args.count c.args.size c.args.items.now c.args.left.now.items c.if-count-eq0.true

pub returns-clause-left : goal.returns-clause-left
returns-clause-left t c =
    on_ok_weaker c.push_items.result
    (λ pushed. left-more (item_left c.args.services.now c.args.number) c.args.count c.args.size c.args.items.now c.split_item.result.0.now c.split_item.result.1.now
    c.args.left.now.items c.push_item.new.left.items c.push_items.new.left.items c.if-count-eq0.false c.split_item.ensures.item c.split_item.ensures.rest
    c.in_ok-push_item.ensures.left pushed)
    c.push_items.ensures.left
