use Rattle.std.proofs.Common.{◌-◌, ◌||◌, ap, sym, ◌∙◌}
use Rattle.std.specs.List.{list_any}
use Rattle.service_items.specs.ServiceItems.{is_of_one, items_from}
use Rattle.service_items.proofs.ItemLemmas.{any-more, any-none}
use Rattle.service_items.proofs.listed_services.+has_one.Goals as goal

pub returns-then-count-eq0 : goal.returns-then-count-eq0
returns-then-count-eq0 t c = any-none c.args.services.now c.args.count c.args.size c.args.items.now c.if-count-eq0.true

pub returns-then-is_of_one : goal.returns-then-is_of_one
returns-then-is_of_one t c =
    let services = c.args.services.now in
    let rest = c.split_item.result.1.now in
    ap (λ b. b || list_any (is_of_one services) (items_from (c.args.count - 1) c.args.size rest)) (sym c.if-is_of_one.true ∙ c.is_of_one.ensures.tells)
    ∙ any-more services c.args.count c.args.size c.args.items.now c.split_item.result.0.now rest c.if-count-eq0.false c.split_item.ensures.item c.split_item.ensures.rest

pub returns : goal.returns
returns t c =
    let services = c.args.services.now in
    let rest = c.split_item.result.1.now in
    c.has_one.ensures
    ∙ ap (λ b. b || list_any (is_of_one services) (items_from (c.args.count - 1) c.args.size rest)) (sym c.if-is_of_one.false ∙ c.is_of_one.ensures.tells)
    ∙ any-more services c.args.count c.args.size c.args.items.now c.split_item.result.0.now rest c.if-count-eq0.false c.split_item.ensures.item c.split_item.ensures.rest
