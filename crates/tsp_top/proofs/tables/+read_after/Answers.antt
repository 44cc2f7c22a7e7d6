use Rattle.std.proofs.Common.{◌≡◌, ◌+◌, [], ◌∷◌, ◌++◌, length, length-append, arith}
use Rattle.plugin_settings.specs.declared.plugin_item.PluginItem.{PluginItem}
use Rattle.tsp_top.proofs.TableLemmas.{handed-on, ends-at-next, wants-behind-next, reads-one-more, one-more-table, rest-read}
use Rattle.tsp_top.proofs.tables.+read_after.Goals as goal

pub returns-in_err-table : goal.returns-in_err-table
returns-in_err-table g t c = λ before old number so_far.
    handed-on _ _ c.in_err-table.field-0.0 c.from_residual.result c.from_residual.ensures.1
    (ends-at-next before _ old (g.D.Desk.seen c.args.desk.now) (g.D.Desk.seen c.read_if_named.new.desk) c.in-Some.item.now c.in-Some.rest.now c.args.items.now c.args.plugin c.in_err-table.field-0.0
    so_far number c.in-Some.ensures.cases.0 c.in_err-table.ensures)

pub returns-in_default-push : goal.returns-in_default-push
returns-in_default-push g t c = λ before old number so_far.
    wants-behind-next before _ old (g.D.Desk.seen c.args.desk.now) (g.D.Desk.seen c.read_if_named.new.desk) c.in-Some.item.now c.in-Some.rest.now c.args.items.now c.args.plugin
    so_far number c.in-Some.ensures.cases.0 c.in_ok-table.ensures.1

pub returns : goal.returns
returns g t c = λ before old number so_far.
    let item : PluginItem = c.in-Some.item.now in
    let longer : length (before ++ item ∷ []) ≡ length before + 1 = length-append before (item ∷ []) in
    rest-read c.read_after.result before item c.in-Some.rest.now c.args.items.now _ old (g.D.Desk.seen c.read_after.new.desk) c.in-Some.ensures.cases.0
    (c.read_after.ensures (before ++ item ∷ []) old (omega (arith, number, longer))
    (one-more-table before item old (g.D.Desk.seen c.read_if_named.new.desk) c.args.tables.now.items c.push.new.self.items c.in_ok-table.table c.in-Ok.ensures.items
    (reads-one-more before _ old (g.D.Desk.seen c.args.desk.now) so_far item c.in-Some.rest.now c.in_ok-table.table.items (g.D.Desk.seen c.read_if_named.new.desk)
    c.in_ok-table.ensures.0 c.in_ok-table.ensures.1)))
