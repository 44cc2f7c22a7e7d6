use Rattle.std.proofs.lemmas.Result.{err_from_is_err_and}
use Rattle.serde_json.specs.View.{members_view}
use Rattle.ts_json_tables.proofs.HeadLemmas.{first_stops, last_stops, numbers_read, order_stops}
use Rattle.ts_json_tables.proofs.heading.read_numbers.Goals as goal

pub returns-in_err-first : goal.returns-in_err-first
returns-in_err-first c =
    let p = err_from_is_err_and c.from_residual.result c.from_residual.ensures.1 in
    rw (p.1, p.2) (first_stops c.in_err-first.field-0.0 (members_view c.args.members.now.entries) c.in_err-first.ensures.read)

pub returns-in_err-last : goal.returns-in_err-last
returns-in_err-last c =
    let p = err_from_is_err_and c.from_residual-in_err-last.result c.from_residual-in_err-last.ensures.1 in
    rw (p.1, p.2) (last_stops c.in_err-last.field-0.0 (members_view c.args.members.now.entries) c.in_ok-first.first c.in_ok-first.ensures.read c.in_err-last.ensures.read)

pub returns-in_err-numbers : goal.returns-in_err-numbers
returns-in_err-numbers c =
    let p = err_from_is_err_and c.from_residual-in_err-numbers.result c.from_residual-in_err-numbers.ensures.1 in
    rw (p.1, p.2) (order_stops c.in_err-numbers.field-0.0 (members_view c.args.members.now.entries) c.in_ok-first.first c.in_ok-last.last c.in_ok-first.ensures.read c.in_ok-last.ensures.read c.in_err-numbers.ensures)

pub returns : goal.returns
returns c =
    numbers_read (members_view c.args.members.now.entries) c.in_ok-first.first c.in_ok-last.last c.in_ok-numbers.numbers c.in_ok-first.ensures.read c.in_ok-last.ensures.read c.in_ok-numbers.ensures
