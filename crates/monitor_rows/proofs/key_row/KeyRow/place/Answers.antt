use Rattle.std.proofs.Common.{rules}
use Rattle.std.proofs.lemmas.List.Sorted.{answers_always}
use Rattle.monitor_rows.proofs.Searching.{ok_found, ok_none}
use Rattle.monitor_rows.proofs.key_row.KeyRow.place.Goals as goal

-- the closure gives the number of a key, and the slice is that of the row's keys
pub returns-clause-found : goal.returns-clause-found
returns-clause-found c =
    let facts = c.binary_search_by_key.ensures in
    let by_number = facts.position (λ key. key.number) (answers_always _ _ _ (λ f a r g called. search rules)) in
    ok_found c.args.self.now.keys.items c.deref.result.now c.args.number _ c.ok.result c.deref.ensures.value c.ok.ensures.value facts.bound by_number

pub returns-clause-none : goal.returns-clause-none
returns-clause-none c =
    let facts = c.binary_search_by_key.ensures in
    let by_number = facts.position (λ key. key.number) (answers_always _ _ _ (λ f a r g called. search rules)) in
    ok_none c.args.self.now.keys.items c.deref.result.now c.args.number _ c.ok.result c.deref.ensures.value c.ok.ensures.value facts.bound by_number
