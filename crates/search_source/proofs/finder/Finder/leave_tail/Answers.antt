use Rattle.std.proofs.Common.{◌≤◌, ◌∙◌, [], length, drop, option_to_list, ap, arith}
use Rattle.search_source.specs.Coming.{ungiven, hand_of}
use Rattle.search_source.proofs.Hands.{tail-left, hand-has, coming-new}
use Rattle.search_source.proofs.finder.Finder.leave_tail.Goals as goal

pub returns-clause-gives : goal.returns-clause-gives
returns-clause-gives c = λ more.
    let old = c.args.self.now in
    let new = c.leave_out.new.self in
    let same = c.leave_out.ensures.same in
    let fits : old.tail ≤ length (hand_of old) = omega (arith, hand-has old, old.due_fits) in
    ap (ungiven [] (option_to_list old.noted)) (tail-left old.form old.due old.tail old.near old.left old.number (hand_of old) more c.requires fits)
    ∙ coming-new new old.form 0 0 old.near old.left old.number old.noted (drop old.tail (hand_of old)) more
    same.form (same.due ∙ c.requires) same.tail same.near same.left same.number same.noted c.leave_out.ensures.hand
