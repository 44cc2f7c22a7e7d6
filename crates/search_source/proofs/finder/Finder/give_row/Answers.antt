use Rattle.std.proofs.Common.{◌≡◌, ◌≤◌, ◌+◌, ◌-◌, ◌*◌, ◌∙◌, ℕ, List, [], ◌++◌, length, take, drop, option_to_list, sym, ap, arith}
use Rattle.std.proofs.lemmas.List.{take-take}
use Rattle.search_source.specs.Gaps.{counted}
use Rattle.search_source.specs.Coming.{ungiven, hand_of, coming_from}
use Rattle.search_source.proofs.Counting.{counted-twice}
use Rattle.search_source.proofs.Hands.{row-left, hand-has, hand-less, placed}
use Rattle.search_source.proofs.finder.Finder.give_row.Goals as goal

pub returns-clause-given : goal.returns-clause-given
returns-clause-given c = λ more.
    let old = c.args.self.now in
    let row = c.requires.row in
    let n : ℕ = c.args.count * 188 in
    let next : ℕ = c.sum_with-self.result in
    let size : length (hand_of old) ≡ old.have = hand-has old in
    let fits : n ≤ old.have = c.requires.in_hand in
    let fits_hand : n ≤ length (hand_of old) = omega arith in
    let sum : old.from + n - old.from ≡ n = omega arith in
    let source : take (old.from + n - old.from) (drop old.from c.deref.result.now) ≡ take n (hand_of old) =
    ap (λ (k : ℕ). take k (drop old.from c.deref.result.now)) sum ∙ ap (λ (l : List ℕ). take n (drop old.from l)) c.deref.ensures.value
    ∙ sym (take-take n old.have (drop old.from old.room.items) fits) in
    let rest : List ℕ = take (old.have - n) (drop (old.from + n) old.room.items) in
    let next_is : counted next ≡ counted (old.number + c.args.count) = ap counted c.sum_with-self.ensures ∙ counted-twice (old.number + c.args.count) in
    ap (ungiven [] (option_to_list old.noted))
    (row-left old.form old.due old.tail old.near old.left old.number next c.args.count (hand_of old) more
    row.plain.none_due row.plain.no_tail row.plain.is_near row.plain.none_left row.plain.unit_is row.row next_is
    ∙ ap (λ (m : List ℕ). ungiven (take n (hand_of old)) [] (coming_from old.form old.due old.tail old.near old.left next (m ++ more))) (sym (hand-less old.from old.have n old.room.items fits)))
    ∙ ap (λ (m : List ℕ). ungiven m [] (ungiven [] (option_to_list old.noted) (coming_from old.form old.due old.tail old.near old.left next (rest ++ more))))
    (sym (placed n c.copy_from_slice.new.self (drop n c.args.into.now) (hand_of old) (take (old.from + n - old.from) (drop old.from c.deref.result.now)) c.copy_from_slice.ensures.after source fits_hand))
