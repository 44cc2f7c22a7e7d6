use Rattle.std.proofs.Common.{◌≡◌, ◌+◌, ◌-◌, ◌∙◌, ℕ, List, Bool, [], ◌++◌, take, drop, option_to_list, refl, sym, ap, arith}
use Rattle.packet_search.specs.Search.{search_from}
use Rattle.search_source.specs.Gaps.{counted}
use Rattle.search_source.specs.Coming.{ungiven, hand_of}
use Rattle.search_source.proofs.Hands.{seek-left, coming-new}
use Rattle.search_source.proofs.finder.Finder.seek.Goals as goal

pub returns-clause-gives : goal.returns-clause-gives
returns-clause-gives c = λ more enough.
    let old = c.args.self.now in
    let new = c.leave_out.new.self in
    let same = c.leave_out.ensures.same in
    let beside : Bool = c.find-place.result.near in
    let out : ℕ = c.find-place.result.left_out in
    let total : ℕ = c.sum_with-self.result in
    let size : old.from + old.have - old.from ≡ old.have = omega arith in
    let bytes : take (old.from + old.have - old.from) (drop old.from c.deref.result.now) ≡ hand_of old =
    ap (λ (n : ℕ). take n (drop old.from c.deref.result.now)) size ∙ ap (λ (l : List ℕ). take old.have (drop old.from l)) c.deref.ensures.value in
    let rest : drop out (take (old.from + old.have - old.from) (drop old.from c.deref.result.now)) ≡ hand_of new =
    ap (drop out) bytes ∙ sym c.leave_out.ensures.hand in
    let total_is : total ≡ counted (old.left + out) = c.sum_with-self.ensures ∙ ap (λ (l : ℕ). counted (l + out)) same.left in
    ap (ungiven [] (option_to_list old.noted))
    (seek-left old.form old.due old.tail old.near beside old.left old.number out total (hand_of old) (hand_of new) more
    c.requires.none.0 c.requires.none.1
    (ap (λ (l : List ℕ). search_from old.form 0 old.near old.left (l ++ more)) (sym bytes)
    ∙ c.find-place.ensures.goes_on old.left more enough
    ∙ ap (λ (l : List ℕ). search_from old.form 0 beside (old.left + out) (l ++ more)) rest)
    total_is)
    ∙ coming-new (record new { near = beside; left = total }) old.form 0 0 beside total old.number old.noted (hand_of new) more
    same.form (same.due ∙ c.requires.none.0) (same.tail ∙ c.requires.none.1) refl refl same.number same.noted refl
