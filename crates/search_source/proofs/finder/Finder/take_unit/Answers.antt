use Rattle.std.proofs.Common.{◌≡◌, ◌≤◌, ◌+◌, ◌-◌, ◌∙◌, ℕ, suc, List, [], true, ◌++◌, length, take, drop, min, option_to_list, sym, ap, subst, arith}
use Rattle.packet_forms.specs.Stripped.{lead, unit}
use Rattle.packet_search.specs.Settled.{IsEnough}
use Rattle.packet_search.proofs.Units.{unit-holds, whole-has, gives-whole}
use Rattle.search_source.specs.declared.gap.Gap.{Gap}
use Rattle.search_source.specs.Gaps.{counted, gap_before}
use Rattle.search_source.specs.Coming.{ungiven, hand_of, coming_from}
use Rattle.search_source.proofs.Hands.{take-left, noted-more, hand-has, hand-less, counted-raised}
use Rattle.search_source.proofs.finder.Finder.take_unit.Goals as goal

pub overflow_sub-self : goal.overflow_sub-self
overflow_sub-self c =
    let old = c.args.self.now in
    let has = whole-has old.form (hand_of old) (gives-whole old.form old.near (hand_of old) c.requires.packet) in
    let long : lead old.form + 188 ≤ length (hand_of old) = has.0 in
    omega (arith, hand-has old)

pub overflow_sub-self-2 : goal.overflow_sub-self-2
overflow_sub-self-2 c =
    let old = c.args.self.now in
    let has = whole-has old.form (hand_of old) (gives-whole old.form old.near (hand_of old) c.requires.packet) in
    let long : lead old.form + 188 ≤ length (hand_of old) = has.0 in
    omega (arith, unit-holds old.form, hand-has old)

pub overflow_sub-self-3 : goal.overflow_sub-self-3
overflow_sub-self-3 c =
    let old = c.args.self.now in
    let has = whole-has old.form (hand_of old) (gives-whole old.form old.near (hand_of old) c.requires.packet) in
    let long : lead old.form + 188 ≤ length (hand_of old) = has.0 in
    omega (arith, unit-holds old.form, hand-has old)

pub invariant_of-self : goal.invariant_of-self
invariant_of-self c =
    let old = c.args.self.now in
    let has = whole-has old.form (hand_of old) (gives-whole old.form old.near (hand_of old) c.requires.packet) in
    let long : lead old.form + 188 ≤ length (hand_of old) = has.0 in
    let size = hand-has old in
    record {
      size = old.size;
      within = omega (arith, old.within);
      due_fits = omega (arith, unit-holds old.form, old.due_fits);
    }

pub returns-clause-gives : goal.returns-clause-gives
returns-clause-gives c = λ more enough.
    let old = c.args.self.now in
    let has = whole-has old.form (hand_of old) (gives-whole old.form old.near (hand_of old) c.requires.packet) in
    let long : lead old.form + 188 ≤ length (hand_of old) = has.0 in
    let size : length (hand_of old) ≡ old.have = hand-has old in
    let wide : IsEnough old.form (length (hand_of old)) more = subst (λ (n : ℕ). IsEnough old.form n more) (sym size) enough in
    let l : ℕ = c.lead-lead.result in
    let now : ℕ = c.min-size.result - l - 188 in
    let next : ℕ = c.one_more-self.result in
    let noted : List Gap = option_to_list old.noted in
    let lead_is : l ≡ lead old.form = c.lead-lead.ensures in
    let size_is : c.min-size.result ≡ min (unit old.form) (length (hand_of old)) = omega arith in
    let now_is : now ≡ c.min-size.result - lead old.form - 188 = omega arith in
    let few : l ≤ old.have = omega arith in
    let next_is : counted next ≡ counted (suc old.number) = ap counted c.one_more-self.ensures ∙ counted-raised old.number in
    let rest : List ℕ = take (old.have - l) (drop (old.from + l) old.room.items) in
    ap (ungiven [] noted)
    (take-left old.form old.due old.tail old.near old.left old.number next now c.min-size.result (hand_of old) more
    c.requires.none.0 c.requires.none.1 c.requires.packet wide size_is now_is next_is
    ∙ ap (λ (n : ℕ). ungiven [] (gap_before old.number old.left) (coming_from old.form 188 now true 0 next (drop n (hand_of old) ++ more))) (sym lead_is)
    ∙ ap (λ (m : List ℕ). ungiven [] (gap_before old.number old.left) (coming_from old.form 188 now true 0 next (m ++ more))) (sym (hand-less old.from old.have l old.room.items few)))
    ∙ noted-more noted (gap_before old.number old.left) (coming_from old.form 188 now true 0 next (rest ++ more))
    ∙ ap (λ (g : List Gap). ungiven [] g (coming_from old.form 188 now true 0 next (rest ++ more))) (sym c.noted_with-self.ensures)
