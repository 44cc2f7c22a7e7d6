use Rattle.std.proofs.Common.{inl, inr, ◌≡◌, ◌≤◌, ◌+◌, ◌-◌, ◌*◌, ◌∙◌, ℕ, List, true, length, take, drop, sym, ap, arith}
use Rattle.std.proofs.lemmas.Bool.{cases_lt}
use Rattle.packet_search.specs.Rule.{in_row}
use Rattle.search_source.specs.Coming.{hand_of}
use Rattle.search_source.proofs.Hands.{row-fits, hand-has}
use Rattle.search_source.proofs.finder.Finder.row.Goals as goal

pub returns-clause-in_hand : goal.returns-clause-in_hand
returns-clause-in_hand c =
    let old = c.args.self.now in
    let count : ℕ = c.saturating_sub.result in
    let units : ℕ = c.units_in_row-units.result in
    let size : old.from + old.have - old.from ≡ old.have = omega arith in
    let bytes : take (old.from + old.have - old.from) (drop old.from c.deref.result.now) ≡ hand_of old =
    ap (λ (n : ℕ). take n (drop old.from c.deref.result.now)) size ∙ ap (λ (l : List ℕ). take old.have (drop old.from l)) c.deref.ensures.value in
    elim (cases_lt 0 count) [
      | inl some ↦ (
          let all : count + 4 ≡ units = omega arith in
          let row : in_row old.form (count + 4) (hand_of old) ≡ true =
          ap (λ (n : ℕ). in_row old.form n (hand_of old)) all ∙ ap (in_row old.form units) (sym bytes) ∙ c.units_in_row-units.ensures.row in
          let plain = c.is_plain.ensures c.if-not-is_plain.false in
          let fits : count * 188 ≤ length (hand_of old) = row-fits old.form count (hand_of old) plain.unit_is row in
          omega (arith, hand-has old)
          )
      | inr none ↦ omega arith
    ]
