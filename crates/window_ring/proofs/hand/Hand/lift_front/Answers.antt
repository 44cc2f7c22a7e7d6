use Rattle.std.proofs.Common.{◌≡◌, ◌+◌, ◌++◌, Some, None, subst, sym, ap, ◌∙◌, length, arith, append-nil}
use Rattle.cell_land.specs.Cells.{CellLand as Land}
use Rattle.window_ring.specs.Hands.{Row, IsHand, IsFront, pieces, piece, row_of}
use Rattle.window_ring.proofs.HandLemmas.{cut_whole, no_second}
use Rattle.window_ring.proofs.FrontLemmas.{front_of}
use Rattle.window_ring.proofs.hand.Hand.lift_front.Goals as goal

pub of-requires-in-Some : goal.of-requires-in-Some
of-requires-in-Some c =
    let i = c.at.inside in let w = c.in-Some.window in
    cut_whole i.at i.base i.count c.len.result w i.second (subst (λ f. IsHand i.at i.base i.count f i.second) c.in-Some.is c.at.invariant) c.len.ensures

pub returns-in-Some-clause-some : goal.returns-in-Some-clause-some
returns-in-Some-clause-some c =
    let i = c.at.inside in let w = c.in-Some.window in
    let h : IsHand i.at i.base i.count (Some w) i.second = subst (λ f. IsHand i.at i.base i.count f i.second) c.in-Some.is c.at.invariant in
    let land : Land = record { base = i.base; count = i.count } in
    let was : row_of i.at land (pieces (Some w) i.second) ≡ c.args.self.now = ap (λ f. row_of i.at land (pieces f i.second)) (sym c.in-Some.is) ∙ (c.at.view_is ∙ c.lift.ensures.all) in
    let now : row_of (i.at + length w.cells) land (pieces i.second None) ≡ c.set_down-in-Some.new.self = ap (λ n. row_of (i.at + n) land (pieces i.second None)) (sym c.len.ensures) ∙ sym (c.set_down-in-Some.ensures ∙ c.of-in-Some.ensures) in
    let rest : piece i.second ≡ c.set_down-in-Some.new.self.cells = sym (append-nil (piece i.second)) ∙ ap (λ (r : Row). r.cells) now in
    record {
      is_front = λ few. subst (λ n. IsFront n c.set_down-in-Some.new.self w) (ap (λ (r : Row). r.at) was) (subst (λ r. IsFront i.at r w) now (front_of i.at i.base i.count w i.second h (let a = ap (λ (r : Row). length r.cells) was in let b = ap (λ (r : Row). r.land.count) was in omega (arith, few, a, b))));
      cells = sym (ap (λ (r : Row). r.cells) was) ∙ ap (λ l. w.cells ++ l) rest;
      same = sym (ap (λ (r : Row). r.land) now) ∙ ap (λ (r : Row). r.land) was;
    }

pub returns-in-None-clause-none : goal.returns-in-None-clause-none
returns-in-None-clause-none c =
    let i = c.at.inside in let land : Land = record { base = i.base; count = i.count } in
    let was : row_of i.at land (pieces i.first i.second) ≡ c.args.self.now = c.at.view_is ∙ c.lift.ensures.all in
    let none = no_second i.at i.base i.count i.second (subst (λ f. IsHand i.at i.base i.count f i.second) c.in-None.is c.at.invariant) in (
      ap (λ (r : Row). r.cells) (sym was) ∙ (λ k. pieces (c.in-None.is k) (none k)),
      (c.set_down.ensures ∙ c.of.ensures) ∙ ((λ k. row_of i.at land (pieces (sym c.in-None.is k) i.second)) ∙ was),
    )
