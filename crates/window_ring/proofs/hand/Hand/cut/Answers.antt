use Rattle.std.proofs.Common.{◌<◌, ◌+◌, Some, subst, sym, length, arith}
use Rattle.window_ring.specs.Hands.{IsHand}
use Rattle.window_ring.proofs.HandLemmas.{cut_first, cut_whole}
use Rattle.window_ring.proofs.hand.Hand.cut.Goals as goal

pub of-requires-then-n-len-2-2 : goal.of-requires-then-n-len-2-2
of-requires-then-n-len-2-2 c =
    let i = c.self.inside in let w = c.in-Some.first in
    let h = subst (λ f. IsHand i.at i.base i.count f i.second) c.in-Some.is c.self.invariant in
    cut_whole i.at i.base i.count c.args.n w i.second h (let t = c.if-n-len-2.true in let l = c.len-len.ensures in omega (arith, t, l))

pub of-requires-3 : goal.of-requires-3
of-requires-3 c =
    let i = c.self.inside in let w = c.in-Some.first in
    let h = subst (λ f. IsHand i.at i.base i.count f i.second) c.in-Some.is c.self.invariant in
    let few : c.args.n < length w.cells = let a = c.if-n-len.false in let b = c.if-n-len-2.false in let l = c.len-len.ensures in omega (arith, a, b, l) in
    subst (λ p. IsHand (i.at + c.args.n) i.base i.count (Some p) i.second) (sym c.split-front.ensures.back) (cut_first i.at i.base i.count c.args.n w i.second h few)
