use Rattle.std.proofs.Common.{◌≡◌, ◌<◌, ◌+◌, ◌-◌, ◌++◌, Some, None, subst, sym, ap, ◌∙◌, length, take, drop, arith, append-nil, length-append}
use Rattle.window_ring.specs.Hands.{IsHand, pieces, row_of, land_at}
use Rattle.window_ring.proofs.HandLemmas.{cut_second, take_past, drop_past}
use Rattle.window_ring.proofs.hand.cut_after.Goals as goal

pub of-requires-3 : goal.of-requires-3
of-requires-3 c =
    let a = c.args in let u = c.in-Some.second in let l = c.len.ensures in
    let h = subst (λ f. IsHand a.at a.base a.count (Some a.first) f) c.in-Some.is c.requires.hand in
    let n : a.n ≡ length a.first.cells + (a.n - c.len.result) = let p = c.requires.past in omega (arith, p, l) in
    let total : length (pieces (Some a.first) a.second) ≡ length (a.first.cells ++ u.cells) = ap (λ f. length (pieces (Some a.first) f)) c.in-Some.is in
    let few : a.n - c.len.result < length u.cells =
    let w = c.requires.within in let t = length-append a.first.cells u.cells in let e = c.if-more-len.false in let m = c.len-2.ensures in omega (arith, w, total, t, e, m, l) in
    subst (λ p. IsHand (a.at + a.n) a.base a.count (Some p) None) (sym c.split-front.ensures.back) (cut_second a.at a.base a.count a.n (a.n - c.len.result) a.first u h n few)

pub returns-clause-front : goal.returns-clause-front
returns-clause-front c =
    let a = c.args in let u = c.in-Some.second in let l = c.len.ensures in
    let n : a.n ≡ length a.first.cells + (a.n - c.len.result) = let p = c.requires.past in omega (arith, p, l) in
    let cells = ap (λ p. a.first.cells ++ p.cells) c.split-front.ensures.front ∙ sym (take_past a.first.cells u.cells a.n (a.n - c.len.result) n) ∙ (λ k. take a.n (pieces (Some a.first) (sym c.in-Some.is k))) in
    c.of-2.ensures ∙ ap (row_of a.at (land_at a.base a.count)) cells

pub returns-clause-rest : goal.returns-clause-rest
returns-clause-rest c =
    let a = c.args in let u = c.in-Some.second in let l = c.len.ensures in
    let n : a.n ≡ length a.first.cells + (a.n - c.len.result) = let p = c.requires.past in omega (arith, p, l) in
    let cells = append-nil c.split-front.result.1.cells ∙ ap (λ p. p.cells) c.split-front.ensures.back ∙ sym (drop_past a.first.cells u.cells a.n (a.n - c.len.result) n) ∙ (λ k. drop a.n (pieces (Some a.first) (sym c.in-Some.is k))) in
    c.of-3.ensures ∙ ap (row_of (a.at + a.n) (land_at a.base a.count)) cells
