use Rattle.std.proofs.Common.{append-nil, ◌≡◌, ◌-◌, ◌++◌, Some, subst, sym, ap, ◌∙◌, arith}
use Rattle.window_ring.specs.Hands.{IsHand, IsFront, piece, row_of, land_at}
use Rattle.window_ring.proofs.FrontLemmas.{put_before}
use Rattle.window_ring.proofs.hand.Hand.put_front.Goals as goal

pub nothing-requires : goal.nothing-requires
nothing-requires c =
    let i = c.at.inside in let w = c.args.window in
    let f = subst (λ r. IsFront c.requires.0 r w) (sym (c.at.view_is ∙ c.lift.ensures.all)) c.requires.1 in
    (put_before c.requires.0 i.base i.count w i.at i.first i.second c.at.invariant f).0

pub of-requires : goal.of-requires
of-requires c =
    let i = c.at.inside in let w = c.args.window in
    let f = subst (λ r. IsFront c.requires.0 r w) (sym (c.at.view_is ∙ c.lift.ensures.all)) c.requires.1 in
    let h = (put_before c.requires.0 i.base i.count w i.at i.first i.second c.at.invariant f).1 in
    let at : c.requires.0 ≡ i.at - c.len.result = let n = f.next in let l = c.len.ensures in omega (arith, n, l) in
    subst (λ n. IsHand n i.base i.count (Some w) i.first) at h

pub returns : goal.returns
returns c = λ at front.
    let i = c.at.inside in let w = c.args.window in let land = land_at i.base i.count in
    let f = subst (λ r. IsFront at r w) (sym (c.at.view_is ∙ c.lift.ensures.all)) front in
    let none = (put_before at i.base i.count w i.at i.first i.second c.at.invariant f).0 in
    let n : i.at - c.len.result ≡ at = let m = f.next in let l = c.len.ensures in omega (arith, m, l) in
    let cells = sym (append-nil (piece i.first)) ∙ (λ k. piece i.first ++ piece (sym none k)) ∙ ap (λ r. r.cells) (c.at.view_is ∙ c.lift.ensures.all) in
    c.set_down.ensures ∙ (c.of.ensures ∙ (λ k. row_of (n k) (ap (λ r. r.land) (c.at.view_is ∙ c.lift.ensures.all) k) (w.cells ++ cells k)))
