use Rattle.std.proofs.Common.{◌++◌, Some, None, subst, sym, ap, ◌∙◌, arith}
use Rattle.cell_land.specs.Cells.{CellPiece}
use Rattle.window_ring.specs.Hands.{IsHand, pieces, row_of}
use Rattle.window_ring.proofs.HandLemmas.{fitting, known, after_two, after_one, one_more, both_first, both_next, cells_last, cells_first}
use Rattle.window_ring.proofs.hand.Hand.with.Goals as goal

pub nothing-requires-in-Some-second : goal.nothing-requires-in-Some-second
nothing-requires-in-Some-second c =
    let i = c.self.inside in let j = c.other.inside in let w = c.in-Some.first in let t = c.in-Some-theirs.theirs in let u = c.in-Some-second.second in
    let all = fitting c.args.self c.args.other i.at j.at i.count j.count i.base j.base i.first i.second j.first j.second c.self.view_is c.other.view_is c.requires.behind c.requires.same c.requires.fits c.self.invariant c.other.invariant in
    let f = known i.at j.at i.count i.base i.first i.second j.first j.second (Some w) (Some u) (Some t) c.in-Some.is c.in-Some-second.is c.in-Some-theirs.is all in
    (after_two i.at j.at i.count i.base w t j.second u f).0

pub join-both-requires-clause-beside : goal.join-both-requires-clause-beside
join-both-requires-clause-beside c =
    let i = c.self.inside in let j = c.other.inside in let w = c.in-Some.first in let t = c.in-Some-theirs.theirs in let u = c.in-Some-second.second in
    let all = fitting c.args.self c.args.other i.at j.at i.count j.count i.base j.base i.first i.second j.first j.second c.self.view_is c.other.view_is c.requires.behind c.requires.same c.requires.fits c.self.invariant c.other.invariant in
    let f = known i.at j.at i.count i.base i.first i.second j.first j.second (Some w) (Some u) (Some t) c.in-Some.is c.in-Some-second.is c.in-Some-theirs.is all in
    (after_two i.at j.at i.count i.base w t j.second u f).1

pub returns-in-Some-second : goal.returns-in-Some-second
returns-in-Some-second c =
    let i = c.self.inside in let j = c.other.inside in let w = c.in-Some.first in let t = c.in-Some-theirs.theirs in let u = c.in-Some-second.second in
    let all = fitting c.args.self c.args.other i.at j.at i.count j.count i.base j.base i.first i.second j.first j.second c.self.view_is c.other.view_is c.requires.behind c.requires.same c.requires.fits c.self.invariant c.other.invariant in
    let f = known i.at j.at i.count i.base i.first i.second j.first j.second (Some w) (Some u) (Some t) c.in-Some.is c.in-Some-second.is c.in-Some-theirs.is all in
    let none = (after_two i.at j.at i.count i.base w t j.second u f).0 in
    let both = ap (λ (p : CellPiece). w.cells ++ p.cells) c.join-both.ensures ∙ cells_last w.cells u.cells t.cells in
    let mine = (λ k. pieces (sym c.in-Some.is k) (sym c.in-Some-second.is k)) ∙ ap (λ r. r.cells) c.self.view_is in
    let their = (λ k. pieces (sym c.in-Some-theirs.is k) (sym none k)) ∙ ap (λ r. r.cells) c.other.view_is in
    c.of-in-Some-second.ensures ∙ (λ k. row_of (c.self.view_is k).at (c.self.view_is k).land ((both ∙ (λ l. mine l ++ their l)) k))

pub of-requires-then-start-eq0 : goal.of-requires-then-start-eq0
of-requires-then-start-eq0 c =
    let i = c.self.inside in let j = c.other.inside in let w = c.in-Some.first in let t = c.in-Some-theirs.theirs in
    let all = fitting c.args.self c.args.other i.at j.at i.count j.count i.base j.base i.first i.second j.first j.second c.self.view_is c.other.view_is c.requires.behind c.requires.same c.requires.fits c.self.invariant c.other.invariant in
    let f = known i.at j.at i.count i.base i.first i.second j.first j.second (Some w) None (Some t) c.in-Some.is c.in_default-second.is c.in-Some-theirs.is all in
    both_first i.at j.at i.count i.base w t j.second f (let z = c.if-start-eq0.true in let st = c.start.ensures in omega (arith, z, st))

pub returns-then-start-eq0 : goal.returns-then-start-eq0
returns-then-start-eq0 c =
    let i = c.self.inside in let j = c.other.inside in let w = c.in-Some.first in let t = c.in-Some-theirs.theirs in
    let all = fitting c.args.self c.args.other i.at j.at i.count j.count i.base j.base i.first i.second j.first j.second c.self.view_is c.other.view_is c.requires.behind c.requires.same c.requires.fits c.self.invariant c.other.invariant in
    let f = known i.at j.at i.count i.base i.first i.second j.first j.second (Some w) None (Some t) c.in-Some.is c.in_default-second.is c.in-Some-theirs.is all in
    let none = one_more i.at j.at i.count i.base w t j.second f (let z = c.if-start-eq0.true in let st = c.start.ensures in omega (arith, z, st)) in
    let mine = (λ k. pieces (sym c.in-Some.is k) (sym c.in_default-second.is k)) ∙ ap (λ r. r.cells) c.self.view_is in
    let their = (λ k. pieces (sym c.in-Some-theirs.is k) (sym none k)) ∙ ap (λ r. r.cells) c.other.view_is in
    c.of-then-start-eq0.ensures ∙ (λ k. row_of (c.self.view_is k).at (c.self.view_is k).land ((cells_first w.cells t.cells ∙ (λ l. mine l ++ their l)) k))

pub of-requires-2 : goal.of-requires-2
of-requires-2 c =
    let i = c.self.inside in let j = c.other.inside in let w = c.in-Some.first in let t = c.in-Some-theirs.theirs in
    let all = fitting c.args.self c.args.other i.at j.at i.count j.count i.base j.base i.first i.second j.first j.second c.self.view_is c.other.view_is c.requires.behind c.requires.same c.requires.fits c.self.invariant c.other.invariant in
    let f = known i.at j.at i.count i.base i.first i.second j.first j.second (Some w) None (Some t) c.in-Some.is c.in_default-second.is c.in-Some-theirs.is all in
    let z = c.if-start-eq0.false in let st = c.start.ensures in
    subst (λ p. IsHand i.at i.base i.count (Some p) j.second) (sym c.join.ensures) (both_next i.at j.at i.count i.base w t j.second f (λ e. omega (arith, z, st, e)))

pub join-requires-clause-beside : goal.join-requires-clause-beside
join-requires-clause-beside c =
    let i = c.self.inside in let j = c.other.inside in let w = c.in-Some.first in let t = c.in-Some-theirs.theirs in
    let all = fitting c.args.self c.args.other i.at j.at i.count j.count i.base j.base i.first i.second j.first j.second c.self.view_is c.other.view_is c.requires.behind c.requires.same c.requires.fits c.self.invariant c.other.invariant in
    let f = known i.at j.at i.count i.base i.first i.second j.first j.second (Some w) None (Some t) c.in-Some.is c.in_default-second.is c.in-Some-theirs.is all in
    let z = c.if-start-eq0.false in let st = c.start.ensures in (after_one i.at j.at i.count i.base w t j.second f).1 (λ e. omega (arith, z, st, e))
