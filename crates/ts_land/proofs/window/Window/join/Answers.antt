use Rattle.std.proofs.Common.{◌≡◌, ◌+◌, sym, ap, ◌∙◌, arith, subst, length, is_some}
use Rattle.ts_land.specs.Pieces.{IsOwnerOf}
use Rattle.ts_land.proofs.PieceLemmas.{first_of_two, owner_of_either, joined_place}
use Rattle.ts_land.proofs.window.Window.join.Goals as goal

pub glue-span-requires-clause-beside : goal.glue-span-requires-clause-beside
glue-span-requires-clause-beside g c =
    let i = c.self.inside in let j = c.other.inside in
    let base : j.base ≡ i.base = ap (λ w. w.land.base) c.other.view_is ∙ ap (λ l. l.base) c.requires.land
    ∙ ap (λ w. w.land.base) (sym c.self.view_is) in
    let next : j.start ≡ i.start + length i.cells.items = ap (λ w. w.start) c.other.view_is ∙ c.requires.beside
    ∙ (λ k. (sym c.self.view_is k).start + length (sym c.self.view_is k).cells) in
    let same = c.as_mut_ptr-ptr.ensures.unchanged in
    c.span_of-2.ensures.0 ∙ joined_place _ _ c.span_of.result.ptr i.base j.base i.start j.start (length i.cells.items) (length c.span_of.result.items) g.T.Slot.bytes _ c.self.invariant.0 c.other.invariant.0 base next c.size_law.ensures
    (c.span_of.ensures.0 ∙ ap (λ v. v.ptr) same) (ap length (c.span_of.ensures.1 ∙ ap (λ v. v.items) same))

pub invariant_of-result : goal.invariant_of-result
invariant_of-result g c =
    let i = c.self.inside in let j = c.other.inside in let e = c.either.ensures in let f = c.vec_over.ensures in
    let base : j.base ≡ i.base = ap (λ w. w.land.base) c.other.view_is ∙ ap (λ l. l.base) c.requires.land
    ∙ ap (λ w. w.land.base) (sym c.self.view_is) in
    let count : j.count ≡ i.count = ap (λ w. w.land.count) c.other.view_is ∙ ap (λ l. l.count) c.requires.land
    ∙ ap (λ w. w.land.count) (sym c.self.view_is) in
    let next : j.start ≡ i.start + length i.cells.items = ap (λ w. w.start) c.other.view_is ∙ c.requires.beside
    ∙ (λ k. (sym c.self.view_is k).start + length (sym c.self.view_is k).cells) in
    let u = c.self.invariant in let v = c.other.invariant in
    let long : c.vec_over.result.len ≡ i.cells.len + j.cells.len = f.1 ∙ (λ k. c.len.ensures k + c.len-2.ensures k) in
    let back : IsOwnerOf i.base i.count j.owner = (λ (t : IsOwnerOf j.base j.count j.owner). subst (λ b. IsOwnerOf b i.count j.owner) base (subst (λ n. IsOwnerOf j.base n j.owner) count t)) v.8 in (
      f.2 ∙ c.as_mut_ptr-ptr.ensures.value ∙ u.0,
      f.3 ∙ sym f.1,
      omega (arith, long, v.2, next, count, i.cells.ok.0),
      u.3,
      u.4,
      u.5,
      u.6,
      ap is_some e ∙ (first_of_two i.start i.cells.len j.cells.len j.start c.vec_over.result.len i.owner j.owner (next
          ∙ ap (λ k. i.start + k) (sym i.cells.ok.0)) long u.7 v.7).1,
      subst (IsOwnerOf i.base i.count) (sym e) (owner_of_either i.base i.count i.owner j.owner u.8 back),
    )
