use Rattle.std.proofs.Common.{ℕ, List, ◌≡◌, length, sym, ap, ◌∙◌, arith, subst}
use Rattle.ts_land.specs.Opening.{joined, AreInSync, rows_of}
use Rattle.ts_land.proofs.OpenLemmas.{bytes_long, joined_sync, rows_of_joined}
use Rattle.ts_land.proofs.open_window.open.Goals as goal

pub vec_over-requires : goal.vec_over-requires
vec_over-requires c =
    let o = c.open_span-span.ensures.bytes in let s = c.span_of.ensures in let u = c.window.invariant in
    let m = c.as_mut_ptr-ptr.ensures in let long = bytes_long c.span_of.result.items o.2 in
    let items = ap length o.1 in let rows = ap length s.1 in let kept = ap (λ v. length v.items) m.unchanged in
    let len = c.len-len.ensures in let ok = c.window.inside.cells.ok.0 in (
      o.0 ∙ s.0 ∙ ap (λ v. v.ptr) m.unchanged ∙ sym m.value ∙ sym c.bytes_at.ensures,
      omega (arith, items, long, rows, kept, len, ok),
      omega (arith, len, ok, u.2, u.4, u.5),
    )

pub returns-clause-sync : goal.returns-clause-sync
returns-clause-sync c =
    let o = c.open_span-span.ensures.bytes in let xs = c.span_of.result.items in let bytes = c.vec_over.ensures.0 ∙ o.1 in
    let same : xs ≡ c.args.window.cells = c.span_of.ensures.1 ∙ ap (λ v. v.items) c.as_mut_ptr-ptr.ensures.unchanged ∙ ap (λ w. w.cells) c.window.view_is in
    subst (λ (bs : List ℕ). AreInSync (length c.args.window.cells) bs) (sym bytes) (subst (λ (n : ℕ). AreInSync n (joined xs)) (ap length same) (joined_sync xs o.2))

pub returns-clause-packets : goal.returns-clause-packets
returns-clause-packets c =
    let o = c.open_span-span.ensures.bytes in let xs = c.span_of.result.items in let bytes = c.vec_over.ensures.0 ∙ o.1 in
    let same : xs ≡ c.args.window.cells = c.span_of.ensures.1 ∙ ap (λ v. v.items) c.as_mut_ptr-ptr.ensures.unchanged ∙ ap (λ w. w.cells) c.window.view_is in
    ap (rows_of (length c.args.window.cells)) bytes ∙ ap (λ (n : ℕ). rows_of n (joined xs)) (sym (ap length same)) ∙ rows_of_joined xs o.2 ∙ same
