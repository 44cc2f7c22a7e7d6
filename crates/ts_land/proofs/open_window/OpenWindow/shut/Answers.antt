use Rattle.std.proofs.Math.Nat.{mul-div_cancel}
use Rattle.std.specs.Prelude.{EachIndex, slice_index}
use Rattle.std.proofs.Common.{ℕ, List, ◌≡◌, ◌*◌, ◌/◌, ◌<◌, length, sym, ap, ◌∙◌, arith, subst}
use Rattle.ts_land.specs.Pieces.{piece_of}
use Rattle.ts_land.specs.Opening.{AreRows, AreInSync, rows_of}
use Rattle.ts_land.proofs.OpenLemmas.{rows_long, rows_joined, rows_lawful}
use Rattle.ts_land.proofs.open_window.OpenWindow.shut.Goals as goal

pub shut_span-span-requires-clause-packets : goal.shut_span-span-requires-clause-packets
shut_span-span-requires-clause-packets c =
    let n = c.self.inside.shutter.count in let bs = c.self.inside.bytes.items in let u = c.self.invariant in
    let ok = c.self.inside.bytes.ok.0 in let e = u.3 in
    let l : length bs ≡ n * 188 = omega (arith, ok, e) in
    let same : c.span_of.result.items ≡ bs = c.span_of.ensures.1 ∙ ap (λ v. v.items) c.as_mut_ptr-ptr.ensures.unchanged in
    let sync = subst (λ w. AreInSync w.slots w.bytes) (sym c.self.view_is) c.requires in
    let small = subst (λ (xs : List ℕ). EachIndex xs (λ k. slice_index xs k < 256)) c.as_slice.ensures.value c.are_bytes.ensures in
    rw same ((rows_long n bs, rows_joined n bs l, rows_lawful n bs l small sync))

pub vec_over-requires : goal.vec_over-requires
vec_over-requires c =
    let n = c.self.inside.shutter.count in let u = c.self.invariant in let m = c.as_mut_ptr-ptr.ensures in
    let s = c.shut_span-span.ensures in let e = u.3 in let f = c.len-len.ensures in
    let n_is : c.len-len.result / 188 ≡ n = ap (λ k. k / 188) (f ∙ e) ∙ mul-div_cancel n (omega arith) in
    let long = rows_long n c.span_of.result.items in let items = ap length s.1 in (
      s.0 ∙ c.span_of.ensures.0 ∙ ap (λ v. v.ptr) m.unchanged ∙ sym m.value ∙ sym c.packets_at.ensures,
      items ∙ long ∙ sym n_is,
      omega (arith, n_is, u.4, u.6),
    )

pub returns-clause-shut : goal.returns-clause-shut
returns-clause-shut c =
    let n = c.self.inside.shutter.count in
    let same : c.span_of.result.items ≡ c.self.inside.bytes.items = c.span_of.ensures.1 ∙ ap (λ v. v.items) c.as_mut_ptr-ptr.ensures.unchanged in
    let cells = c.vec_over.ensures.0 ∙ c.shut_span-span.ensures.1 ∙ ap (rows_of n) same in
    ap (piece_of _ _) cells ∙ ap (λ w. piece_of w.land w.start (rows_of w.slots w.bytes)) c.self.view_is

pub returns-clause-packets : goal.returns-clause-packets
returns-clause-packets c =
    let n = c.self.inside.shutter.count in let bs = c.self.inside.bytes.items in let u = c.self.invariant in
    let ok = c.self.inside.bytes.ok.0 in let e = u.3 in
    let l : length bs ≡ n * 188 = omega (arith, ok, e) in
    let same : c.span_of.result.items ≡ bs = c.span_of.ensures.1 ∙ ap (λ v. v.items) c.as_mut_ptr-ptr.ensures.unchanged in
    let sync = subst (λ w. AreInSync w.slots w.bytes) (sym c.self.view_is) c.requires in
    let small = subst (λ (xs : List ℕ). EachIndex xs (λ k. slice_index xs k < 256)) c.as_slice.ensures.value c.are_bytes.ensures in
    let cells = c.vec_over.ensures.0 ∙ c.shut_span-span.ensures.1 ∙ ap (rows_of n) same in
    subst AreRows (sym cells) (rows_lawful n bs l small sync)
