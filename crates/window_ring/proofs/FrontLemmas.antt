-- The cells up to the block's end, taken out and put back.
use Rattle.std.proofs.Common.{⊎_elim, inl, inr, ◌≡◌, ℕ, ◌+◌, ◌%◌, ◌≤◌, [], length, Option, None, Some, refl, ap, ◌∙◌, arith, length-append}
use Rattle.cell_land.specs.declared.cell_window.Bases.{Bases}
use Rattle.cell_land.specs.Cells.{CellPiece}
use Rattle.window_ring.specs.Hands.{row_of, pieces, IsHand, IsFront}
use Rattle.window_ring.proofs.HandLemmas.{next_lap, some_cell}

module _ (at : ℕ) (base : Bases) (count : ℕ) (w : CellPiece) where
  pub front_of : (second : Option CellPiece) → IsHand at base count (Some w) second → length (pieces (Some w) second) ≤ count → IsFront at (row_of (at + length w.cells) (record { base = base; count = count }) (pieces second None)) w
  front_of None h fits = record { land = h.1.land; start = h.1.start; some = h.1.some; inside = h.1.inside; ends = inl refl; next = refl; fits = omega (arith, h.1.inside) }
  front_of (Some u) h fits = record { land = h.1.land; start = h.1.start; some = h.1.some; inside = h.1.inside; ends = inr h.3; next = refl; fits = omega (arith, fits, length-append w.cells u.cells, length-append u.cells []) }

  pub put_before : (next : ℕ) (first second : Option CellPiece) → IsHand next base count first second → IsFront at (row_of next (record { base = base; count = count }) (pieces first second)) w → (second ≡ None) × IsHand at base count (Some w) first
  put_before next None None h f = (refl, (h, record { land = f.land; start = f.start; some = f.some; inside = f.inside }))
  put_before next None (Some u) h f = absurd h
  put_before next (Some v) None h f = (
    refl,
    ⊎_elim (λ e. absurd (let n = ap length e in let s = some_cell next base count v None h in omega (arith, n, s)))
        (λ full. (
          h.0,
          record { land = f.land; start = f.start; some = f.some; inside = f.inside },
          record { land = h.1.land; start = h.1.start ∙ (ap (λ k. k % count) f.next ∙ next_lap at (length w.cells) 0 count (omega (arith, full, f.start)) h.0); some = h.1.some; inside = h.1.inside },
          full,
        )) f.ends,
  )
  put_before next (Some v) (Some m) h f = absurd (⊎_elim (λ e. let n = ap length e in let s = some_cell next base count v (Some m) h in omega (arith, n, s))
      (λ full. let z : v.start ≡ 0 = h.1.start ∙ (ap (λ k. k % count) f.next ∙ next_lap at (length w.cells) 0 count (omega (arith, full, f.start)) h.0) in
      omega (arith, z, h.3, f.some, f.fits, h.2.some, length-append v.cells m.cells)) f.ends)
