-- A window that was worked on, put back.
use Rattle.std.proofs.Common.{ℕ, ap, ◌∙◌, arith}
use Rattle.cell_land.specs.Cells.{CellLand, CellPiece, SameSlots}
use Rattle.window_ring.specs.Hands.{Row, IsFront}

pub front_again : (at : ℕ) (rest : Row) (w v : CellPiece) → IsFront at rest w → SameSlots w v → IsFront at rest v
front_again at rest w v f same =
    let long = same.2 in let begins = same.1 in let count = ap (λ (l : CellLand). l.count) same.0 in
    record {
      land = same.0 ∙ f.land;
      start = begins ∙ f.start;
      some = omega (arith, f.some, long);
      inside = omega (arith, f.inside, long, begins, count);
      ends = Rattle.std.proofs.Common.⊎_elim (λ z. Rattle.std.proofs.Common.inl z) (λ z. Rattle.std.proofs.Common.inr (omega (arith, z, long, begins, count))) f.ends;
      next = omega (arith, f.next, long);
      fits = omega (arith, f.fits, long);
    }
