-- Lemmas on cells as packets and their marks.
use Rattle.std.proofs.Common.{◌≡◌, ℕ, zero, suc, ◌+◌, ◌<◌, List, [], ◌∷◌, ◌++◌, length, take, drop, get_or, set, refl, sym, ap, ◌∙◌, arith, false, true, Bool}
use Rattle.std.proofs.lemmas.List.{get_or-set_same}
use Rattle.std.specs.Prelude.{replicate, if◌then◌else◌}
use Rattle.ts_packet.specs.Cells.{CellValue, Live, Dropped}
use Rattle.cell_rows.specs.declared.mark.Mark.{Mark}
use Rattle.cell_rows.specs.Cells.{cell_of, cells_of}

pub cells_long : (ps : List (List ℕ)) (ms : List Mark) → length ms ≡ length ps → length (cells_of ps ms) ≡ length ps
cells_long [] ms l = refl
cells_long (p ∷ ps) [] l = absurd (omega (arith, l))
cells_long (p ∷ ps) (m ∷ ms) l = ap suc (cells_long ps ms (omega (arith, l)))

pub cells_take : (n : ℕ) (ps : List (List ℕ)) (ms : List Mark) → take n (cells_of ps ms) ≡ cells_of (take n ps) (take n ms)
cells_take zero ps ms = refl
cells_take (suc n) [] ms = refl
cells_take (suc n) (p ∷ ps) [] = refl
cells_take (suc n) (p ∷ ps) (m ∷ ms) = ap (λ (cs : List CellValue). cell_of p m ∷ cs) (cells_take n ps ms)

pub cells_drop : (n : ℕ) (ps : List (List ℕ)) (ms : List Mark) → length ms ≡ length ps → drop n (cells_of ps ms) ≡ cells_of (drop n ps) (drop n ms)
cells_drop zero ps ms l = refl
cells_drop (suc n) [] ms l = refl
cells_drop (suc n) (p ∷ ps) [] l = absurd (omega (arith, l))
cells_drop (suc n) (p ∷ ps) (m ∷ ms) l = cells_drop n ps ms (omega (arith, l))

pub cells_append : (ps qs : List (List ℕ)) (ms ns : List Mark) → length ms ≡ length ps → cells_of (ps ++ qs) (ms ++ ns) ≡ cells_of ps ms ++ cells_of qs ns
cells_append [] qs [] ns l = refl
cells_append [] qs (m ∷ ms) ns l = absurd (omega (arith, l))
cells_append (p ∷ ps) qs [] ns l = absurd (omega (arith, l))
cells_append (p ∷ ps) qs (m ∷ ms) ns l = ap (λ (cs : List CellValue). cell_of p m ∷ cs) (cells_append ps qs ms ns (omega (arith, l)))

pub dropped_is : (p : List ℕ) (m : Mark) → m.is_live ≡ false → cell_of p m ≡ Dropped
dropped_is p m e = ap (λ (b : Bool). if b then Live p m.labels else Dropped) e

pub cells_none : (n : ℕ) (p : List ℕ) (m : Mark) → m.is_live ≡ false → cells_of (replicate n p) (replicate n m) ≡ replicate n Dropped
cells_none zero p m e = refl
cells_none (suc n) p m e = ap (λ (c : CellValue). c ∷ cells_of (replicate n p) (replicate n m)) (dropped_is p m e) ∙ ap (λ (cs : List CellValue). Dropped ∷ cs) (cells_none n p m e)

-- the cell in a slot is that of the packet and the mark there
pub cells_at : (ps : List (List ℕ)) (ms : List Mark) (i : ℕ) (p : List ℕ) (m : Mark) → length ms ≡ length ps → i < length ps → get_or (cells_of ps ms) i Dropped ≡ cell_of (get_or ps i p) (get_or ms i m)
cells_at [] ms i p m l lt = absurd (omega (arith, lt))
cells_at (q ∷ ps) [] i p m l lt = absurd (omega (arith, l))
cells_at (q ∷ ps) (n ∷ ms) zero p m l lt = refl
cells_at (q ∷ ps) (n ∷ ms) (suc i) p m l lt = cells_at ps ms i p m (omega (arith, l)) (omega (arith, lt))

-- where a packet and a mark are written to a slot, their cell is in that slot
pub cells_set : (ps : List (List ℕ)) (ms : List Mark) (i : ℕ) (p : List ℕ) (m : Mark) → length ms ≡ length ps → cells_of (set ps i p) (set ms i m) ≡ set (cells_of ps ms) i (cell_of p m)
cells_set [] ms i p m l = refl
cells_set (q ∷ ps) [] i p m l = absurd (omega (arith, l))
cells_set (q ∷ ps) (n ∷ ms) zero p m l = refl
cells_set (q ∷ ps) (n ∷ ms) (suc i) p m l = ap (λ (cs : List CellValue). cell_of q n ∷ cs) (cells_set ps ms i p m (omega (arith, l)))

-- and is read there
pub cells_new : (ps : List (List ℕ)) (ms : List Mark) (i : ℕ) (p : List ℕ) (m : Mark) → length ms ≡ length ps → i < length ps → get_or (cells_of (set ps i p) (set ms i m)) i Dropped ≡ cell_of p m
cells_new ps ms i p m l lt =
    let n = cells_long ps ms l in
    ap (λ (cs : List CellValue). get_or cs i Dropped) (cells_set ps ms i p m l) ∙ get_or-set_same (cells_of ps ms) i (cell_of p m) Dropped (omega (arith, n, lt))

-- the cell in a slot whose mark was read
pub cells_read : (ps : List (List ℕ)) (ms : List Mark) (i : ℕ) (p : List ℕ) (m : Mark) → length ms ≡ length ps → i < length ps → m ≡ get_or ms i m → get_or (cells_of ps ms) i Dropped ≡ cell_of (get_or ps i p) m
cells_read ps ms i p m l lt is = cells_at ps ms i p m l lt ∙ ap (cell_of (get_or ps i p)) (sym is)

pub live_is : (p : List ℕ) (m : Mark) → m.is_live ≡ true → cell_of p m ≡ Live p m.labels
live_is p m e = ap (λ (b : Bool). if b then Live p m.labels else Dropped) e
