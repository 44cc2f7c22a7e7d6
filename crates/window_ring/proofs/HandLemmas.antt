-- Rows of cells in a block, which wrap around at most once.
use Rattle.std.proofs.Common.{⊎_elim, ◌≡◌, ◌≢◌, ℕ, zero, suc, ◌+◌, ◌*◌, ◌/◌, ◌%◌, ◌<◌, ◌≤◌, List, [], ◌∷◌, ◌++◌, length, take, drop, Option, None, Some, refl, sym, ap, ◌∙◌, subst, arith, length-append, length-drop, append-nil}
use Rattle.std.proofs.lemmas.Nat.{mod-mul-add}
use Rattle.std.proofs.Math.Nat.{add-mul, div-add-mod', eq-or-lt_of_le}
use Rattle.cell_land.specs.declared.cell_window.Bases.{Bases}
use Rattle.ts_packet.specs.declared.cell.Cell.{Cell}
use Rattle.cell_land.specs.Cells.{CellPiece}
use Rattle.window_ring.specs.Hands.{Row, row_of, land_at, pieces, Begins, IsHand}

-- further on in the same lap
pub same_lap : (at n c : ℕ) → at % c + n < c → (at + n) % c ≡ at % c + n
same_lap at n c lt =
    let whole = div-add-mod' at c in
    let e : at + n ≡ at / c * c + (at % c + n) = let q : ℕ = at / c * c in let r : ℕ = at % c in let w : q + r ≡ at = whole in omega (arith, w) in
    ap (λ k. k % c) e ∙ mod-mul-add (at / c) c (at % c + n) lt

-- in the next lap
pub next_lap : (at n m c : ℕ) → at % c + n ≡ c + m → m < c → (at + n) % c ≡ m
next_lap at n m c is lt =
    let whole = div-add-mod' at c in let more = add-mul (at / c) 1 c in
    let e : at + n ≡ (at / c + 1) * c + m = let q : ℕ = at / c * c in let r : ℕ = at % c in let w : q + r ≡ at = whole in let p : (at / c + 1) * c ≡ q + c = more ∙ (let one : 1 * c ≡ c = omega arith in ap (λ k. q + k) one) in let i : r + n ≡ c + m = is in omega (arith, w, p, i) in
    ap (λ k. k % c) e ∙ mod-mul-add (at / c + 1) c m lt

pub take_past : (xs ys : List Cell) (n m : ℕ) → n ≡ length xs + m → take n (xs ++ ys) ≡ xs ++ take m ys
take_past [] ys n m e = let same : n ≡ m = omega (arith, e) in ap (λ k. take k ys) same
take_past (x ∷ xs) ys zero m e = absurd (omega (arith, e))
take_past (x ∷ xs) ys (suc n) m e = ap (λ l. x ∷ l) (take_past xs ys n m (omega (arith, e)))

pub drop_past : (xs ys : List Cell) (n m : ℕ) → n ≡ length xs + m → drop n (xs ++ ys) ≡ drop m ys
drop_past [] ys n m e = let same : n ≡ m = omega (arith, e) in ap (λ k. drop k ys) same
drop_past (x ∷ xs) ys zero m e = absurd (omega (arith, e))
drop_past (x ∷ xs) ys (suc n) m e = drop_past xs ys n m (omega (arith, e))

module _ (at : ℕ) (base : Bases) (count : ℕ) where
  abbrev tail : CellPiece → ℕ → CellPiece
  tail w n = record { land = w.land; start = w.start + n; cells = drop n w.cells }

  pub cut_first : (n : ℕ) (w : CellPiece) (second : Option CellPiece) → IsHand at base count (Some w) second → n < length w.cells → IsHand (at + n) base count (Some (tail w n)) second
  cut_first n w None h lt = (h.0, begins n w h.1 lt)
    where
      begins : (n : ℕ) (w : CellPiece) → Begins base count (at % count) w → n < length w.cells → Begins base count ((at + n) % count) (tail w n)
      begins n w b lt = record {
        land = b.land;
        start = ap (λ k. k + n) b.start ∙ sym (same_lap at n count (omega (arith, b.start, b.inside, lt)));
        some = omega (arith, length-drop n w.cells, lt);
        inside = omega (arith, length-drop n w.cells, lt, b.inside);
      }
  cut_first n w (Some u) h lt = (
    h.0,
    record {
      land = h.1.land;
      start = ap (λ k. k + n) h.1.start ∙ sym (same_lap at n count (omega (arith, h.1.start, h.1.inside, lt)));
      some = omega (arith, length-drop n w.cells, lt);
      inside = omega (arith, length-drop n w.cells, lt, h.1.inside);
    },
    h.2,
    omega (arith, length-drop n w.cells, lt, h.3),
  )

  pub cut_whole : (n : ℕ) (w : CellPiece) (second : Option CellPiece) → IsHand at base count (Some w) second → n ≡ length w.cells → IsHand (at + n) base count second None
  cut_whole n w None h e = h.0
  cut_whole n w (Some u) h e = (h.0, record { land = h.2.land; start = h.2.start ∙ sym (next_lap at n 0 count (omega (arith, h.3, h.1.start, e)) h.0); some = h.2.some; inside = h.2.inside })

  pub cut_second : (n m : ℕ) (w u : CellPiece) → IsHand at base count (Some w) (Some u) → n ≡ length w.cells + m → m < length u.cells → IsHand (at + n) base count (Some (tail u m)) None
  cut_second n m w u h e lt = (
    h.0,
    record {
      land = h.2.land;
      start = ap (λ k. k + m) h.2.start ∙ (let z : 0 + m ≡ m = omega arith in z) ∙ sym (next_lap at n m count (omega (arith, h.3, h.1.start, e)) (omega (arith, h.2.start, h.2.inside, lt)));
      some = omega (arith, length-drop m u.cells, lt);
      inside = omega (arith, length-drop m u.cells, lt, h.2.inside);
    },
  )

  -- a hand with a piece has a cell
  pub some_cell : (w : CellPiece) (second : Option CellPiece) → IsHand at base count (Some w) second → 0 < length (pieces (Some w) second)
  some_cell w None h = omega (arith, h.1.some, length-append w.cells [])
  some_cell w (Some u) h = omega (arith, h.1.some, length-append w.cells u.cells)

  module _ (w : CellPiece) where
    -- after two pieces comes one, just after the second
    pub behind_two : (u t : CellPiece) (more : Option CellPiece) (next : ℕ) → IsHand at base count (Some w) (Some u) → IsHand next base count (Some t) more → next ≡ at + (length w.cells + length u.cells)
        → (length w.cells + length u.cells) + length (pieces (Some t) more) ≤ count → (more ≡ None) × (t.start ≡ u.start + length u.cells)
    behind_two u t None next h k e fits = (refl, k.1.start ∙ ap (λ n. n % count) e ∙ next_lap at (length w.cells + length u.cells) (length u.cells) count (omega (arith, h.3, h.1.start)) (omega (arith, fits, h.1.some)) ∙ (let s = h.2.start in omega (arith, s)))
    behind_two u t (Some m) next h k e fits =
        let st : t.start ≡ length u.cells = k.1.start ∙ ap (λ n. n % count) e ∙ next_lap at (length w.cells + length u.cells) (length u.cells) count (omega (arith, h.3, h.1.start)) (omega (arith, fits, h.1.some, h.2.some)) in
        absurd (omega (arith, fits, st, k.3, k.2.some, h.1.some, length-append t.cells m.cells))

    -- after one piece comes the block's beginning, or what lies just after it
    pub behind_one : (t : CellPiece) (more : Option CellPiece) (next : ℕ) → IsHand at base count (Some w) None → IsHand next base count (Some t) more → next ≡ at + length w.cells
        → (t.start ≡ 0 → (w.start + length w.cells ≡ count)) × (t.start ≢ 0 → t.start ≡ w.start + length w.cells)
    behind_one t more next h k e = ⊎_elim (λ full. ((λ z. full), λ n. absurd (n (first t more k ∙ next_lap at (length w.cells) 0 count (omega (arith, full, h.1.start)) h.0))))
        (λ less. let st = first t more k ∙ same_lap at (length w.cells) count (omega (arith, less, h.1.start)) in ((λ z. absurd (let some = h.1.some in omega (arith, st, z, some))), λ n. let b = h.1.start in omega (arith, st, b)))
        (eq-or-lt_of_le h.1.inside)
      where
        first : (t : CellPiece) (more : Option CellPiece) → IsHand next base count (Some t) more → t.start ≡ (at + length w.cells) % count
        first t None k = k.1.start ∙ ap (λ n. n % count) e
        first t (Some m) k = k.1.start ∙ ap (λ n. n % count) e

    abbrev joined : CellPiece → CellPiece
    joined t = record { land = w.land; start = w.start; cells = w.cells ++ t.cells }

    -- one piece and one that begins the block
    pub with_first : (t : CellPiece) (next : ℕ) → IsHand at base count (Some w) None → IsHand next base count (Some t) None → t.start ≡ 0 → w.start + length w.cells ≡ count → IsHand at base count (Some w) (Some t)
    with_first t next h k z full = (h.0, h.1, record { land = k.1.land; start = z; some = k.1.some; inside = k.1.inside }, full)

    -- one piece and one just after it
    pub with_next : (t : CellPiece) (more : Option CellPiece) (next : ℕ) → IsHand at base count (Some w) None → IsHand next base count (Some t) more → t.start ≡ w.start + length w.cells → IsHand at base count (Some (joined t)) more
    with_next t None next h k e = (h.0, record { land = h.1.land; start = h.1.start; some = omega (arith, h.1.some, length-append w.cells t.cells); inside = omega (arith, e, k.1.inside, length-append w.cells t.cells) })
    with_next t (Some m) next h k e = (h.0, record { land = h.1.land; start = h.1.start; some = omega (arith, h.1.some, length-append w.cells t.cells); inside = omega (arith, e, k.1.inside, length-append w.cells t.cells) }, k.2, omega (arith, e, k.3, length-append w.cells t.cells))

    -- two pieces, and one just after the second
    pub with_last : (u t : CellPiece) (next : ℕ) → IsHand at base count (Some w) (Some u) → IsHand next base count (Some t) None → t.start ≡ u.start + length u.cells
        → IsHand at base count (Some w) (Some (record { land = u.land; start = u.start; cells = u.cells ++ t.cells }))
    with_last u t next h k e = (h.0, h.1, record { land = h.2.land; start = h.2.start; some = omega (arith, h.2.some, length-append u.cells t.cells); inside = omega (arith, e, k.1.inside, length-append u.cells t.cells) }, h.3)

-- two hands of one block, of which the second goes on where the first ends, in words of the first
pub record Fits (at next count : ℕ) (base : Bases) (first second theirs more : Option CellPiece) : Type 0 where
  pub mine : IsHand at base count first second
  pub hand : IsHand next base count theirs more
  pub follows : next ≡ at + length (pieces first second)
  pub room : length (pieces first second) + length (pieces theirs more) ≤ count

pub fitting : (one another : Row) (at next count count' : ℕ) (base base' : Bases) (first second theirs more : Option CellPiece)
    → row_of at (land_at base count) (pieces first second) ≡ one → row_of next (land_at base' count') (pieces theirs more) ≡ another
    → another.at ≡ one.at + length one.cells → another.land ≡ one.land → length one.cells + length another.cells ≤ one.land.count
    → IsHand at base count first second → IsHand next base' count' theirs more → Fits at next count base first second theirs more
fitting one another at next count count' base base' first second theirs more a b behind same fits mine h =
    let same_base : base' ≡ base = ap (λ r. r.land.base) b ∙ ap (λ l. l.base) same ∙ ap (λ r. r.land.base) (sym a) in
    let same_count : count' ≡ count = ap (λ r. r.land.count) b ∙ ap (λ l. l.count) same ∙ ap (λ r. r.land.count) (sym a) in
    let one_long : length (pieces first second) ≡ length one.cells = ap (λ r. length r.cells) a in
    let another_long : length (pieces theirs more) ≡ length another.cells = ap (λ r. length r.cells) b in
    let n : next ≡ another.at = ap (λ r. r.at) b in let m : at ≡ one.at = ap (λ r. r.at) a in
    let c : count ≡ one.land.count = ap (λ r. r.land.count) a in
    record {
      mine = mine;
      hand = subst (λ k. IsHand next base k theirs more) same_count (subst (λ k. IsHand next k count' theirs more) same_base h);
      follows = omega (arith, n, m, behind, one_long);
      room = omega (arith, c, fits, one_long, another_long);
    }

-- the same where it is known which windows there are
pub known : (at next count : ℕ) (base : Bases) (first second theirs more first' second' theirs' : Option CellPiece) → first ≡ first' → second ≡ second' → theirs ≡ theirs'
    → Fits at next count base first second theirs more → Fits at next count base first' second' theirs' more
known at next count base first second theirs more first' second' theirs' a b c fits =
    subst (λ z. Fits at next count base first' second' z more) c (subst (λ z. Fits at next count base first' z theirs more) b (subst (λ z. Fits at next count base z second theirs more) a fits))

-- where the other hand begins with the block's beginning, it has one window
pub one_more : (at next count : ℕ) (base : Bases) (w t : CellPiece) (more : Option CellPiece) → Fits at next count base (Some w) None (Some t) more → t.start ≡ 0 → more ≡ None
one_more at next count base w t None f z = refl
one_more at next count base w t (Some m) f z =
    let k = f.hand in let a = f.room in let b = f.mine.1.some in
    absurd (omega (arith, z, k.3, k.2.some, a, b, length-append w.cells [], length-append t.cells m.cells))

module _ (at next count : ℕ) (base : Bases) (w t : CellPiece) (more : Option CellPiece) where
  -- what comes after two windows
  pub after_two : (u : CellPiece) → Fits at next count base (Some w) (Some u) (Some t) more → (more ≡ None) × (t.start ≡ u.start + length u.cells)
  after_two u f = behind_two at base count w u t more next f.mine f.hand (f.follows ∙ ap (λ n. at + n) (length-append w.cells u.cells))
      (let l = length-append w.cells u.cells in let m = f.room in omega (arith, l, m))

  -- what comes after one
  pub after_one : Fits at next count base (Some w) None (Some t) more → (t.start ≡ 0 → w.start + length w.cells ≡ count) × (t.start ≢ 0 → t.start ≡ w.start + length w.cells)
  after_one f = behind_one at base count w t more next f.mine f.hand (f.follows ∙ ap (λ n. at + n) (ap length (append-nil w.cells)))

  -- which is the block's beginning, and is all
  pub both_first : Fits at next count base (Some w) None (Some t) more → t.start ≡ 0 → IsHand at base count (Some w) (Some t)
  both_first f z = with_first at base count w t next f.mine (subst (λ m. IsHand next base count (Some t) m) (one_more at next count base w t more f z) f.hand) z ((after_one f).0 z)

  -- or what lies just after it
  pub both_next : Fits at next count base (Some w) None (Some t) more → t.start ≢ 0 → IsHand at base count (Some (joined at base count w t)) more
  both_next f n = with_next at base count w t more next f.mine f.hand ((after_one f).1 n)

-- the cells of two hands, in the windows that there are
pub cells_last : (xs ys zs : List Cell) → xs ++ (ys ++ zs) ≡ (xs ++ ys) ++ (zs ++ [])
cells_last [] ys zs = ap (λ l. ys ++ l) (sym (append-nil zs))
cells_last (x ∷ xs) ys zs = ap (λ l. x ∷ l) (cells_last xs ys zs)

pub cells_first : (xs zs : List Cell) → xs ++ zs ≡ (xs ++ []) ++ (zs ++ [])
cells_first xs zs = λ i. sym (append-nil xs) i ++ sym (append-nil zs) i

-- a hand without cells has no windows
pub no_windows : (at : ℕ) (base : Bases) (count : ℕ) (first second : Option CellPiece) → IsHand at base count first second → pieces first second ≡ [] → (first ≡ None) × (second ≡ None)
no_windows at base count None None h e = (refl, refl)
no_windows at base count None (Some u) h e = absurd h
no_windows at base count (Some w) second h e = absurd (let n = ap length e in let s = some_cell at base count w second h in omega (arith, n, s))

-- without a first window there is no second one
pub no_second : (at : ℕ) (base : Bases) (count : ℕ) (second : Option CellPiece) → IsHand at base count None second → second ≡ None
no_second at base count None h = refl
no_second at base count (Some u) h = absurd h
