-- Rows of packets and marks, of which the last were changed.
use Rattle.std.proofs.Common.{◌≡◌, ℕ, ◌+◌, ◌≤◌, List, ◌++◌, length, take, ap, sym, ◌∙◌, arith, subst, length-take}
use Rattle.std.proofs.Math.Seq.{take-append-add}
use Rattle.std.proofs.lemmas.List.{take-append-le}
use Rattle.std.proofs.lemmas.Grind.{common_steps}
use borrow.Rule.Slice.PartMut.{put_mid, post_of}
use Rattle.ts_packet.specs.declared.cell.Cell.{Cell}
use Rattle.cell_rows.specs.declared.mark.Mark.{Mark}
use Rattle.cell_rows.specs.Cells.{cells_of}
use Rattle.cell_rows.proofs.CellLemmas.{cells_take, cells_append}

-- the first ones of a row of which all after the first `a` were written: those, and the first that were written
pub take-written : {T : Type 0} (a k n : ℕ) (xs part : List T) → a + k ≡ length xs → n ≤ length part
    → take (a + n) (put_mid a k xs part) ≡ take a xs ++ take n part
take-written a k n xs part all few =
    let long : length (take a xs) ≡ a = omega (arith, length-take a xs) in
    subst (λ (m : ℕ). take (m + n) (put_mid a k xs part) ≡ take a xs ++ take n part) long
    (take-append-add (take a xs) (part ++ post_of a k xs) n
    ∙ ap (λ (rest : List _). take a xs ++ rest) (take-append-le n part (post_of a k xs) few))

pub length-written : {T : Type 0} (a k : ℕ) (xs part : List T) → a + k ≡ length xs → length part ≡ k → length (put_mid a k xs part) ≡ length xs
length-written a k xs part all long = grind (arith, common_steps)

-- and their cells
pub cells-written : (a k j n : ℕ) (ps qs : List (List ℕ)) (ms ns : List Mark) → a + k ≡ length ps → a + j ≡ length ms → length ms ≡ length ps → n ≤ length qs → n ≤ length ns
    → take (a + n) (cells_of (put_mid a k ps qs) (put_mid a j ms ns)) ≡ take a (cells_of ps ms) ++ take n (cells_of qs ns)
cells-written a k j n ps qs ms ns all_ps all_ms long few_qs few_ns =
    cells_take (a + n) (put_mid a k ps qs) (put_mid a j ms ns)
    ∙ ap (λ (l : List (List ℕ)). cells_of l (take (a + n) (put_mid a j ms ns))) (take-written a k n ps qs all_ps few_qs)
    ∙ ap (cells_of (take a ps ++ take n qs)) (take-written a j n ms ns all_ms few_ns)
    ∙ cells_append (take a ps) (take n qs) (take a ms) (take n ns) (let x = length-take a ps in let y = length-take a ms in omega (arith, x, y, long))
    ∙ ap (λ (l : List Cell). l ++ cells_of (take n qs) (take n ns)) (sym (cells_take a ps ms))
    ∙ ap (λ (l : List Cell). take a (cells_of ps ms) ++ l) (sym (cells_take n qs ns))
