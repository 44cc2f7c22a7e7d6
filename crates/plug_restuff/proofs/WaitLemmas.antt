-- Lemmas on what waits after one more packet.
use Rattle.std.proofs.Common.{◌≡◌, ℕ, ◌+◌, ◌≤◌, nat_le, List, [], ◌∷◌, ◌++◌, length, drop, slice_get, Bool, false, not, ◌&&◌, refl, ap, sym, ◌∙◌, subst, inl, inr, arith, length-append, length-drop}
use Rattle.std.specs.Prelude.{option_to_list}
use Rattle.std.proofs.lemmas.Bool.{cases_Bool, cases_lt, cond-true, cond-false, le-leb, true≢false}
use Rattle.ts_packet.specs.declared.cell.Cell.{Cell}
use Rattle.ts_packet.specs.declared.labelled.Labelled.{Labelled}
use Rattle.ts_packet.specs.Cells.{Live, Dropped}
use Rattle.ts_packet.specs.LiveRows.{live_rows}
use Rattle.plug_restuff.specs.RestuffRule.{is_null, is_refused, left_after, waits_after, waits_from, with_came}
use Rattle.plug_restuff.specs.declared.restuff_conf.RestuffConf.{RestuffConf}
use Rattle.plug_restuff.specs.declared.waiting.Waiting.{Waiting}

-- what waits after one more packet, at its cell
pub waits-next : (conf : RestuffConf) (cell : ℕ) (waiting : List Waiting) (rows : List Labelled) (row : Labelled)
    → waits_from conf cell waiting (rows ++ row ∷ [])
    ≡ left_after conf (cell + length rows) (with_came (cell + length rows) row (waits_from conf cell waiting rows))
waits-next conf cell waiting [] row = ap (λ (n : ℕ). left_after conf n (with_came n row waiting)) (omega arith)
waits-next conf cell waiting (first ∷ rows) row =
    let next = left_after conf cell (with_came cell first waiting) in
    waits-next conf (cell + 1) next rows row
    ∙ ap (λ (n : ℕ). left_after conf n (with_came n row (waits_from conf (cell + 1) next rows))) (omega arith)

pub waits-more : (conf : RestuffConf) (rows : List Labelled) (row : Labelled)
    → waits_after conf (rows ++ row ∷ []) ≡ left_after conf (length rows) (with_came (length rows) row (waits_after conf rows))
waits-more conf rows row =
    waits-next conf 0 [] rows row
    ∙ ap (λ (n : ℕ). left_after conf n (with_came n row (waits_after conf rows))) (omega arith)

-- there are no more live cells than cells
pub rows-few : (cells : List Cell) → length (live_rows cells) ≤ length cells
rows-few [] = omega arith
rows-few (Live packet labels ∷ cells) = let h = rows-few cells in omega (arith, h)
rows-few (Dropped ∷ cells) = let h = rows-few cells in omega (arith, h)

-- a packet that is not refused has room to wait
pub has_room : (window cell : ℕ) (waiting : List Waiting) (row : Labelled) → is_refused window waiting row ≡ false
    → length waiting ≤ window → length (with_came cell row waiting) ≤ window
has_room window cell waiting row waits le =
    let next : Waiting = record { cell = cell; row = row } in
    let more : length (waiting ++ next ∷ []) ≡ length waiting + 1 = length-append waiting (next ∷ []) in
    elim (cases_Bool (is_null row)) [
      | inl yes_ ↦ subst (λ (w : List Waiting). length w ≤ window) (sym (cond-true (is_null row) waiting (waiting ++ next ∷ []) yes_)) le
      | inr no_ ↦ subst (λ (w : List Waiting). length w ≤ window) (sym (cond-false (is_null row) waiting (waiting ++ next ∷ []) no_))
          (elim (cases_lt (length waiting) window) [
            | inl lt ↦ omega (arith, more, lt)
            | inr full ↦ absurd (true≢false (sym (ap (λ (b : Bool). not b && nat_le window (length waiting)) no_ ∙ le-leb window (length waiting) full) ∙ waits))
          ])
    ]

pub drop-few : (window : ℕ) (waiting : List Waiting) → length waiting ≤ window → length (drop 1 waiting) ≤ window
drop-few window waiting le = let h = length-drop 1 waiting in omega (arith, h, le)

-- a list is its first item, if it has one, and the others
pub first-others : {X : Type 0} (xs : List X) → xs ≡ option_to_list (slice_get xs 0) ++ drop 1 xs
first-others [] = refl
first-others (x ∷ xs) = refl
