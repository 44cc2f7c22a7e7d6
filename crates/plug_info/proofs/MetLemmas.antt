-- Lemmas on the cells that were processed, cell by cell and mark by mark.
use Rattle.std.proofs.Common.{◌≡◌, ℕ, zero, suc, ◌+◌, ◌<◌, List, [], ◌∷◌, ◌++◌, length, take, drop, ap, sym, subst, ◌∙◌, refl, arith, drop-drop, get_or}
use Rattle.std.proofs.lemmas.List.{length-take-le, take_more}
use Rattle.ts_packet.specs.declared.cell.Cell.{Cell}
use Rattle.plug_info.specs.MetState.{HasMet}
use Rattle.plug_info_state.specs.Tracked.{Tracks, TracksSome}
use Rattle.plug_info.specs.declared.met_cells.MetCells.{MetCells}

-- no cell yet
pub met_none : (met : MetCells) → met.waiting.items ≡ [] → met.mark ≡ 0 → Tracks met.tracker [] → HasMet met [] 0
met_none met none at_zero tracks = record { tracks = tracks; waits = none; marked = at_zero; within = omega arith; short = omega arith }

-- the first of the rest
first_of : (n : ℕ) (cells : List Cell) (cell : Cell) (rest : List Cell) → drop n cells ≡ cell ∷ rest → (get_or cells n cell ≡ cell) × (n < length cells)
first_of n [] cell rest is = absurd (none n is)
  where
    none : (k : ℕ) → drop k (let e : List Cell = [] in e) ≡ cell ∷ rest → ⊥
    none zero e = cc
    none (suc k) e = cc
first_of zero (c ∷ cells) cell rest is = (cc, omega arith)
first_of (suc n) (c ∷ cells) cell rest is = let below = first_of n cells cell rest is in (below.0, omega (arith, below.1))

module _ (met : MetCells) (history : List Cell) (mark : ℕ) (w : HasMet met history mark) (cell : Cell) (rest : List Cell) (front : met.waiting.items ≡ cell ∷ rest) where
  its : (get_or history mark cell ≡ cell) × (mark < length history)
  its = first_of mark history cell rest (sym w.waits ∙ front)

  -- the cells below a position with the next one
  upto : take mark history ++ cell ∷ [] ≡ take (mark + 1) history
  upto = ap (λ (c : Cell). take mark history ++ c ∷ []) (sym its.0) ∙ sym (take_more history mark cell its.1)

  -- it can be counted
  pub takes_some : TracksSome met.tracker met.mark
  takes_some = record {
    cells = take mark history;
    tracks = w.tracks;
    count = length-take-le mark history w.within ∙ sym w.marked;
    few = omega (arith, length-take-le mark history w.within, its.1, w.short);
  }

  -- it was counted
  pub met_taken : (met_new : MetCells) → met_new.waiting.items ≡ rest → met_new.mark ≡ met.mark + 1
      → ((cells : List Cell) → Tracks met.tracker cells → length cells ≡ met.mark → Tracks met_new.tracker (cells ++ cell ∷ [])) → HasMet met_new history (met.mark + 1)
  met_taken met_new left next tracks =
      subst (HasMet met_new history) (ap (λ (n : ℕ). n + 1) (sym w.marked))
      (record {
        tracks = subst (Tracks met_new.tracker) upto (tracks (take mark history) w.tracks (length-take-le mark history w.within ∙ sym w.marked));
        waits = left ∙ behind;
        marked = next ∙ ap (λ (n : ℕ). n + 1) w.marked;
        within = omega (arith, its.1);
        short = w.short;
      })
    where
      behind : rest ≡ drop (mark + 1) history
      behind = ap (drop 1) (sym front ∙ w.waits) ∙ (drop-drop 1 mark history ∙ ap (λ (n : ℕ). drop n history) (let same : mark + 1 ≡ mark + 1 = refl in same))
