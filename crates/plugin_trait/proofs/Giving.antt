-- Lines from mark to mark.
use Rattle.std.proofs.Common.{◌≡◌, ℕ, zero, suc, ◌≤◌, List, [], ◌∷◌, ◌++◌, length, take, drop, refl, ap, sym, ◌∙◌, arith, append_assoc, append-nil}
use Rattle.ts_packet.specs.declared.cell.Cell.{Cell}
use Rattle.ts_packet.specs.Cells.{Live, Dropped}
use Rattle.chain_model.specs.PluginRule.{PluginRule}
use Rattle.plugin_trait.specs.PlacedLines.{placed_at, placed_after, placed_between}
use Rattle.plugin_trait.specs.declared.line.Line.{Line}

pub placed_after-append : (rule : PluginRule) (history xs ys : List Cell) → placed_after rule history (xs ++ ys) ≡ placed_after rule history xs ++ placed_after rule (history ++ xs) ys
placed_after-append rule history [] ys = ap (λ (h : List Cell). placed_after rule h ys) (sym (append-nil history))
placed_after-append rule history (Live packet labels ∷ xs) ys =
    let own : List Line = placed_at (length history) (rule.lines_of history packet labels) in
    ap (λ (rest : List Line). own ++ rest) (placed_after-append rule (history ++ Live packet labels ∷ []) xs ys)
    ∙ (sym (append_assoc own (placed_after rule (history ++ Live packet labels ∷ []) xs) (placed_after rule ((history ++ Live packet labels ∷ []) ++ xs) ys))
    ∙ ap (λ (h : List Cell). (own ++ placed_after rule (history ++ Live packet labels ∷ []) xs) ++ placed_after rule h ys) (append_assoc history (Live packet labels ∷ []) xs))
placed_after-append rule history (Dropped ∷ xs) ys =
    placed_after-append rule (history ++ Dropped ∷ []) xs ys
    ∙ ap (λ (h : List Cell). placed_after rule (history ++ Dropped ∷ []) xs ++ placed_after rule h ys) (append_assoc history (Dropped ∷ []) xs)

-- the first cells, and those after them up to a later place
pub parted : (cells : List Cell) (from to : ℕ) → from ≤ to → take to cells ≡ take from cells ++ drop from (take to cells)
parted cells zero to le = refl
parted cells (suc from) zero le = absurd (omega arith)
parted [] (suc from) (suc to) le = refl
parted (x ∷ xs) (suc from) (suc to) le = ap (λ (rest : List Cell). x ∷ rest) (parted xs from to (omega arith))

-- what was given out before, and what is given out up to the next mark
pub given_out : (rule : PluginRule) (history : List Cell) (from to : ℕ) → from ≤ to → placed_after rule [] (take from history) ++ placed_between rule history from to ≡ placed_after rule [] (take to history)
given_out rule history from to le =
    sym (placed_after-append rule [] (take from history) (drop from (take to history)))
    ∙ ap (λ (cells : List Cell). placed_after rule [] cells) (sym (parted history from to le))

-- ---- from mark to mark to mark

drop-joined : (cells : List Cell) (from mid to : ℕ) → from ≤ mid → mid ≤ to → drop from (take mid cells) ++ drop mid (take to cells) ≡ drop from (take to cells)
drop-joined cells zero mid to low high = sym (parted cells mid to high)
drop-joined cells (suc from) zero to low high = absurd (omega arith)
drop-joined cells (suc from) (suc mid) zero low high = absurd (omega arith)
drop-joined [] (suc from) (suc mid) (suc to) low high = refl
drop-joined (x ∷ xs) (suc from) (suc mid) (suc to) low high = drop-joined xs from mid to (omega arith) (omega arith)

pub joined : (rule : PluginRule) (history : List Cell) (from mid to : ℕ) → from ≤ mid → mid ≤ to → placed_between rule history from mid ++ placed_between rule history mid to ≡ placed_between rule history from to
joined rule history from mid to low high =
    ap (λ (h : List Cell). placed_between rule history from mid ++ placed_after rule h (drop mid (take to history))) (parted history from mid low)
    ∙ (sym (placed_after-append rule (take from history) (drop from (take mid history)) (drop mid (take to history)))
    ∙ ap (λ (cells : List Cell). placed_after rule (take from history) cells) (drop-joined history from mid to low high))
