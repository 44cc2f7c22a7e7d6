-- Lemmas on what is noted from a position on, with one cell more.
use Rattle.std.proofs.Common.{◌≡◌, ℕ, ◌≤◌, List, [], ◌∷◌, ◌++◌, length, take, drop, ap, sym, ◌∙◌, append_assoc, append-nil}
use Rattle.std.proofs.lemmas.List.{drop-append-le, take-append-drop, take-append-le}
use Rattle.std.proofs.Math.Seq.{drop-append_seam, take-append_seam}
use Rattle.ts_packet.specs.declared.cell.Cell.{Cell}
use Rattle.ts_packet.specs.Cells.{Live, Dropped}
use Rattle.plugin_notes.specs.Notes.{notes_after}
use Rattle.monitor_keys.specs.Keys.{noted_from}

module _ {N : Type 0} (note : List Cell → List ℕ → List N) where
  -- the notes of two lists of cells, one after the other
  notes-append : (history xs ys : List Cell) → notes_after note history (xs ++ ys) ≡ notes_after note history xs ++ notes_after note (history ++ xs) ys
  notes-append history [] ys = ap (λ (h : List Cell). notes_after note h ys) (sym (append-nil history))
  notes-append history (Live packet labels ∷ xs) ys =
      ap (λ (ns : List N). note history packet ++ ns) (notes-append (history ++ Live packet labels ∷ []) xs ys)
      ∙ (sym (append_assoc (note history packet) (notes_after note (history ++ Live packet labels ∷ []) xs) (notes_after note ((history ++ Live packet labels ∷ []) ++ xs) ys))
      ∙ ap (λ (h : List Cell). (note history packet ++ notes_after note (history ++ Live packet labels ∷ []) xs) ++ notes_after note h ys) (append_assoc history (Live packet labels ∷ []) xs))
  notes-append history (Dropped ∷ xs) ys =
      notes-append (history ++ Dropped ∷ []) xs ys
      ∙ ap (λ (h : List Cell). notes_after note (history ++ Dropped ∷ []) xs ++ notes_after note h ys) (append_assoc history (Dropped ∷ []) xs)

  -- the notes from a position on, with one cell more
  noted-more : (k : ℕ) (history : List Cell) (cell : Cell) → k ≤ length history
      → noted_from note k (history ++ cell ∷ []) ≡ noted_from note k history ++ notes_after note history (cell ∷ [])
  noted-more k history cell le =
      ap (λ (h : List Cell). notes_after note h (drop k (history ++ cell ∷ []))) (take-append-le k history (cell ∷ []) le)
      ∙ (ap (notes_after note (take k history)) (drop-append-le k history (cell ∷ []) le)
      ∙ (notes-append (take k history) (drop k history) (cell ∷ [])
      ∙ ap (λ (h : List Cell). noted_from note k history ++ notes_after note h (cell ∷ [])) (take-append-drop k history)))

  pub noted-live : (k : ℕ) (history : List Cell) (packet : List ℕ) (labels : ℕ) → k ≤ length history
      → noted_from note k (history ++ Live packet labels ∷ []) ≡ noted_from note k history ++ note history packet
  noted-live k history packet labels le =
      noted-more k history (Live packet labels) le ∙ ap (λ (ns : List N). noted_from note k history ++ ns) (append-nil (note history packet))

  pub noted-dropped : (k : ℕ) (history : List Cell) → k ≤ length history
      → noted_from note k (history ++ Dropped ∷ []) ≡ noted_from note k history
  noted-dropped k history le = noted-more k history Dropped le ∙ append-nil (noted_from note k history)

  -- from the packet itself on
  pub noted-here : (history : List Cell) (packet : List ℕ) (labels : ℕ)
      → noted_from note (length history) (history ++ Live packet labels ∷ []) ≡ note history packet
  noted-here history packet labels =
      ap (λ (h : List Cell). notes_after note h (drop (length history) (history ++ Live packet labels ∷ []))) (take-append_seam history (Live packet labels ∷ []))
      ∙ (ap (notes_after note history) (drop-append_seam history (Live packet labels ∷ [])) ∙ append-nil (note history packet))

  -- from behind all cells on
  pub noted-none : (k : ℕ) (cells : List Cell) → drop k cells ≡ [] → noted_from note k cells ≡ []
  noted-none k cells none = ap (notes_after note (take k cells)) none
