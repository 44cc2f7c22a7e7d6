-- Lemmas on the notes of a list of cells, cut at a position, and on their lines.
use Rattle.std.proofs.Common.{◌≡◌, ℕ, suc, ◌-◌, ◌<◌, ◌≤◌, List, [], ◌∷◌, ◌++◌, length, take, map, ap, sym, subst, ◌∙◌, ◌⊎◌, inl, inr, refl, Bool, true, false, nat_lt, not, ◌&&◌, if◌then◌else◌, append_assoc, append-nil, arith, length-append}
use Rattle.std.specs.List.{take_while, list_all}
use Rattle.std.proofs.lemmas.Bool.{not-true, false≢true}
use Rattle.std.proofs.lemmas.Bool.Decides.{nat_tests}
use Rattle.std.proofs.Math.Seq.{take-nil}
use Rattle.std.proofs.lemmas.List.{map-append}
use Rattle.std.proofs.lemmas.Bool.{cases_lt}
use Rattle.std.proofs.lemmas.List.Sums.{take_while-cons}
use Rattle.ts_packet.specs.declared.cell.Cell.{Cell}
use Rattle.ts_packet.specs.Cells.{Live, Dropped}
use Rattle.chain_model.specs.PluginRule.{PluginRule}
use Rattle.plugin_trait.specs.declared.line.Line.{Line}
use Rattle.plugin_trait.specs.PlacedLines.{placed_at, placed_after}
use Rattle.plugin_notes.specs.Notes.{notes_after}

-- at most one note, which has its position
pub record IsNoteAt {N : Type 0} (at : N → ℕ) (position : ℕ) (notes : List N) : Type 0 where
  pub one : (notes ≡ []) ⊎ ((note : N) × (notes ≡ note ∷ []) × (at note ≡ position))

-- the first note, if there is one, does not pass
abbrev pub fails_first : {N : Type 0} → (N → Bool) → List N → Bool
fails_first passes [] = true
fails_first passes (note ∷ notes) = not (passes note)

-- a number that is not below another one fails the test
pub not_below : (m n : ℕ) → n ≤ m → nat_lt m n ≡ false
not_below m n h = grind (arith, nat_tests)

-- and one below it passes
pub is_below : (m n : ℕ) → m < n → nat_lt m n ≡ true
is_below m n h = grind (arith, nat_tests)

-- both of two tests
both_pass : (a b : Bool) → (a && b) ≡ true → (a ≡ true) × (b ≡ true)
both_pass true b h = (refl, h)
both_pass false b h = absurd (false≢true h)

-- if a list begins with passing notes and continues with a failing one, `take_while` gives the passing ones
pub take_while-split : {N : Type 0} (passes : N → Bool) (front rest : List N) → list_all passes front ≡ true → fails_first passes rest ≡ true
    → take_while passes (front ++ rest) ≡ front
take_while-split {N} passes [] [] pass fails = refl
take_while-split {N} passes [] (n ∷ ns) pass fails = take_while-cons passes n ns ∙ ap (λ (b : Bool). if b then n ∷ take_while passes ns else []) (not-true (passes n) fails)
take_while-split {N} passes (n ∷ front) rest pass fails =
    take_while-cons passes n (front ++ rest)
    ∙ (ap (λ (b : Bool). if b then n ∷ take_while passes (front ++ rest) else []) (both_pass (passes n) (list_all passes front) pass).0
    ∙ ap (λ (ns : List N). n ∷ ns) (take_while-split passes front rest (both_pass (passes n) (list_all passes front) pass).1 fails))

-- texts of notes at their position are the lines of the notes
pub placed_at-notes : {N : Type 0} (at : N → ℕ) (text : N → List ℕ) (position : ℕ) (notes : List N) → IsNoteAt at position notes
    → placed_at position (map text notes) ≡ map (λ (n : N). let line : Line = record { at = at n; text = text n } in line) notes
placed_at-notes {N} at text position notes one =
    let Same : List N → Type 0 = λ ns. placed_at position (map text ns) ≡ map (λ (n : N). let line : Line = record { at = at n; text = text n } in line) ns in
    elim one.one [
      | inl e ↦ subst Same (sym e) refl
      | inr e ↦ subst Same (sym e.1) (ap (λ (p : ℕ). let lines : List Line = record { at = p; text = text e.0 } ∷ [] in lines) (sym e.2))
    ]

module _ {N : Type 0} (note : List Cell → List ℕ → List N) (at : N → ℕ)
    (one : (history : List Cell) (packet : List ℕ) → IsNoteAt at (length history) (note history packet)) where
  -- the notes on two lists, one after the other
  pub notes_after-append : (history xs ys : List Cell) → notes_after note history (xs ++ ys) ≡ notes_after note history xs ++ notes_after note (history ++ xs) ys
  notes_after-append history [] ys = ap (λ (h : List Cell). notes_after note h ys) (sym (append-nil history))
  notes_after-append history (Live packet labels ∷ xs) ys =
      ap (λ (ns : List N). note history packet ++ ns) (notes_after-append (history ++ Live packet labels ∷ []) xs ys)
      ∙ (sym (append_assoc (note history packet) (notes_after note (history ++ Live packet labels ∷ []) xs) (notes_after note ((history ++ Live packet labels ∷ []) ++ xs) ys))
      ∙ ap (λ (h : List Cell). (note history packet ++ notes_after note (history ++ Live packet labels ∷ []) xs) ++ notes_after note h ys) (append_assoc history (Live packet labels ∷ []) xs))
  notes_after-append history (Dropped ∷ xs) ys =
      notes_after-append (history ++ Dropped ∷ []) xs ys
      ∙ ap (λ (h : List Cell). notes_after note (history ++ Dropped ∷ []) xs ++ notes_after note h ys) (append_assoc history (Dropped ∷ []) xs)

  -- there are no more notes than cells
  pub length-notes_after : (history cells : List Cell) → length (notes_after note history cells) ≤ length cells
  length-notes_after history [] = omega arith
  length-notes_after history (Live packet labels ∷ cells) =
      let rest : length (notes_after note (history ++ Live packet labels ∷ []) cells) ≤ length cells = length-notes_after (history ++ Live packet labels ∷ []) cells in
      let few : length (note history packet) ≤ 1 = elim (one history packet).one [ inl e ↦ omega (arith, ap length e) | inr e ↦ omega (arith, ap length e.1) ] in
      omega (arith, length-append (note history packet) (notes_after note (history ++ Live packet labels ∷ []) cells))
  length-notes_after history (Dropped ∷ cells) =
      let rest : length (notes_after note (history ++ Dropped ∷ []) cells) ≤ length cells = length-notes_after (history ++ Dropped ∷ []) cells in omega arith

  -- after a history that is long enough no first note passes
  pub fails_first-late : (cut : ℕ) (history cells : List Cell) → cut ≤ length history → fails_first (λ n. nat_lt (at n) cut) (notes_after note history cells) ≡ true
  fails_first-late cut history [] late = refl
  fails_first-late cut history (Live packet labels ∷ cells) late =
      let next : cut ≤ length (history ++ Live packet labels ∷ []) = omega (arith, length-append history (Live packet labels ∷ [])) in
      let rest = fails_first-late cut (history ++ Live packet labels ∷ []) cells next in
      elim (one history packet).one [
        | inl e ↦ subst (λ (ns : List N). fails_first (λ n. nat_lt (at n) cut) (ns ++ notes_after note (history ++ Live packet labels ∷ []) cells) ≡ true) (sym e) rest
        | inr e ↦ subst (λ (ns : List N). fails_first (λ n. nat_lt (at n) cut) (ns ++ notes_after note (history ++ Live packet labels ∷ []) cells) ≡ true) (sym e.1)
            (ap not (not_below (at e.0) cut (omega (arith, e.2))))
      ]
  fails_first-late cut history (Dropped ∷ cells) late =
      fails_first-late cut (history ++ Dropped ∷ []) cells (omega (arith, length-append history (Dropped ∷ [])))

  -- at most one note, which passes, comes before those that pass after it
  one_in_front : (cut : ℕ) (history : List Cell) (packet : List ℕ) (rest : List N) → length history < cut
      → take_while (λ n. nat_lt (at n) cut) (note history packet ++ rest) ≡ note history packet ++ take_while (λ n. nat_lt (at n) cut) rest
  one_in_front cut history packet rest below =
      elim (one history packet).one [
        | inl e ↦ subst (λ (ns : List N). take_while (λ n. nat_lt (at n) cut) (ns ++ rest) ≡ ns ++ take_while (λ n. nat_lt (at n) cut) rest) (sym e) refl
        | inr e ↦ subst (λ (ns : List N). take_while (λ n. nat_lt (at n) cut) (ns ++ rest) ≡ ns ++ take_while (λ n. nat_lt (at n) cut) rest) (sym e.1)
            (take_while-cons (λ n. nat_lt (at n) cut) e.0 rest
            ∙ ap (λ (b : Bool). if b then e.0 ∷ take_while (λ n. nat_lt (at n) cut) rest else []) (is_below (at e.0) cut (omega (arith, e.2))))
      ]

  -- after a history that is long enough no cell counts
  late_take : (cut : ℕ) (history cells : List Cell) → cut ≤ length history
      → take_while (λ n. nat_lt (at n) cut) (notes_after note history cells) ≡ notes_after note history (take (cut - length history) cells)
  late_take cut history cells late =
      take_while-split (λ n. nat_lt (at n) cut) [] (notes_after note history cells) refl (fails_first-late cut history cells late)
      ∙ ap (λ (k : ℕ). notes_after note history (take k cells)) (let none : 0 ≡ cut - length history = omega arith in none)

  -- the notes below a position are those on the cells before it
  pub take_while-notes_after : (cut : ℕ) (history cells : List Cell)
      → take_while (λ n. nat_lt (at n) cut) (notes_after note history cells) ≡ notes_after note history (take (cut - length history) cells)
  take_while-notes_after cut history [] = ap (notes_after note history) (sym (take-nil (cut - length history)))
  take_while-notes_after cut history (Live packet labels ∷ cells) =
      elim (cases_lt (length history) cut) [
        | inl below ↦
            let next = history ++ Live packet labels ∷ [] in
            let more : cut - length history ≡ suc (cut - length next) = omega (arith, length-append history (Live packet labels ∷ [])) in
            one_in_front cut history packet (notes_after note next cells) below
            ∙ (ap (λ (ns : List N). note history packet ++ ns) (take_while-notes_after cut next cells)
            ∙ ap (λ (k : ℕ). notes_after note history (take k (Live packet labels ∷ cells))) (sym more))
        | inr late ↦ late_take cut history (Live packet labels ∷ cells) late
      ]
  take_while-notes_after cut history (Dropped ∷ cells) =
      elim (cases_lt (length history) cut) [
        | inl below ↦
            let next = history ++ Dropped ∷ [] in
            let more : cut - length history ≡ suc (cut - length next) = omega (arith, length-append history (Dropped ∷ [])) in
            take_while-notes_after cut next cells
            ∙ ap (λ (k : ℕ). notes_after note history (take k (Dropped ∷ cells))) (sym more)
        | inr late ↦ late_take cut history (Dropped ∷ cells) late
      ]

  -- the lines of a rule whose lines are those of the notes
  pub placed_after-notes : (rule : PluginRule) (line : N → Line)
      → ((history : List Cell) (packet : List ℕ) (labels : ℕ) → placed_at (length history) (rule.lines_of history packet labels) ≡ map line (note history packet))
      → (history cells : List Cell) → placed_after rule history cells ≡ map line (notes_after note history cells)
  placed_after-notes rule line lines history [] = refl
  placed_after-notes rule line lines history (Live packet labels ∷ cells) =
      ap (λ (ls : List Line). ls ++ placed_after rule (history ++ Live packet labels ∷ []) cells) (lines history packet labels)
      ∙ (ap (λ (ls : List Line). map line (note history packet) ++ ls) (placed_after-notes rule line lines (history ++ Live packet labels ∷ []) cells)
      ∙ sym (map-append line (note history packet) (notes_after note (history ++ Live packet labels ∷ []) cells)))
  placed_after-notes rule line lines history (Dropped ∷ cells) = placed_after-notes rule line lines (history ++ Dropped ∷ []) cells

-- one more line is made of the notes below a position, that of the first note
pub lines_more : {N : Type 0} (at : N → ℕ) (line : N → Line) (mark : ℕ) (lines lines_new all : List Line) (left rest : List N) (note : N) (made : Line)
    → left ≡ note ∷ rest → at note < mark → made ≡ line note → lines_new ≡ lines ++ made ∷ []
    → lines ++ map line (take_while (λ n. nat_lt (at n) mark) left) ≡ all
    → lines_new ++ map line (take_while (λ n. nat_lt (at n) mark) rest) ≡ all
lines_more {N} at line mark lines lines_new all left rest note made is below made_is pushed so_far =
    let more = take_while (λ (n : N). nat_lt (at n) mark) rest in
    let front : take_while (λ (n : N). nat_lt (at n) mark) left ≡ note ∷ more =
    ap (take_while (λ (n : N). nat_lt (at n) mark)) is
    ∙ (take_while-cons (λ (n : N). nat_lt (at n) mark) note rest
    ∙ ap (λ (b : Bool). if b then note ∷ more else []) (is_below (at note) mark below)) in
    ap (λ (ls : List Line). ls ++ map line more) (pushed ∙ ap (λ (l : Line). lines ++ l ∷ []) made_is)
    ∙ (append_assoc lines (line note ∷ []) (map line more)
    ∙ (ap (λ (ns : List N). lines ++ map line ns) (sym front) ∙ so_far))
