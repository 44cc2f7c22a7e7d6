-- A round prints what is new.
use Rattle.std.proofs.Common.{◌≡◌, ℕ, zero, suc, ◌+◌, ◌-◌, ◌<◌, ◌≤◌, List, [], ◌∷◌, ◌++◌, length, map, Bool, true, false, nat_lt, if◌then◌else◌, refl, ap, sym, ◌∙◌, arith, append_assoc, append-nil, lt-ltb, le-ltb}
use Rattle.std.proofs.lemmas.List.{map-append}
use Rattle.ts_packet.specs.declared.cell.Cell.{Cell}
use Rattle.chain_model.specs.Reports.{NamedRule}
use Rattle.plugin_trait.specs.declared.line.Line.{Line}
use Rattle.chain_live.specs.LiveReports.{LiveLine, lines_at, told_at, lines_from, lines_to}
use Rattle.chain_rounds.specs.Merged.{merged, row, AllAt, AreRows, all_merged, members_at}
use Rattle.chain_rounds.proofs.RowLemmas.{rows-in_order}
use Rattle.plugin_trait.specs.PlacedLines.{placed_between}
use Rattle.chain_rounds.specs.Told.{told}
use Rattle.plugin_trait.proofs.Giving.{joined}
use Rattle.chain_rounds.proofs.OnePosition.{none-between, at_one}
use Rattle.chain_rounds.proofs.OnePosition.{more, more-sum}
use Rattle.chain_rounds.specs.Round.{place, rows_merged}

-- members from a position on
abbrev later : ℕ → (ℕ → List LiveLine) → ℕ → List LiveLine
later from f p = if nat_lt p from then [] else f p

told-at : (p j : ℕ) (name : List ℕ) (texts : List (List ℕ)) → AllAt place p (told_at p j name texts)
told-at p j name [] = tt
told-at p j name (text ∷ texts) = (refl, told-at p j name texts)

later-at : (p : ℕ) (lines : List LiveLine) (b : Bool) → AllAt place p lines → AllAt place p (if b then [] else lines)
later-at p lines true all = tt
later-at p lines false all = all

row-none : (f : ℕ → List LiveLine) (from m : ℕ) → m ≤ from → row (later from f) m ≡ []
row-none f from zero le = refl
row-none f from (suc p) le =
    ap (λ (b : Bool). row (later from f) p ++ (if b then [] else f p)) (lt-ltb p from (omega arith))
    ∙ (append-nil (row (later from f) p) ∙ row-none f from p (omega arith))

row-next : (f : ℕ → List LiveLine) (from p : ℕ) → from ≤ p → row (later from f) (suc p) ≡ row (later from f) p ++ f p
row-next f from p le = ap (λ (b : Bool). row (later from f) p ++ (if b then [] else f p)) (le-ltb p from le)

row-same : (f g : ℕ → List LiveLine) → ((p : ℕ) → f p ≡ g p) → (m : ℕ) → row f m ≡ row g m
row-same f g each zero = refl
row-same f g each (suc p) =
    ap (λ (lines : List LiveLine). lines ++ f p) (row-same f g each p) ∙ ap (λ (lines : List LiveLine). row g p ++ lines) (each p)

module _ (met : ℕ → List Cell) (from : ℕ) where
  abbrev own : ℕ → NamedRule → ℕ → List LiveLine
  own k plugin p = told_at p k plugin.name (lines_at plugin.rule (met k) p)

  abbrev rows : ℕ → List NamedRule → List (ℕ → List LiveLine)
  rows k [] = []
  rows k (plugin ∷ rest) = later from (own k plugin) ∷ rows (suc k) rest

  are-rows : (k : ℕ) (plugins : List NamedRule) → AreRows place (rows k plugins)
  are-rows k [] = tt
  are-rows k (plugin ∷ rest) =
      ((λ p. later-at p (own k plugin p) (nat_lt p from) (told-at p k plugin.name (lines_at plugin.rule (met k) p))), are-rows (suc k) rest)

  row-given : (k : ℕ) (plugin : NamedRule) (n : ℕ) → more n from ≤ length (met k) → row (later from (own k plugin)) (more n from) ≡ map (told k plugin.name) (placed_between plugin.rule (met k) from (more n from))
  row-given k plugin zero le =
      row-none (own k plugin) from from (omega arith) ∙ sym (ap (λ (lines : List Line). map (told k plugin.name) lines) (none-between plugin.rule (met k) from))
  row-given k plugin (suc n) le =
      let s : more n from ≡ n + from = more-sum n from in
      row-next (own k plugin) from (more n from) (omega arith)
      ∙ (ap (λ (lines : List LiveLine). lines ++ own k plugin (more n from)) (row-given k plugin n (omega arith))
      ∙ (ap (λ (lines : List LiveLine). map (told k plugin.name) (placed_between plugin.rule (met k) from (more n from)) ++ lines) (sym (at_one plugin.rule (met k) (more n from) k plugin.name (omega arith)))
      ∙ (sym (map-append (told k plugin.name) (placed_between plugin.rule (met k) from (more n from)) (placed_between plugin.rule (met k) (more n from) (suc (more n from))))
      ∙ ap (λ (lines : List Line). map (told k plugin.name) lines) (joined plugin.rule (met k) from (more n from) (suc (more n from)) (omega arith) (omega arith)))))

  merged-same : (n k : ℕ) (plugins : List NamedRule) → ((i j : ℕ) → i ≡ k + j → j < length plugins → more n from ≤ length (met i)) → rows_merged met from (more n from) k plugins ≡ all_merged place (rows k plugins) (more n from)
  merged-same n k [] reach = refl
  merged-same n k (plugin ∷ rest) reach =
      ap (λ (lines : List LiveLine). merged place lines (rows_merged met from (more n from) (suc k) rest)) (sym (row-given k plugin n (reach k 0 (omega arith) (omega arith))))
      ∙ ap (λ (others : List LiveLine). merged place (row (later from (own k plugin)) (more n from)) others) (merged-same n (suc k) rest (λ i j e lt. reach i (suc j) (omega arith) (omega arith)))

  both : (one two : List LiveLine) (b : Bool) → (if b then [] else one) ++ (if b then [] else two) ≡ (if b then [] else one ++ two)
  both one two true = refl
  both one two false = refl

  none : (b : Bool) → [] ≡ (if b then [] else (let no : List LiveLine = [] in no))
  none true = refl
  none false = refl

  members : (k : ℕ) (plugins : List NamedRule) (p : ℕ) → members_at (rows k plugins) p ≡ later from (λ q. lines_from met q k plugins) p
  members k [] p = none (nat_lt p from)
  members k (plugin ∷ rest) p =
      ap (λ (others : List LiveLine). later from (own k plugin) p ++ others) (members (suc k) rest p)
      ∙ both (own k plugin p) (lines_from met p (suc k) rest) (nat_lt p from)

  module _ (plugins : List NamedRule) where
    grown : (n : ℕ) → lines_to met plugins from ++ row (later from (λ q. lines_from met q 0 plugins)) (more n from) ≡ lines_to met plugins (more n from)
    grown zero =
        ap (λ (lines : List LiveLine). lines_to met plugins from ++ lines) (row-none (λ q. lines_from met q 0 plugins) from from (omega arith))
        ∙ append-nil (lines_to met plugins from)
    grown (suc n) =
        let s : more n from ≡ n + from = more-sum n from in
        ap (λ (lines : List LiveLine). lines_to met plugins from ++ lines) (row-next (λ q. lines_from met q 0 plugins) from (more n from) (omega arith))
        ∙ (sym (append_assoc (lines_to met plugins from) (row (later from (λ q. lines_from met q 0 plugins)) (more n from)) (lines_from met (more n from) 0 plugins))
        ∙ ap (λ (lines : List LiveLine). lines ++ lines_from met (more n from) 0 plugins) (grown n))

    round-after : (n : ℕ) → ((j : ℕ) → j < length plugins → more n from ≤ length (met j)) → lines_to met plugins from ++ rows_merged met from (more n from) 0 plugins ≡ lines_to met plugins (more n from)
    round-after n reach =
        ap (λ (lines : List LiveLine). lines_to met plugins from ++ lines)
        (merged-same n 0 plugins (λ i j e lt. let same : j ≡ i = omega arith in let r : more n from ≤ length (met j) = reach j lt in reached i j same r)
        ∙ (rows-in_order place (rows 0 plugins) (more n from) (are-rows 0 plugins)
        ∙ row-same (members_at (rows 0 plugins)) (later from (λ q. lines_from met q 0 plugins)) (members 0 plugins) (more n from)))
        ∙ grown n
      where
        reached : (i j : ℕ) → j ≡ i → more n from ≤ length (met j) → more n from ≤ length (met i)
        reached i j e le = omega (arith, le, ap (λ (k : ℕ). length (met k)) e)

pub round-prints : (met : ℕ → List Cell) (plugins : List NamedRule) (from to : ℕ) → from ≤ to → ((j : ℕ) → j < length plugins → to ≤ length (met j)) → lines_to met plugins from ++ rows_merged met from to 0 plugins ≡ lines_to met plugins to
round-prints met plugins from to le reach =
    let s : more (to - from) from ≡ (to - from) + from = more-sum (to - from) from in
    let e : to ≡ more (to - from) from = omega arith in
    ap (λ (n : ℕ). lines_to met plugins from ++ rows_merged met from n 0 plugins) e
    ∙ (round-after met from plugins (to - from) (λ j lt. let r : to ≤ length (met j) = reach j lt in omega arith)
    ∙ ap (λ (n : ℕ). lines_to met plugins n) (sym e))
