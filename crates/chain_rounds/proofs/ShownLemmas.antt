-- Lines with the numbers of their plugins, as they are printed.
use Rattle.std.proofs.Common.{◌≡◌, ℕ, suc, ◌<◌, ◌≤◌, List, [], ◌∷◌, ◌++◌, length, map, true, false, nat_lt, if◌then◌else◌, refl, ap, ◌∙◌}
use Rattle.ts_packet.specs.declared.cell.Cell.{Cell}
use Rattle.chain_model.specs.Reports.{NamedRule, rules_of}
use Rattle.plugin_trait.specs.PlacedLines.{placed_between}
use Rattle.plugin_trait.specs.declared.line.Line.{Line}
use Rattle.chain_live.specs.LiveReports.{LiveLine, lines_to}
use Rattle.chain_rounds.specs.declared.told_line.ToldLine.{ToldLine}
use Rattle.chain_rounds.specs.Merged.{into, merged}
use Rattle.chain_rounds.specs.Told.{told, told_by, told_merged, place_of, shown}
use Rattle.chain_rounds.specs.Round.{place, rows_merged, AreNames}
use Rattle.chain_rounds.proofs.RoundLemmas.{round-prints}

module _ (name_of : ℕ → List ℕ) where
  abbrev show : ToldLine → LiveLine
  show = shown name_of

  shown-into : (x : ToldLine) (rest : List ToldLine → List ToldLine) (others : List LiveLine → List LiveLine) → ((zs : List ToldLine) → map show (rest zs) ≡ others (map show zs))
      → (ys : List ToldLine) → map show (into place_of x rest ys) ≡ into place (show x) others (map show ys)
  shown-into x rest others each [] = ap (λ (lines : List LiveLine). show x ∷ lines) (each [])
  shown-into x rest others each (y ∷ ys) =
      elim (nat_lt (place_of y) (place_of x)) as (λ t. map show (if t then y ∷ into place_of x rest ys else x ∷ rest (y ∷ ys)) ≡ (if t then show y ∷ into place (show x) others (map show ys) else show x ∷ others (show y ∷ map show ys))) [
        | true ↦ ap (λ (lines : List LiveLine). show y ∷ lines) (shown-into x rest others each ys)
        | false ↦ ap (λ (lines : List LiveLine). show x ∷ lines) (each (y ∷ ys))
      ]

  shown-merged : (xs ys : List ToldLine) → map show (merged place_of xs ys) ≡ merged place (map show xs) (map show ys)
  shown-merged [] ys = refl
  shown-merged (x ∷ xs) ys = shown-into x (merged place_of xs) (merged place (map show xs)) (shown-merged xs) ys

  shown-lines : (j : ℕ) (name : List ℕ) → name_of (suc j) ≡ name → (lines : List Line) → map show (map (told_by (suc j)) lines) ≡ map (told j name) lines
  shown-lines j name is [] = refl
  shown-lines j name is (line ∷ lines) =
      ap (λ (n : List ℕ). told j n line ∷ map show (map (told_by (suc j)) lines)) is
      ∙ ap (λ (rest : List LiveLine). told j name line ∷ rest) (shown-lines j name is lines)

  shown-all : (met : ℕ → List Cell) (from to j : ℕ) (plugins : List NamedRule) → AreNames name_of j plugins → map show (told_merged met from to j (rules_of plugins)) ≡ rows_merged met from to j plugins
  shown-all met from to j [] names = refl
  shown-all met from to j (plugin ∷ rest) names =
      let own : List Line = placed_between plugin.rule (met j) from to in
      shown-merged (map (told_by (suc j)) own) (told_merged met from to (suc j) (rules_of rest))
      ∙ (ap (λ (lines : List LiveLine). merged place lines (map show (told_merged met from to (suc j) (rules_of rest)))) (shown-lines j plugin.name names.0 own)
      ∙ ap (λ (lines : List LiveLine). merged place (map (told j plugin.name) own) lines) (shown-all met from to (suc j) rest names.1))

  pub shown-prints : (met : ℕ → List Cell) (plugins : List NamedRule) (from to : ℕ) → from ≤ to → ((j : ℕ) → j < length plugins → to ≤ length (met j)) → AreNames name_of 0 plugins
      → lines_to met plugins from ++ map show (told_merged met from to 0 (rules_of plugins)) ≡ lines_to met plugins to
  shown-prints met plugins from to le reach names =
      ap (λ (lines : List LiveLine). lines_to met plugins from ++ lines) (shown-all met from to 0 plugins names) ∙ round-prints met plugins from to le reach
