-- The lines that a plugin gives out for one position.
use Rattle.std.proofs.Common.{◌≡◌, ℕ, zero, suc, ◌+◌, ◌≤◌, List, [], ◌∷◌, length, map, flat_map, take, drop, refl, ap, sym, ◌∙◌, arith, append-nil}
use Rattle.std.proofs.lemmas.List.{length-take-le}
use Rattle.ts_packet.specs.declared.cell.Cell.{Cell}
use Rattle.ts_packet.specs.Cells.{Live, Dropped}
use Rattle.chain_model.specs.PluginRule.{PluginRule}
use Rattle.plugin_trait.specs.PlacedLines.{placed_at, placed_after, placed_between}
use Rattle.plugin_trait.specs.declared.line.Line.{Line}
use Rattle.chain_live.specs.LiveReports.{LiveLine, lines_on, lines_at, told_at}
use Rattle.chain_rounds.specs.Told.{told}

-- a sum that is computed by its first number
abbrev pub more : ℕ → ℕ → ℕ
more zero w = w
more (suc n) w = suc (more n w)

pub more-sum : (n w : ℕ) → more n w ≡ n + w
more-sum zero w = omega arith
more-sum (suc n) w = let e : more n w ≡ n + w = more-sum n w in omega arith

none-taken : (cells : List Cell) (from : ℕ) → drop from (take from cells) ≡ []
none-taken [] zero = refl
none-taken [] (suc from) = refl
none-taken (x ∷ xs) zero = refl
none-taken (x ∷ xs) (suc from) = none-taken xs from

-- between a mark and itself no line is
pub none-between : (rule : PluginRule) (history : List Cell) (from : ℕ) → placed_between rule history from from ≡ []
none-between rule history from = ap (λ (cells : List Cell). placed_after rule (take from history) cells) (none-taken history from)

drop-one : (cells : List Cell) (p : ℕ) → drop p (take (suc p) cells) ≡ take 1 (drop p cells)
drop-one [] zero = refl
drop-one [] (suc p) = refl
drop-one (x ∷ xs) zero = refl
drop-one (x ∷ xs) (suc p) = drop-one xs p

told-placed : (p j : ℕ) (name : List ℕ) (texts : List (List ℕ)) → map (told j name) (placed_at p texts) ≡ told_at p j name texts
told-placed p j name [] = refl
told-placed p j name (text ∷ texts) = ap (λ (rest : List LiveLine). (let l : LiveLine = record { at = p; plugin = suc j; name = name; text = text } in l) ∷ rest) (told-placed p j name texts)

told-first : (rule : PluginRule) (history cells : List Cell) (p j : ℕ) (name : List ℕ) → length history ≡ p → map (told j name) (placed_after rule history (take 1 cells)) ≡ told_at p j name (flat_map (lines_on rule history) (take 1 cells))
told-first rule history [] p j name e = refl
told-first rule history (Dropped ∷ cells) p j name e = refl
told-first rule history (Live packet labels ∷ cells) p j name e =
    let texts : List (List ℕ) = rule.lines_of history packet labels in
    ap (λ (lines : List Line). map (told j name) lines) (append-nil (placed_at (length history) texts))
    ∙ (ap (λ (n : ℕ). map (told j name) (placed_at n texts)) e
    ∙ (told-placed p j name texts
    ∙ ap (λ (ts : List (List ℕ)). told_at p j name ts) (sym (append-nil texts))))

pub at_one : (rule : PluginRule) (history : List Cell) (p j : ℕ) (name : List ℕ) → p ≤ length history → map (told j name) (placed_between rule history p (suc p)) ≡ told_at p j name (lines_at rule history p)
at_one rule history p j name le =
    ap (λ (cells : List Cell). map (told j name) (placed_after rule (take p history) cells)) (drop-one history p)
    ∙ told-first rule (take p history) (drop p history) p j name (length-take-le p history le)
