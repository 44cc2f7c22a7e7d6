-- Operands that are read, one after another.
use Rattle.std.proofs.Common.{◌≡◌, ◌∙◌, ◌+◌, ◌<◌, ◌&&◌, ℕ, List, ◌∷◌, length, drop, get_or, map, Option, is_some, ap, sym, add-one, drop-cons}
use Rattle.std.specs.Prelude.{filter_map}
use Rattle.std.specs.Borrow.{Bor}
use Rattle.std.specs.List.{cons_option, list_all}

module _ {X : Type 0} (reader : List ℕ → Option X) (texts : List (Bor (List ℕ))) (i : ℕ) (d : Bor (List ℕ)) (lt : i < length texts) where
  abbrev left : ℕ → List (List ℕ)
  left k = map (λ text. text.now) (drop k texts)

  next_text : left i ≡ (get_or texts i d).now ∷ left (i + 1)
  next_text = ap (map (λ text. text.now)) (drop-cons texts i d lt) ∙ ap (λ n. (get_or texts i d).now ∷ left n) (sym (add-one i))

  pub formed_step : (o : Option X) → o ≡ reader (get_or texts i d).now → list_all (λ text. is_some (reader text)) (left i) ≡ (is_some o && list_all (λ text. is_some (reader text)) (left (i + 1)))
  formed_step o e = ap (list_all (λ text. is_some (reader text))) next_text ∙ ap (λ p. is_some p && list_all (λ text. is_some (reader text)) (left (i + 1))) (sym e)

  pub read_step : (o : Option X) → o ≡ reader (get_or texts i d).now → filter_map reader (left i) ≡ cons_option o (filter_map reader (left (i + 1)))
  read_step o e = ap (filter_map reader) next_text ∙ ap (λ p. cons_option p (filter_map reader (left (i + 1)))) (sym e)
