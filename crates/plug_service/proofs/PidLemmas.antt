-- What services add to a list, one after another.
use Rattle.std.proofs.Common.{◌≡◌, ℕ, ◌+◌, ◌<◌, ◌≤◌, List, ◌++◌, length, drop, get_or, sym, ap, ◌∙◌, append-nil, append_assoc}
use Rattle.std.specs.List.{flat_map}
use Rattle.std.proofs.lemmas.List.{drop_more, drop_all}

module _ (tell : ℕ → List ℕ) (services : List ℕ) (i : ℕ) (d : ℕ) (so_far new whole : List ℕ) where
  -- what one of them adds
  pub own-next : i < length services → new ≡ so_far ++ tell (get_or services i d) → so_far ++ flat_map tell (drop i services) ≡ whole → new ++ flat_map tell (drop (i + 1) services) ≡ whole
  own-next inside more is =
      let rest : List ℕ = flat_map tell (drop (i + 1) services) in
      ap (λ l. l ++ rest) more ∙ append_assoc so_far (tell (get_or services i d)) rest
      ∙ ap (λ l. so_far ++ flat_map tell l) (sym (drop_more services i d inside)) ∙ is

-- none is left
pub own-all : (tell : ℕ → List ℕ) (services : List ℕ) (i : ℕ) (so_far whole : List ℕ) → length services ≤ i → so_far ++ flat_map tell (drop i services) ≡ whole → so_far ≡ whole
own-all tell services i so_far whole none is = sym (ap (λ l. so_far ++ flat_map tell l) (drop_all i services none) ∙ append-nil so_far) ∙ is
