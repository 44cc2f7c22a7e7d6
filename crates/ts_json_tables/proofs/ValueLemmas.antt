-- Values put one after another.
use Rattle.std.proofs.Common.{◌≡◌, List, [], ◌∷◌, ◌++◌, ap, ◌∙◌, append_assoc}
use Rattle.ts_fields.specs.Layout.{Held}

pub values_joined : (n t : Held) (id ext common kept others net v1 v2 v3 v4 v5 v6 v7 v8 : List Held)
    → v1 ≡ n ∷ [] → v2 ≡ v1 ++ t ∷ [] → v3 ≡ v2 ++ id → v4 ≡ v3 ++ ext → v5 ≡ v4 ++ common → v6 ≡ v5 ++ kept
    → v7 ≡ v6 ++ others → v8 ≡ v7 ++ net
    → v8 ≡ n ∷ t ∷ ((id ++ ext) ++ (common ++ (kept ++ (others ++ net))))
values_joined n t id ext common kept others net v1 v2 v3 v4 v5 v6 v7 v8 e1 e2 e3 e4 e5 e6 e7 e8 =
    let a = id ++ ext in
    let f2 : v2 ≡ n ∷ t ∷ [] = e2 ∙ ap (λ l. l ++ t ∷ []) e1 in
    let f3 : v3 ≡ n ∷ t ∷ id = e3 ∙ ap (λ l. l ++ id) f2 in
    let f4 : v4 ≡ n ∷ t ∷ a = e4 ∙ ap (λ l. l ++ ext) f3 in
    let f5 : v5 ≡ n ∷ t ∷ (a ++ common) = e5 ∙ ap (λ l. l ++ common) f4 in
    let f6 : v6 ≡ n ∷ t ∷ ((a ++ common) ++ kept) = e6 ∙ ap (λ l. l ++ kept) f5 in
    let f7 : v7 ≡ n ∷ t ∷ (((a ++ common) ++ kept) ++ others) = e7 ∙ ap (λ l. l ++ others) f6 in
    e8 ∙ ap (λ l. l ++ net) f7
    ∙ ap (λ l. n ∷ t ∷ l) (append_assoc ((a ++ common) ++ kept) others net ∙ append_assoc (a ++ common) kept (others ++ net) ∙ append_assoc a common (kept ++ (others ++ net)))
