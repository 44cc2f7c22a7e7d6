-- The stages of a plan that use joint termination.
use Rattle.std.proofs.Common.{ℕ, suc, ◌+◌, ◌<◌, ◌≤◌, List, [], ◌∷◌, length, Bool, true, false, if◌then◌else◌, arith}
use Rattle.std.specs.List.{All}
use Rattle.std.proofs.lemmas.List.Elements.{All-nil, All-cons, All-append, All-weaker}
use Rattle.plugin_settings.specs.declared.plugin_item.PluginItem.{PluginItem}
use Rattle.plugin_settings.specs.Plugins.{uses_joint}
use Rattle.tsp_top.specs.PlannedChain.{user_at, users_from}

-- a number that is the one of a list, or not in it
one-or-none : (P : ℕ → Type 0) (b : Bool) (j : ℕ) → P j → All P (if b then j ∷ [] else [])
one-or-none P true j holds = All-cons P j [] holds (All-nil P)
one-or-none P false j holds = All-nil P

-- the stages of these plugins are their numbers
users_from-within : (j : ℕ) (items : List PluginItem) → All (λ k. (j ≤ k) × (k < j + length items)) (users_from j items)
users_from-within j [] = All-nil (λ k. (j ≤ k) × (k < j + 0))
users_from-within j (item ∷ items) =
    let P : ℕ → Type 0 = λ k. (j ≤ k) × (k < j + length (item ∷ items)) in
    let Q : ℕ → Type 0 = λ k. (suc j ≤ k) × (k < suc j + length items) in
    let here : P j = (omega arith, omega arith) in
    All-append P (user_at j item) (users_from (suc j) items) (one-or-none P (uses_joint item.conf) j here)
    (All-weaker Q P (λ (k : ℕ) (h : Q k). (omega (arith, h.0), omega (arith, h.1))) (users_from (suc j) items) (users_from-within (suc j) items))

-- the stages that use joint termination are plugins, whether they are ignored or not
pub users-are-plugins : (ignored : Bool) (items : List PluginItem) → All (λ k. (1 ≤ k) × (k ≤ length items)) (if ignored then [] else users_from 1 items)
users-are-plugins true items = All-nil (λ k. (1 ≤ k) × (k ≤ length items))
users-are-plugins false items =
    let P : ℕ → Type 0 = λ k. (1 ≤ k) × (k ≤ length items) in
    let Q : ℕ → Type 0 = λ k. (1 ≤ k) × (k < 1 + length items) in
    All-weaker Q P (λ (k : ℕ) (h : Q k). (h.0, omega (arith, h.1))) (users_from 1 items) (users_from-within 1 items)
