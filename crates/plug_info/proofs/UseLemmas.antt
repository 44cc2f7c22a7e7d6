-- Lemmas on what PIDs are used for, service by service.
use Rattle.std.proofs.Common.{◌≡◌, ℕ, ◌+◌, ◌<◌, ◌≤◌, Bool, false, List, [], ◌∷◌, ◌++◌, length, drop, map, get_or, sym, ap, ◌∙◌, refl, append-nil, append_assoc, arith, cond}
use Rattle.std.specs.Prelude.{find, None, Some}
use Rattle.std.proofs.lemmas.Bool.{ne_eqb}
use Rattle.std.specs.List.{cons_option, filter_map, flat_map}
use Rattle.std.proofs.lemmas.List.{drop_more, drop_all}
use Rattle.ts_psi.specs.PatTables.{is_network, network_items, pat_held, service_item}
use Rattle.ts_psi.specs.declared.pat.Pat.{Pat}
use Rattle.ts_psi.specs.declared.pat.PatService.{PatService}
use Rattle.plug_psi.specs.InForce.{service_in}
use Rattle.plug_info.specs.PidUses.{entry_pid, network_pid_in}

-- services as their numbers and PIDs
abbrev pub pairs_of : List PatService → List (ℕ × ℕ)
pairs_of services = filter_map service_in (map service_item services)

-- the next service
pairs-next : (services : List PatService) (i : ℕ) (d : PatService) (pair : ℕ × ℕ) → i < length services → service_in (service_item (get_or services i d)) ≡ Some pair
    → pairs_of (drop i services) ≡ pair ∷ pairs_of (drop (i + 1) services)
pairs-next services i d pair inside is =
    ap pairs_of (drop_more services i d inside) ∙ ap (λ o. cons_option o (pairs_of (drop (i + 1) services))) is

-- what it names is added
pub named-next : {X : Type 0} (tell : ℕ × ℕ → List X) (held new whole : List X) (services : List PatService) (i : ℕ) (d : PatService) (pair : ℕ × ℕ) → i < length services
    → service_in (service_item (get_or services i d)) ≡ Some pair → new ≡ held ++ tell pair
    → held ++ flat_map tell (pairs_of (drop i services)) ≡ whole → new ++ flat_map tell (pairs_of (drop (i + 1) services)) ≡ whole
named-next {X} tell held new whole services i d pair inside is more so_far =
    let rest : List X = flat_map tell (pairs_of (drop (i + 1) services)) in
    ap (λ l. l ++ rest) more ∙ (append_assoc held (tell pair) rest
    ∙ (ap (λ l. held ++ flat_map tell l) (sym (pairs-next services i d pair inside is)) ∙ so_far))

-- none is left
pub named-all : {X : Type 0} (tell : ℕ × ℕ → List X) (held whole : List X) (services : List PatService) (i : ℕ) → length services ≤ i
    → held ++ flat_map tell (pairs_of (drop i services)) ≡ whole → held ≡ whole
named-all tell held whole services i none so_far =
    sym (ap (λ l. held ++ flat_map tell (pairs_of l)) (drop_all i services none) ∙ append-nil held) ∙ so_far

-- no service is the network's entry
no-network : (s : PatService) → is_network (service_item s) ≡ false
no-network s = ne_eqb s.service_id 0 (λ e. absurd (omega (arith, e, s.named)))

services-serve : (services : List PatService) → find is_network (map service_item services) ≡ None
services-serve [] = refl
services-serve (s ∷ services) =
    ap (λ (b : Bool). cond b (Some (service_item s)) (find is_network (map service_item services))) (no-network s) ∙ services-serve services

-- the network PID of a PAT
pub network-is : (pat : Pat) → network_pid_in (Some (pat_held pat)) ≡ pat.network_pid
network-is pat = elim pat.network_pid as (λ n. entry_pid (find is_network (network_items n ++ map service_item pat.services)) ≡ n) [
  | None ↦ ap entry_pid (services-serve pat.services)
  | Some pid ↦ refl
]
