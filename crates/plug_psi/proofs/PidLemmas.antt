-- The PIDs of PMTs, added one after another.
use Rattle.std.proofs.Common.{◌≡◌, ℕ, ◌+◌, ◌<◌, ◌≤◌, List, ◌∷◌, ◌++◌, length, drop, get_or, sym, ap, ◌∙◌, append-nil, append_assoc}
use Rattle.std.specs.Prelude.{Some}
use Rattle.std.specs.List.{cons_option, flat_map}
use Rattle.std.proofs.lemmas.List.{drop_more, drop_all}
use Rattle.ts_psi.specs.declared.pat.PatService.{PatService}
use Rattle.ts_psi.specs.PatTables.{service_item}
use Rattle.plug_psi.specs.InForce.{service_in}
use Rattle.plug_psi.proofs.PatLemmas.{pairs_of}

-- the next service
pairs-next :
    (services : List PatService) (i : ℕ) (d : PatService) (pair : ℕ × ℕ) → i < length services → service_in (service_item (get_or services i d)) ≡ Some pair →
    pairs_of (drop i services) ≡ pair ∷ pairs_of (drop (i + 1) services)
pairs-next services i d pair inside is =
    ap pairs_of (drop_more services i d inside) ∙ ap (λ o. cons_option o (pairs_of (drop (i + 1) services))) is

-- its PIDs are added
pub added-next :
    (tell : ℕ × ℕ → List ℕ) (pids new whole : List ℕ) (services : List PatService) (i : ℕ) (d : PatService) (pair : ℕ × ℕ) → i < length services →
    service_in (service_item (get_or services i d)) ≡ Some pair → new ≡ pids ++ tell pair →
    pids ++ flat_map tell (pairs_of (drop i services)) ≡ whole → new ++ flat_map tell (pairs_of (drop (i + 1) services)) ≡ whole
added-next tell pids new whole services i d pair inside is more so_far =
    let rest : List ℕ = flat_map tell (pairs_of (drop (i + 1) services)) in
    ap (λ l. l ++ rest) more ∙ append_assoc pids (tell pair) rest
    ∙ ap (λ l. pids ++ flat_map tell l) (sym (pairs-next services i d pair inside is)) ∙ so_far

-- none is left
pub added-all :
    (tell : ℕ × ℕ → List ℕ) (pids whole : List ℕ) (services : List PatService) (i : ℕ) → length services ≤ i →
    pids ++ flat_map tell (pairs_of (drop i services)) ≡ whole → pids ≡ whole
added-all tell pids whole services i none so_far =
    sym (ap (λ l. pids ++ flat_map tell (pairs_of l)) (drop_all i services none) ∙ append-nil pids) ∙ so_far
