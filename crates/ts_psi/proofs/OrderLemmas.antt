-- The entries of a PAT as a table are in order.
use Rattle.std.proofs.Common.{◌≡◌, ℕ, true, false, List, [], ◌∷◌, ◌++◌, map, refl, ap, ◌∙◌}
use Rattle.std.specs.Prelude.{not, Option, Some, None, filter, find, option_to_list}
use Rattle.std.specs.List.{list_all}
use Rattle.std.proofs.lemmas.Bool.{and_parts, not-true}
use Rattle.ts_table_rows.specs.TableFitting.{item_fits}
use Rattle.ts_table_rows.specs.TableValues.{ItemHolding, TableHolding}
use Rattle.ts_table_pages.specs.PsiPages.{entry_page}
use Rattle.ts_psi.specs.PatTables.{entry_item, service_item, network_items, is_network, service_serves, ordered, pat_held, pat_table}
use Rattle.ts_psi.specs.declared.pat.Pat.{Pat}

other : (x : ItemHolding) → service_serves x ≡ true → is_network x ≡ false
other x serves = not-true (is_network x) (and_parts (item_fits entry_page x) (not (is_network x)) serves).1

-- services are not network entries
no-network : (xs : List ItemHolding) → list_all service_serves xs ≡ true → (find is_network xs ≡ None) × (filter (λ x. not (is_network x)) xs ≡ xs)
no-network [] all = (refl, refl)
no-network (x ∷ xs) all =
    let parts = and_parts (service_serves x) (list_all service_serves xs) all in
    let more = no-network xs parts.1 in
    (rw (other x parts.0) more.0, rw (other x parts.0) (ap (λ l. x ∷ l) more.1))

entries-ordered : (n : Option ℕ) (xs : List ItemHolding) → list_all service_serves xs ≡ true → ordered (network_items n ++ xs) ≡ network_items n ++ xs
entries-ordered None xs all =
    let none = no-network xs all in
    ap (λ o. option_to_list o ++ filter (λ x. not (is_network x)) xs) none.0 ∙ none.1
entries-ordered (Some pid) xs all = ap (λ l. entry_item 0 pid ∷ l) (no-network xs all).1

abbrev with_items : Pat → List ItemHolding → TableHolding
with_items p xs = record { head = (pat_held p).head; body = record { values = []; descriptors = []; items = xs } }

pub pat_ordered : (p : Pat) → list_all service_serves (map service_item p.services) ≡ true → pat_table (pat_held p) ≡ pat_held p
pat_ordered p services = ap (with_items p) (entries-ordered p.network_pid (map service_item p.services) services)
