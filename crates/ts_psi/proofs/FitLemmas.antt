-- PAT, CAT and PMT fit their layouts.
use Rattle.std.proofs.Common.{◌≡◌, ℕ, ◌^◌, ◌<◌, Bool, true, false, List, [], ◌∷◌, ◌++◌, map, refl, ap, arith}
use Rattle.std.specs.Prelude.{◌&&◌, is_some, not, nat_eq, nat_lt, Option, Some, None}
use Rattle.std.specs.List.{list_all}
use Rattle.std.specs.Option.{ForSome}
use Rattle.std.proofs.lemmas.Bool.{and_from, and_parts, lt-ltb, not-true, not_from_false, ne_eqb}
use Rattle.ts_fields.specs.Layout.{number}
use Rattle.ts_fields.specs.Fitting.{fits}
use Rattle.ts_table_rows.specs.TableValues.{ItemHolding}
use Rattle.ts_table_rows.specs.TableFitting.{item_fits, zeros_from, head_fits, body_fits, table_fits}
use Rattle.ts_table_rows.proofs.ListLemmas.{zeros_free}
use Rattle.ts_table_pages.specs.PsiPages.{component_page, entry_page, pmt_head_rows, cat_page, pat_page, pmt_page}
use Rattle.ts_psi.specs.PsiTables.{component_item, pmt_held}
use Rattle.ts_psi.specs.CatTables.{cat_held}
use Rattle.ts_psi.specs.PatTables.{entry_item, service_item, network_items, is_network, service_serves, pat_held}
use Rattle.ts_psi.specs.declared.cat.Cat.{Cat}
use Rattle.ts_psi.specs.declared.pat.PatService.{PatService}
use Rattle.ts_psi.specs.declared.pat.Pat.{Pat}
use Rattle.ts_psi.specs.declared.pmt.Pmt.{Pmt}

pcr_fits : (pid : ℕ) → pid < 8192 → fits pmt_head_rows (number pid ∷ []) ≡ true
unfolding fits
pcr_fits pid small = and_from (nat_lt pid (2 ^ 13)) true (lt-ltb pid (2 ^ 13) small) refl

pub pmt_fits : (p : Pmt) → p.service_id < 65536 → p.version < 32 → p.pcr_pid < 8192 → list_all (item_fits component_page) (map component_item p.components) ≡ true → table_fits pmt_page (pmt_held p) ≡ true
unfolding fits
pmt_fits p service version pcr items =
    let zeros : is_some (zeros_from false false (map component_item p.components)) ≡ true = ap is_some (zeros_free false (map component_item p.components)) in
    and_from (head_fits pmt_page (pmt_held p).head) (body_fits pmt_page (pmt_held p).body)
    (and_from (nat_lt p.service_id 65536) (nat_lt p.version 32 && true) (lt-ltb p.service_id 65536 service) (and_from (nat_lt p.version 32) true (lt-ltb p.version 32 version) refl))
    (and_from (fits pmt_head_rows (number p.pcr_pid ∷ [])) _ (pcr_fits p.pcr_pid pcr) (and_from (list_all (item_fits component_page) (map component_item p.components)) _ items zeros))

pub cat_fits : (c : Cat) → c.version < 32 → table_fits cat_page (cat_held c) ≡ true
unfolding zeros_from fits
cat_fits c version = and_from (head_fits cat_page (cat_held c).head) (body_fits cat_page (cat_held c).body) (and_from (nat_lt c.version 32) true (lt-ltb c.version 32 version) refl) refl

-- an entry
pub entry_fits : (id pid : ℕ) → id < 65536 → pid < 8192 → item_fits entry_page (entry_item id pid) ≡ true
unfolding fits
entry_fits id pid small in_range =
    and_from (fits entry_page.rows (number id ∷ number pid ∷ [])) true
    (and_from (nat_lt id (2 ^ 16)) _ (lt-ltb id (2 ^ 16) small) (and_from (nat_lt pid (2 ^ 13)) true (lt-ltb pid (2 ^ 13) in_range) refl)) refl

-- a service as an entry
pub service_fits : (s : PatService) → 0 < s.service_id → s.service_id < 65536 → s.pid < 8192 → service_serves (service_item s) ≡ true
service_fits s some small in_range =
    and_from (item_fits entry_page (service_item s)) (not (nat_eq s.service_id 0)) (entry_fits s.service_id s.pid small in_range)
    (not_from_false (nat_eq s.service_id 0) (ne_eqb s.service_id 0 (λ none. absurd (omega arith))))

serves_fit : (xs : List ItemHolding) → list_all service_serves xs ≡ true → list_all (item_fits entry_page) xs ≡ true
serves_fit [] all = refl
serves_fit (x ∷ xs) all =
    let parts = and_parts (service_serves x) (list_all service_serves xs) all in
    and_from (item_fits entry_page x) (list_all (item_fits entry_page) xs) (and_parts (item_fits entry_page x) (not (is_network x)) parts.0).0 (serves_fit xs parts.1)

serves_zeros : (seen : Bool) (xs : List ItemHolding) → list_all service_serves xs ≡ true → zeros_from true seen xs ≡ Some seen
unfolding zeros_from
serves_zeros seen [] all = refl
serves_zeros seen (x ∷ xs) all =
    let parts = and_parts (service_serves x) (list_all service_serves xs) all in
    let other : is_network x ≡ false = not-true (is_network x) (and_parts (item_fits entry_page x) (not (is_network x)) parts.0).1 in
    rw other (serves_zeros seen xs parts.1)

entries_fit : (n : Option ℕ) (xs : List ItemHolding) → ForSome n (λ pid. pid < 8192) → list_all service_serves xs ≡ true → list_all (item_fits entry_page) (network_items n ++ xs) ≡ true
entries_fit None xs in_range all = serves_fit xs all
entries_fit (Some pid) xs in_range all = and_from (item_fits entry_page (entry_item 0 pid)) (list_all (item_fits entry_page) xs) (entry_fits 0 pid (omega arith) (in_range pid refl)) (serves_fit xs all)

entries_zeros : (n : Option ℕ) (xs : List ItemHolding) → list_all service_serves xs ≡ true → is_some (zeros_from true false (network_items n ++ xs)) ≡ true
unfolding zeros_from
entries_zeros None xs all = ap is_some (serves_zeros false xs all)
entries_zeros (Some pid) xs all = ap is_some (serves_zeros true xs all)

pub pat_fits : (p : Pat) → p.stream_id < 65536 → p.version < 32 → ForSome p.network_pid (λ pid. pid < 8192) → list_all service_serves (map service_item p.services) ≡ true → table_fits pat_page (pat_held p) ≡ true
unfolding fits
pat_fits p stream version network services =
    let xs = map service_item p.services in
    and_from (head_fits pat_page (pat_held p).head) (body_fits pat_page (pat_held p).body)
    (and_from (nat_lt p.stream_id 65536) (nat_lt p.version 32 && true) (lt-ltb p.stream_id 65536 stream) (and_from (nat_lt p.version 32) true (lt-ltb p.version 32 version) refl))
    (and_from (list_all (item_fits entry_page) (network_items p.network_pid ++ xs)) _ (entries_fit p.network_pid xs network services) (entries_zeros p.network_pid xs services))
