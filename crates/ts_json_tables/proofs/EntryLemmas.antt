-- The entry with number 0, and the others.
use Rattle.std.proofs.Common.{◌≡◌, ℕ, ◌<◌, Bool, true, false, List, [], ◌∷◌, ◌++◌, refl, sym, ap, ◌∙◌, arith}
use Rattle.std.specs.Prelude.{◌&&◌, Option, Some, None, is_some, nat_eq, nat_lt, nat_le}
use Rattle.std.specs.List.{list_all}
use Rattle.std.proofs.lemmas.Bool.{and_from, leb-true, lt-ltb, ne_eqb}
use Rattle.ts_jtree.specs.Shown.{are_within}
use Rattle.ts_table_rows.specs.TableFitting.{item_fits, items_fit, zeros_from}
use Rattle.ts_table_rows.specs.TablePages.{ItemPage}
use Rattle.ts_table_rows.specs.TableValues.{ItemHolding}
use Rattle.ts_fields.specs.Fitting.{fits}
use Rattle.ts_table_pages.specs.PatEntries.{entry_item, is_network, network_items}
use Rattle.ts_table_pages.specs.PsiPages.{entry_page}
use Rattle.ts_json_tables.specs.TableElements.{begins_with_zero, shown_items}
use Rattle.ts_json_tables.proofs.ShowLemmas.{is_entry}
use Rattle.ts_json_tables.proofs.StepLemmas.{both}

entry_above : (id pid : ℕ) → are_within entry_page.rows (entry_item id pid).values ≡ true → nat_eq id 0 ≡ false
unfolding are_within
entry_above id pid inside =
    let parts = both (nat_le 1 id && nat_le id 65535) _ inside in
    let least = leb-true 1 id (both (nat_le 1 id) (nat_le id 65535) parts.0).0 in
    ne_eqb id 0 (λ none. absurd (omega (arith, least, none)))

-- an entry in its range does not have the number 0
pub not_zero : (x : ItemHolding) → item_fits entry_page x ≡ true → are_within entry_page.rows x.values ≡ true
    → is_network x ≡ false
not_zero x fit inside =
    let e = is_entry x fit in
    let here : are_within entry_page.rows (entry_item e.id e.pid).values ≡ true =
    ap (λ y. are_within entry_page.rows y.values) (sym e.same) ∙ inside in
    ap is_network e.same ∙ entry_above e.id e.pid here

zeros_none : (seen : Bool) (xs : List ItemHolding) → list_all (item_fits entry_page) xs ≡ true
    → list_all (λ x. are_within entry_page.rows x.values) xs ≡ true → zeros_from true seen xs ≡ Some seen
unfolding zeros_from
zeros_none seen [] fit inside = refl
zeros_none seen (x ∷ xs) fit inside =
    let a = both (item_fits entry_page x) (list_all (item_fits entry_page) xs) fit in
    let b = both (are_within entry_page.rows x.values) (list_all (λ y. are_within entry_page.rows y.values) xs) inside in
    rw (not_zero x a.0 b.0) (zeros_none seen xs a.1 b.1)

pub zeros_free : (seen : Bool) (xs : List ItemHolding) → zeros_from false seen xs ≡ Some seen
unfolding zeros_from
zeros_free seen [] = refl
zeros_free seen (x ∷ xs) = zeros_free seen xs

pub begins_not : (xs : List ItemHolding) → begins_with_zero false xs ≡ false
begins_not [] = refl
begins_not (x ∷ xs) = refl

begins_other : (xs : List ItemHolding) → list_all (item_fits entry_page) xs ≡ true
    → list_all (λ x. are_within entry_page.rows x.values) xs ≡ true → begins_with_zero true xs ≡ false
begins_other [] fit inside = refl
begins_other (x ∷ xs) fit inside =
    not_zero x (both (item_fits entry_page x) (list_all (item_fits entry_page) xs) fit).0
    (both (are_within entry_page.rows x.values) (list_all (λ y. are_within entry_page.rows y.values) xs) inside).0

pub entry_fits : (id pid : ℕ) → id < 65536 → pid < 8192 → item_fits entry_page (entry_item id pid) ≡ true
unfolding fits
entry_fits id pid small in_range =
    and_from (fits entry_page.rows (entry_item id pid).values) true
    (and_from (nat_lt id 65536) _ (lt-ltb id 65536 small) (and_from (nat_lt pid 8192) true (lt-ltb pid 8192 in_range) refl)) refl

-- the items of a table, that with number 0 before the others
pub record Settled (one_zero : Bool) (i : Option ItemPage) (network : Option ℕ) (xs : List ItemHolding) : Type 0 where
  pub fits : items_fit i (network_items network ++ xs) ≡ true
  pub zeros : is_some (zeros_from one_zero false (network_items network ++ xs)) ≡ true
  pub begins : begins_with_zero one_zero (network_items network ++ xs) ≡ is_some network
  pub shown : shown_items one_zero (network_items network ++ xs) ≡ xs

pub settled_free : (i : Option ItemPage) (xs : List ItemHolding) → items_fit i xs ≡ true → Settled false i None xs
settled_free i xs fit = record {
  fits = fit;
  zeros = ap is_some (zeros_free false xs);
  begins = begins_not xs;
  shown = rw (begins_not xs) refl;
}

pub settled_none : (xs : List ItemHolding) → list_all (item_fits entry_page) xs ≡ true
    → list_all (λ x. are_within entry_page.rows x.values) xs ≡ true → Settled true (Some entry_page) None xs
settled_none xs fit inside = record {
  fits = fit;
  zeros = ap is_some (zeros_none false xs fit inside);
  begins = begins_other xs fit inside;
  shown = rw (begins_other xs fit inside) refl;
}

zeros_first : (pid : ℕ) (xs : List ItemHolding) → zeros_from true false (entry_item 0 pid ∷ xs) ≡ zeros_from true true xs
unfolding zeros_from
zeros_first pid xs = refl

pub settled_some : (pid : ℕ) (xs : List ItemHolding) → pid < 8192 → list_all (item_fits entry_page) xs ≡ true
    → list_all (λ x. are_within entry_page.rows x.values) xs ≡ true → Settled true (Some entry_page) (Some pid) xs
settled_some pid xs small fit inside = record {
  fits = and_from (item_fits entry_page (entry_item 0 pid)) (list_all (item_fits entry_page) xs) (entry_fits 0 pid (omega arith) small) fit;
  zeros = ap is_some (zeros_first pid xs ∙ zeros_none true xs fit inside);
  begins = refl;
  shown = refl;
}
