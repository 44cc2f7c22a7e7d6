-- The table of a run is of bytes.
use Rattle.std.proofs.Common.{◌≡◌, ℕ, ◌-◌, ◌<◌, Bool, true, List, [], ◌∷◌, length, take, drop, map, refl}
use Rattle.std.specs.Prelude.{All, Option, Some, None, Result, Ok, Err, find, filter, not, option_to_list}
use Rattle.std.specs.List.{list_all}
use Rattle.std.proofs.lemmas.Bool.{and_from, cond_both}
use Rattle.std.proofs.lemmas.List.Elements.{All-append, All-cons, All-drop, All-filter, All-head, All-nil, All-tail, All-take}
use Rattle.ts_bits.specs.TaggedBody.{IsDescriptor}
use Rattle.ts_fields.specs.Fitting.{are_bytes}
use Rattle.ts_table_pages.specs.PatEntries.{is_network, ordered}
use Rattle.ts_section.specs.ValidSection.{IsSection}
use Rattle.ts_section.specs.SectionFields.{body_of, is_long, table_id_of}
use Rattle.ts_table_rows.specs.RunReading.{FirstBroken, read_run}
use Rattle.ts_table_rows.specs.TableFitting.{DescriptorsFit}
use Rattle.ts_table_rows.specs.TablePages.{TablePage}
use Rattle.ts_table_rows.specs.TableValues.{ItemHolding, TableHolding}
use Rattle.ts_json_tables.specs.HeldTables.{long, short}
use Rattle.ts_json_tables.specs.KnownPages.{page_with_id}
use Rattle.ts_json_tables.specs.ValidTables.{IsOfBytes}
use Rattle.ts_json_tables.specs.RunTables.{bytes_table, long_of, read_or_bytes, settled, short_of, table_by, table_of_run}
use Rattle.ts_json_tables.proofs.ByteLemmas.{all_bytes}
use Rattle.ts_json_tables.proofs.OfBytesReading.{BytesRead, run_described}

-- ---- bodies

body_bytes : (s : List ℕ) → IsSection s → are_bytes (body_of s) ≡ true
body_bytes s valid =
    cond_both (is_long s) (drop 8 (take (length s - 4) s)) (drop 3 s) (λ row. are_bytes row ≡ true)
    (λ long. all_bytes (drop 8 (take (length s - 4) s))
    (All-drop (λ x. x < 256) 8 (take (length s - 4) s) (All-take (λ x. x < 256) (length s - 4) s valid.bytes)))
    (λ short. all_bytes (drop 3 s) (All-drop (λ x. x < 256) 3 s valid.bytes))

pub bodies_bytes : (run : List (List ℕ)) → All (λ s. IsSection s) run → list_all are_bytes (map body_of run) ≡ true
bodies_bytes [] valid = refl
bodies_bytes (s ∷ ss) valid =
    and_from (are_bytes (body_of s)) (list_all are_bytes (map body_of ss))
    (body_bytes s (All-head (λ x. IsSection x) s ss valid)) (bodies_bytes ss (All-tail (λ x. IsSection x) s ss valid))

run_bytes : (run : List (List ℕ)) → All (λ s. IsSection s) run → IsOfBytes (bytes_table run)
run_bytes [] valid = refl
run_bytes (s ∷ ss) valid =
    cond_both (is_long s) (long (long_of s (s ∷ ss))) (short (short_of s)) IsOfBytes
    (λ is. bodies_bytes (s ∷ ss) valid)
    (λ is. body_bytes s (All-head (λ x. IsSection x) s ss valid))

-- ---- tables of a page

abbrev Described : ItemHolding → Type 0
Described x = All (λ d. IsDescriptor d) x.descriptors

found_described : (p : ItemHolding → Bool) (xs : List ItemHolding) → All Described xs → All Described (option_to_list (find p xs))
found_described p [] all = All-nil Described
found_described p (x ∷ xs) all =
    cond_both (p x) (Some x) (find p xs) (λ o. All Described (option_to_list o))
    (λ is. All-cons Described x [] (All-head Described x xs all) (All-nil Described))
    (λ other. found_described p xs (All-tail Described x xs all))

ordered_described : (xs : List ItemHolding) → All Described xs → All Described (ordered xs)
ordered_described xs all =
    All-append Described (option_to_list (find is_network xs)) (filter (λ x. not (is_network x)) xs)
    (found_described is_network xs all) (All-filter (λ x. not (is_network x)) Described xs all)

settled_described : (p : TablePage) (t : TableHolding) → DescriptorsFit t.body → DescriptorsFit (settled p t).body
settled_described p t fit = record {
  own = fit.own;
  items =
      cond_both p.one_zero (ordered t.body.items) t.body.items (All Described)
      (λ one. ordered_described t.body.items fit.items) (λ any. fit.items);
}

by_reading : (p : TablePage) (r : Result TableHolding FirstBroken) (run : List (List ℕ)) → All (λ s. IsSection s) run
    → ((t : TableHolding) → r ≡ Ok t → DescriptorsFit t.body) → IsOfBytes (read_or_bytes p r run)
by_reading p (Ok t) run valid described = settled_described p t (described t refl)
by_reading p (Err fault) run valid described = run_bytes run valid

by_page : BytesRead → (o : Option TablePage) (run : List (List ℕ)) → All (λ s. IsSection s) run → IsOfBytes (table_by o run)
by_page law None run valid = run_bytes run valid
by_page law (Some p) run valid = by_reading p (read_run p run) run valid (run_described law p run)

pub run_of_bytes : BytesRead → (run : List (List ℕ)) → All (λ s. IsSection s) run → IsOfBytes (table_of_run run)
run_of_bytes law [] valid = refl
run_of_bytes law (s ∷ ss) valid = by_page law (page_with_id (table_id_of s)) (s ∷ ss) valid
