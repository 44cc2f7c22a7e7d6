-- A text of tables is compiled to their sections.
use Rattle.std.proofs.Common.{◌≡◌, ℕ, ◌+◌, ◌<◌, ◌≤◌, Bool, true, false, String, Global, string_bytes, List, [], ◌∷◌, ◌++◌, length, take, get_or, map, refl, sym, ap, ◌∙◌, subst, arith, append_assoc}
use Rattle.std.proofs.lemmas.Str.{IsUtf8-string_bytes, is_utf8-from_IsUtf8}
use Rattle.std.proofs.lemmas.List.{map-append, take_all, take_more}
use Rattle.std.specs.Prelude.{All, Option, Some, None, Result, Ok, Err, IfOk}
use Rattle.std.specs.Str.{is_utf8}
use Rattle.std.specs.Cmp.Lexicographic.{bytes_decides}
use Rattle.std.proofs.lemmas.Bool.{cond-true}
use Rattle.std.proofs.lemmas.List.Elements.{All-cons, All-head, All-nil, All-tail}
use Rattle.serde_json.specs.Data.{Data, Items, Members, array, depth, object}
use Rattle.serde_json.specs.Find.{get_member}
use Rattle.serde_json.specs.Read.{max_depth, read}
use Rattle.serde_json.specs.View.{items_of}
use Rattle.serde_json.specs.Written.{IsInOrder, comma_if, compact_text, has_float}
use Rattle.ts_fields.specs.Layout.{Row, Held}
use Rattle.ts_fields.specs.Fitting.{fits}
use Rattle.ts_jtree.specs.Attributes.{read_attributes}
use Rattle.ts_jtree.specs.Elements.{keys_known, name_of, nodes_key, nodes_of, read_element}
use Rattle.ts_jtree.specs.Shown.{are_within, element_members, rows_show}
use Rattle.ts_json_tables.specs.HeldTables.{TableValue}
use Rattle.ts_json_tables.specs.ValidTables.{IsOfBytes, IsTable}
use Rattle.ts_section.specs.ValidSection.{IsSection}
use Rattle.ts_section.specs.SectionRun.{IsTableRun}
use Rattle.ts_json_tables.specs.RunTables.{table_of_run}
use Rattle.ts_json_tables.specs.TableElements.{table_shown}
use Rattle.ts_json_tables.specs.TableReading.{read_each, table_read}
use Rattle.ts_json_tables.specs.ToldTables.{IsKept}
use Rattle.tabcomp_core.specs.Compiling.{compiled, of_tables, of_value, root_name, tables_bytes, tables_read, text_read}
use Rattle.tabcomp_core.specs.Decompiling.{IsReadAgain, root_shown, tables_text}
use Rattle.tabcomp_core.specs.ElementTexts.{IsReadWithin, children_text, head_text, tail_text}
use Rattle.tabcomp_core.specs.Faithful.{IsFaithful}
use Rattle.tabcomp_core.specs.ToldAgain.{IsSameAgain}
use Rattle.tabcomp_core.proofs.ChildrenTexts.{has_before, one_more_child}
use Rattle.tabcomp_core.proofs.PlainRoot.{TablesPlain, root_shallow}
use Rattle.tabcomp_core.proofs.ReadWithin.{compact_read, within_from_text}
use Rattle.tabcomp_core.proofs.RootText.{root_text, root_within}
use Rattle.tabcomp_core.proofs.TablesTold.{runs_same_again}

-- what the layer below ensures of an element without rows that is shown
pub record RootShows (ms : Members) (called : List ℕ) (nodes : Items) : Type 0 where
  pub name : name_of ms ≡ Ok called
  pub keys : keys_known [] ms ms ≡ Ok []
  pub values : read_attributes [] ms ≡ Ok []
  pub children : get_member nodes_key ms ≡ Some (array nodes)

element_again : (ms : Members) (called : List ℕ) (nodes : Items) → RootShows ms called nodes
    → read_element called [] (object ms) ≡ Ok ([], nodes)
unfolding read_element nodes_of
element_again ms called nodes shows =
    rw (shows.name, (bytes_decides called called).1 refl, shows.keys, shows.values, shows.children) refl

each_again : (place : ℕ) (runs : List (List (List ℕ))) → All IsReadAgain runs
    → read_each table_read place (items_of (map table_shown (map table_of_run runs))) ≡ Ok (map table_of_run runs)
unfolding read_each
each_again place [] again = refl
each_again place (run ∷ runs) again =
    rw (All-head IsReadAgain run runs again, each_again (place + 1) runs (All-tail IsReadAgain run runs again)) refl

tables_again : (ms : Members) (runs : List (List (List ℕ))) → RootShows ms root_name (items_of (map table_shown (map table_of_run runs)))
    → All IsReadAgain runs → tables_read (object ms) ≡ Ok (map table_of_run runs)
unfolding tables_read
tables_again ms runs shows again =
    rw (element_again ms root_name (items_of (map table_shown (map table_of_run runs))) shows) (each_again 0 runs again)

text_again : (text : List ℕ) (ms : Members) (runs : List (List (List ℕ))) → is_utf8 text ≡ true → read text ≡ Some (object ms)
    → RootShows ms root_name (items_of (map table_shown (map table_of_run runs))) → All IsReadAgain runs
    → compiled text ≡ tables_bytes 0 (map table_of_run runs)
text_again text ms runs utf8 is shows again =
    ap of_value (ap text_read (cond-true (is_utf8 text) (Some text) None utf8) ∙ is) ∙ ap of_tables (tables_again ms runs shows again)

pub run_again : ((t : TableValue) → IsTable t → IsOfBytes t → table_read (table_shown t) ≡ Ok t)
    → ((run : List (List ℕ)) → All (λ s. IsSection s) run → IsOfBytes (table_of_run run))
    → (run : List (List ℕ)) (t : TableValue) → t ≡ table_of_run run → IsTable t → All (λ s. IsSection s) run → IsReadAgain run
run_again shown bytes run t same valid sections = shown (table_of_run run) (subst IsTable same valid) (bytes run sections)

pub run_kept : ((run : List (List ℕ)) → IsTableRun run → All (λ s. IsSection s) run → IsTable (table_of_run run) → IsKept run)
    → (run : List (List ℕ)) (t : TableValue) → t ≡ table_of_run run → IsTable t → IsTableRun run → All (λ s. IsSection s) run → IsKept run
run_kept law run t same valid whole sections = law run whole sections (subst IsTable same valid)

-- ---- answers that rest on others

pub always : {A E P : Type 0} (r : Result A E) → P → IfOk r (λ x. P)
always (Ok x) p = p
always (Err fault) p = tt

-- ---- the text of one table

pub text_is : {E : Type 0} (d seen : Data) (r : Result (String Global) E) → seen ≡ d → has_float d ≡ false
    → IfOk r (λ s. has_float seen ≡ false → string_bytes s ≡ compact_text seen) → IfOk r (λ s. string_bytes s ≡ compact_text d)
text_is d seen (Ok s) is whole told = told (ap has_float is ∙ whole) ∙ ap compact_text is
text_is d seen (Err fault) is whole told = tt

pub faithful_is : {E : Type 0} (run : List (List ℕ)) (seen : Data) (r : Result (String Global) E) → TablesPlain → IsReadAgain run → IsKept run
    → seen ≡ table_shown (table_of_run run) → IfOk r (λ s. IsInOrder (string_bytes s) seen)
    → IfOk r (λ s. depth seen ≤ max_depth → read (string_bytes s) ≡ Some seen) → IfOk r (λ s. IsFaithful run)
faithful_is run seen (Ok s) law again kept is order back =
    let d : Data = table_shown (table_of_run run) in
    let small : depth d ≤ max_depth = omega (arith, law.shallow (table_of_run run)) in
    let shallow : depth seen ≤ max_depth = subst (λ x. depth x ≤ max_depth) (sym is) small in
    record {
      again = again;
      kept = kept;
      within = subst IsReadWithin is (within_from_text (string_bytes s) seen (ap has_float is ∙ law.whole (table_of_run run)) shallow order (back shallow));
    }
faithful_is run seen (Err fault) law again kept is order back = tt

-- ---- the texts of tables one after another

-- the elements of the tables of runs
abbrev pub shown_runs : List (List (List ℕ)) → List Data
shown_runs runs = map table_shown (map table_of_run runs)

has_before-shown : (later : Bool) (runs : List (List (List ℕ))) → has_before later (shown_runs runs) ≡ has_before later runs
has_before-shown later [] = refl
has_before-shown later (run ∷ runs) = refl

has_before-more : {A : Type 0} (later : Bool) (xs : List A) (x : A) → has_before later (xs ++ x ∷ []) ≡ true
has_before-more later [] x = refl
has_before-more later (y ∷ ys) x = refl

taken_more : (runs : List (List (List ℕ))) (i : ℕ) (run : List (List ℕ)) → i < length runs → run ≡ get_or runs i run
    → take (i + 1) runs ≡ take i runs ++ run ∷ []
taken_more runs i run inside at = take_more runs i run inside ∙ ap (λ r. take i runs ++ r ∷ []) (sym at)

pub later_more : (runs : List (List (List ℕ))) (i : ℕ) (run : List (List ℕ)) → i < length runs → run ≡ get_or runs i run
    → true ≡ has_before false (take (i + 1) runs)
later_more runs i run inside at = sym (ap (has_before false) (taken_more runs i run inside at) ∙ has_before-more false (take i runs) run)

pub text_more : (runs : List (List (List ℕ))) (i : ℕ) (run : List (List ℕ)) (later : Bool) (old new : List ℕ) → i < length runs → run ≡ get_or runs i run
    → later ≡ has_before false (take i runs) → new ≡ old ++ (comma_if later ++ compact_text (table_shown (table_of_run run)))
    → old ≡ head_text ++ children_text false (shown_runs (take i runs)) → new ≡ head_text ++ children_text false (shown_runs (take (i + 1) runs))
text_more runs i run later old new inside at before grown so_far =
    let ds : List Data = shown_runs (take i runs) in
    let d : Data = table_shown (table_of_run run) in
    let more : shown_runs (take (i + 1) runs) ≡ ds ++ d ∷ [] =
    ap shown_runs (taken_more runs i run inside at) ∙ ap (map table_shown) (map-append table_of_run (take i runs) (run ∷ []))
    ∙ map-append table_shown (map table_of_run (take i runs)) (table_of_run run ∷ []) in
    grown ∙ ap (λ l. l ++ (comma_if later ++ compact_text d)) so_far
    ∙ ap (λ b. (head_text ++ children_text false ds) ++ (comma_if b ++ compact_text d)) (before ∙ sym (has_before-shown false (take i runs)))
    ∙ append_assoc head_text (children_text false ds) (comma_if (has_before false ds) ++ compact_text d)
    ∙ ap (λ l. head_text ++ l) (sym (ap (children_text false) more ∙ one_more_child false ds d))

pub all_taken : (P : List (List ℕ) → Type 0) (runs : List (List (List ℕ))) (i : ℕ) → length runs ≤ i → All P (take i runs) → All P runs
all_taken P runs i all are = subst (All P) (take_all i runs all) are

-- ---- the text of a root

-- what the layer below ensures of elements without rows
pub record ElementsShow : Type 0 where
  pub name : (rs : List Row) (called : List ℕ) (nodes : Option Data) (values : List Held) → rows_show rs ≡ true
      → name_of (element_members rs called nodes values) ≡ Ok called
  pub keys : (rs : List Row) (called : List ℕ) (nodes : Option Data) (values : List Held) → rows_show rs ≡ true
      → keys_known rs (element_members rs called nodes values) (element_members rs called nodes values) ≡ Ok []
  pub values : (rs : List Row) (called : List ℕ) (nodes : Option Data) (values : List Held) → rows_show rs ≡ true → fits rs values ≡ true
      → are_within rs values ≡ true → read_attributes rs (element_members rs called nodes values) ≡ Ok values
  pub children : (rs : List Row) (called : List ℕ) (nodes : Option Data) (values : List Held) → rows_show rs ≡ true
      → get_member nodes_key (element_members rs called nodes values) ≡ nodes

root_shows : ElementsShow → (nodes : Items) → RootShows (element_members [] root_name (Some (array nodes)) []) root_name nodes
unfolding fits are_within
root_shows law nodes = record {
  name = law.name [] root_name (Some (array nodes)) [] refl;
  keys = law.keys [] root_name (Some (array nodes)) [] refl;
  values = law.values [] root_name (Some (array nodes)) [] refl refl refl;
  children = law.children [] root_name (Some (array nodes)) [] refl;
}

pub text_whole : (runs : List (List (List ℕ))) (front text : List ℕ) → front ≡ head_text ++ children_text false (shown_runs runs)
    → text ≡ front ++ tail_text → text ≡ tables_text (map table_of_run runs)
text_whole runs front text is grown =
    grown ∙ ap (λ l. l ++ tail_text) is ∙ append_assoc head_text (children_text false (shown_runs runs)) tail_text ∙ sym (root_text (map table_of_run runs))

each_within : (runs : List (List (List ℕ))) → All IsFaithful runs → All IsReadWithin (shown_runs runs)
each_within [] faithful = All-nil IsReadWithin
each_within (run ∷ runs) faithful =
    All-cons IsReadWithin (table_shown (table_of_run run)) (shown_runs runs) (All-head IsFaithful run runs faithful).within
    (each_within runs (All-tail IsFaithful run runs faithful))

each_read_again : (runs : List (List (List ℕ))) → All IsFaithful runs → All IsReadAgain runs
each_read_again [] faithful = All-nil IsReadAgain
each_read_again (run ∷ runs) faithful =
    All-cons IsReadAgain run runs (All-head IsFaithful run runs faithful).again (each_read_again runs (All-tail IsFaithful run runs faithful))

each_kept : (runs : List (List (List ℕ))) → All IsFaithful runs → All IsKept runs
each_kept [] faithful = All-nil IsKept
each_kept (run ∷ runs) faithful =
    All-cons IsKept run runs (All-head IsFaithful run runs faithful).kept (each_kept runs (All-tail IsFaithful run runs faithful))

pub text_back : TablesPlain → ElementsShow → (runs : List (List (List ℕ))) (text : String Global) → All IsFaithful runs
    → string_bytes text ≡ tables_text (map table_of_run runs) → compiled (string_bytes text) ≡ tables_bytes 0 (map table_of_run runs)
text_back law elements runs text faithful is =
    let ts : List TableValue = map table_of_run runs in
    let nodes : Items = items_of (map table_shown ts) in
    text_again (string_bytes text) (element_members [] root_name (Some (array nodes)) []) runs
    (is_utf8-from_IsUtf8 (string_bytes text) (IsUtf8-string_bytes text))
    (ap read is ∙ compact_read (root_shown ts) (root_shallow law ts) (root_within ts (each_within runs faithful)))
    (root_shows elements nodes) (each_read_again runs faithful)

pub text_same : (runs : List (List (List ℕ))) (text : List ℕ) → All IsFaithful runs → text ≡ tables_text (map table_of_run runs)
    → compiled text ≡ tables_bytes 0 (map table_of_run runs) → IsSameAgain text
text_same runs text faithful is again = runs_same_again runs text (each_kept runs faithful) is again
