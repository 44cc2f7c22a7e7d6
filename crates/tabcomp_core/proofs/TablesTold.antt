-- The sections of tables one after another are the runs of the tables that they give.
use Rattle.std.proofs.Common.{◌≡◌, ℕ, ◌+◌, List, [], ◌∷◌, ◌++◌, map, refl, sym, ap, ◌∙◌, subst}
use Rattle.std.specs.Prelude.{All, Option, Some, None, Result, Ok, Err}
use Rattle.std.specs.List.{concat}
use Rattle.std.proofs.lemmas.List.Elements.{All-append, All-cons, All-head, All-nil, All-tail}
use Rattle.std.proofs.lemmas.List.Folds.{concat-append}
use Rattle.serde_json.specs.Data.{Data, Items, no_items, item}
use Rattle.ts_section.specs.ValidSection.{IsSection}
use Rattle.ts_section.specs.SectionRun.{IsTableRun}
use Rattle.ts_fields.specs.Layout.{Held}
use Rattle.ts_jtree.specs.Elements.{read_element}
use Rattle.ts_jtree.specs.Faults.{Reading, at_child, ◌>>=◌}
use Rattle.ts_table_rows.specs.declared.fault.TableRefusal.{TableRefusal}
use Rattle.ts_table_rows.specs.Filling.{join}
use Rattle.ts_json_tables.specs.HeldTables.{TableValue}
use Rattle.ts_json_tables.specs.ValidTables.{IsOfBytes, IsTable}
use Rattle.ts_json_tables.specs.RunTables.{sections_of_table, table_of_run}
use Rattle.ts_json_tables.specs.TableReading.{read_each, table_read}
use Rattle.ts_json_tables.specs.ToldTables.{IsKept, TellsTable, told_again}
use Rattle.tabcomp_core.specs.declared.fault.CompileFault.{CompileFault}
use Rattle.tabcomp_core.specs.Compiling.{before_others, compiled, json_of, of_tables, of_value, root_name, tables_bytes, tables_read}
use Rattle.tabcomp_core.specs.Decompiling.{decompiled, tables_text, text_or_fault}
use Rattle.tabcomp_core.specs.TableRuns.{of_runs, of_sections}
use Rattle.tabcomp_core.specs.ToldAgain.{IsSameAgain, IsToldAgain}
use Rattle.tabcomp_core.proofs.CutAgain.{sections_cut}
use Rattle.tabcomp_core.proofs.ToldRuns.{only_runs}

-- bytes are the valid sections of whole runs, whose tables are these
record AreTold (told : List TableValue) (bytes : List ℕ) : Type 0 where
  pub runs : List (List (List ℕ))
  pub joined : concat (join runs) ≡ bytes
  pub whole : All IsTableRun runs
  pub valid : All (λ s. IsSection s) (join runs)
  pub tables : map table_of_run runs ≡ told

told_text : (told : List TableValue) (bytes : List ℕ) → AreTold told bytes → decompiled bytes ≡ Ok (tables_text told)
told_text told bytes are =
    let ss : List (List ℕ) = join are.runs in
    ap decompiled (sym are.joined) ∙ ap (λ r. text_or_fault (of_sections r)) (sections_cut ss are.valid)
    ∙ ap (λ r. text_or_fault (of_runs ss r)) (only_runs ss are.runs (record { joined = refl; whole = are.whole }))
    ∙ ap (λ ts. Ok (tables_text ts)) are.tables

-- the sections of a table, where it has some, give what it becomes
abbrev Tells : (TableValue → TableValue) → TableValue → Type 0
Tells again t = (ss : List (List ℕ)) → sections_of_table t ≡ Ok ss → TellsTable (again t) ss

same_bytes : (x y : List ℕ) → ◌≡◌ {A = Result (List ℕ) CompileFault} (Ok x) (Ok y) → x ≡ y
same_bytes x y is = cc is

one_told : (place : ℕ) (t : TableValue) (told : List TableValue) (bytes : List ℕ) (first : Result (List (List ℕ)) TableRefusal) (more : Result (List ℕ) CompileFault)
    → ((ss : List (List ℕ)) → first ≡ Ok ss → TellsTable t ss) → ((rest : List ℕ) → more ≡ Ok rest → AreTold told rest)
    → before_others place first more ≡ Ok bytes → AreTold (t ∷ told) bytes
one_told place t told bytes (Err refusal) more tells behind is = cc is
one_told place t told bytes (Ok ss) (Err fault) tells behind is = cc is
one_told place t told bytes (Ok ss) (Ok rest) tells behind is =
    let one = tells ss refl in
    let are = behind rest refl in
    record {
      runs = ss ∷ are.runs;
      joined = concat-append ss (join are.runs) ∙ ap (λ l. concat ss ++ l) are.joined ∙ same_bytes (concat ss ++ rest) bytes is;
      whole = All-cons IsTableRun ss are.runs one.whole are.whole;
      valid = All-append (λ s. IsSection s) ss (join are.runs) one.valid are.valid;
      tables = ap (λ x. x ∷ map table_of_run are.runs) one.table ∙ ap (λ l. t ∷ l) are.tables;
    }

tables_told : (again : TableValue → TableValue) (place : ℕ) (ts : List TableValue) (bytes : List ℕ) → All (Tells again) ts
    → tables_bytes place ts ≡ Ok bytes → AreTold (map again ts) bytes
unfolding tables_bytes
tables_told again place [] bytes tell is =
    subst (AreTold []) (same_bytes [] bytes is)
    (record { runs = []; joined = refl; whole = All-nil IsTableRun; valid = All-nil (λ s. IsSection s); tables = refl })
tables_told again place (t ∷ ts) bytes tell is =
    one_told place (again t) (map again ts) bytes (sections_of_table t) (tables_bytes (place + 1) ts) (All-head (Tells again) t ts tell)
    (λ rest. tables_told again (place + 1) ts rest (All-tail (Tells again) t ts tell)) is

-- ---- the tables of a text

-- what the layer below ensures of tables that are read, and of the sections of valid tables
abbrev pub ReadValid : Type 0
ReadValid = (value : Data) (t : TableValue) → table_read value ≡ Ok t → IsTable t × IsOfBytes t

abbrev pub ValidTell : Type 0
ValidTell = (t : TableValue) (ss : List (List ℕ)) → IsTable t → IsOfBytes t → sections_of_table t ≡ Ok ss → TellsTable (told_again t) ss

same_tables : (x y : List TableValue) → ◌≡◌ {A = Reading (List TableValue)} (Ok x) (Ok y) → x ≡ y
same_tables x y is = cc is

each_tells : ReadValid → ValidTell → (place : ℕ) (nodes : Items) (ts : List TableValue) → read_each table_read place nodes ≡ Ok ts → All (Tells told_again) ts
unfolding read_each
each_tells law tell place no_items ts is = subst (All (Tells told_again)) (same_tables [] ts is) (All-nil (Tells told_again))
each_tells law tell place (item value more) ts is = by_first (table_read value) (read_each table_read (place + 1) more) (law value) (each_tells law tell (place + 1) more) is
  where
    by_first : (first : Reading TableValue) (others : Reading (List TableValue)) → ((t : TableValue) → first ≡ Ok t → IsTable t × IsOfBytes t)
        → ((xs : List TableValue) → others ≡ Ok xs → All (Tells told_again) xs) → (at_child place first >>= λ x. others >>= λ xs. Ok (x ∷ xs)) ≡ Ok ts
        → All (Tells told_again) ts
    by_first (Err fault) others here behind is = cc is
    by_first (Ok t) (Err fault) here behind is = cc is
    by_first (Ok t) (Ok xs) here behind is =
        let valid = here t refl in
        subst (All (Tells told_again)) (same_tables (t ∷ xs) ts is) (All-cons (Tells told_again) t xs (λ ss. tell t ss valid.0 valid.1) (behind xs refl))

root_tells : ReadValid → ValidTell → (value : Data) (ts : List TableValue) → tables_read value ≡ Ok ts → All (Tells told_again) ts
unfolding tables_read
root_tells law tell value ts is = by_root (read_element root_name [] value) is
  where
    by_root : (root : Reading (List Held × Items)) → (root >>= λ r. read_each table_read 0 r.1) ≡ Ok ts → All (Tells told_again) ts
    by_root (Err fault) is = cc is
    by_root (Ok r) is = each_tells law tell 0 r.1 ts is

pub text_told_again : ReadValid → ValidTell → (text sections : List ℕ) → compiled text ≡ Ok sections → IsToldAgain text sections
text_told_again law tell text sections is = by_value (json_of text) refl is
  where
    by_tables : (value : Data) (read : Reading (List TableValue)) → json_of text ≡ Some value → tables_read value ≡ read → of_tables read ≡ Ok sections
        → IsToldAgain text sections
    by_tables value (Err fault) json read is = cc is
    by_tables value (Ok tables) json read is = record {
      value = value;
      tables = tables;
      is_json = json;
      read = read;
      again = told_text (map told_again tables) sections (tables_told told_again 0 tables sections (root_tells law tell value tables read) is);
    }

    by_value : (found : Option Data) → json_of text ≡ found → of_value found ≡ Ok sections → IsToldAgain text sections
    by_value None json is = cc is
    by_value (Some value) json is = by_tables value (tables_read value) json refl is

-- ---- the tables of runs

map_same : (ts : List TableValue) → map (λ t. t) ts ≡ ts
map_same [] = refl
map_same (t ∷ ts) = ap (λ l. t ∷ l) (map_same ts)

kept_tell : (runs : List (List (List ℕ))) → All IsKept runs → All (Tells (λ t. t)) (map table_of_run runs)
kept_tell [] kept = All-nil (Tells (λ t. t))
kept_tell (run ∷ runs) kept =
    All-cons (Tells (λ t. t)) (table_of_run run) (map table_of_run runs) (All-head IsKept run runs kept) (kept_tell runs (All-tail IsKept run runs kept))

pub runs_same_again : (runs : List (List (List ℕ))) (text : List ℕ) → All IsKept runs → text ≡ tables_text (map table_of_run runs)
    → compiled text ≡ tables_bytes 0 (map table_of_run runs) → IsSameAgain text
runs_same_again runs text kept is again sections told =
    let ts : List TableValue = map table_of_run runs in
    told_text (map (λ t. t) ts) sections (tables_told (λ t. t) 0 ts sections (kept_tell runs kept) (sym again ∙ told))
    ∙ ap (λ l. Ok (tables_text l)) (map_same ts) ∙ ap Ok (sym is)
