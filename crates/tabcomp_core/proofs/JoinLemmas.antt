-- The bytes of tables one after another.
use Rattle.std.proofs.Common.{◌≡◌, ℕ, ◌+◌, ◌<◌, ◌≤◌, List, [], ◌∷◌, ◌++◌, length, take, drop, get_or, map, refl, sym, ap, ◌∙◌, append_assoc, append-nil}
use Rattle.std.specs.Prelude.{Result, Ok, Err}
use Rattle.std.specs.List.{concat}
use Rattle.std.proofs.lemmas.List.{drop_more, drop_all, take_more}
use Rattle.std.proofs.lemmas.List.Folds.{concat-append}
use Rattle.ts_table_rows.specs.declared.fault.TableRefusal.{TableRefusal}
use Rattle.ts_json_tables.specs.declared.table.Table.{Table}
use Rattle.ts_json_tables.specs.HeldTables.{TableValue, table_value}
use Rattle.ts_json_tables.specs.RunTables.{sections_of_table}
use Rattle.tabcomp_core.specs.declared.fault.CompileFault.{CompileFault}
use Rattle.tabcomp_core.specs.declared.fault.CompileFault.TheVariants.{NotJson, Json, TooLarge, NoMemory}
use Rattle.tabcomp_core.specs.Compiling.{Refuses, TakesTable, before_others, tables_bytes}

abbrev pub with_bytes : List ℕ → Result (List ℕ) CompileFault → Result (List ℕ) CompileFault
with_bytes front (Ok more) = Ok (front ++ more)
with_bytes front (Err fault) = Err fault

bytes_more : (front row : List ℕ) (ss : List (List ℕ)) (place : ℕ) (r : Result (List ℕ) CompileFault)
    → with_bytes front (before_others place (Ok ss) r) ≡ with_bytes (front ++ concat ss) r
bytes_more front row ss place (Ok more) = ap Ok (sym (append_assoc front (concat ss) more))
bytes_more front row ss place (Err fault) = refl

first_table : (front : List ℕ) (place : ℕ) (t : TableValue) (ts : List TableValue) (ss : List (List ℕ)) → sections_of_table t ≡ Ok ss
    → with_bytes front (tables_bytes place (t ∷ ts)) ≡ with_bytes (front ++ concat ss) (tables_bytes (place + 1) ts)
unfolding tables_bytes
first_table front place t ts ss is = rw is (bytes_more front [] ss place (tables_bytes (place + 1) ts))

first_refused : (front : List ℕ) (place : ℕ) (t : TableValue) (ts : List TableValue) (refusal : TableRefusal) → sections_of_table t ≡ Err refusal
    → with_bytes front (tables_bytes place (t ∷ ts)) ≡ Err (TooLarge place refusal)
unfolding tables_bytes
first_refused front place t ts refusal is = rw is refl

tables_left : (tables : List Table) (i : ℕ) (t : Table) → i < length tables → t ≡ get_or tables i t
    → map table_value (drop i tables) ≡ table_value t ∷ map table_value (drop (i + 1) tables)
tables_left tables i t inside same =
    ap (map table_value) (drop_more tables i t inside) ∙ sym (ap (λ z. table_value z ∷ map table_value (drop (i + 1) tables)) same)

pub table_goes_on : (tables : List Table) (i : ℕ) (t : Table) (front new : List ℕ) (whole : Result (List ℕ) CompileFault) → i < length tables
    → t ≡ get_or tables i t → (ss : List (List ℕ)) → sections_of_table (table_value t) ≡ Ok ss → new ≡ front ++ concat ss
    → with_bytes front (tables_bytes i (map table_value (drop i tables))) ≡ whole
    → with_bytes new (tables_bytes (i + 1) (map table_value (drop (i + 1) tables))) ≡ whole
table_goes_on tables i t front new whole inside same ss is grown so_far =
    ap (λ b. with_bytes b (tables_bytes (i + 1) (map table_value (drop (i + 1) tables)))) grown
    ∙ sym (first_table front i (table_value t) (map table_value (drop (i + 1) tables)) ss is)
    ∙ sym (ap (λ l. with_bytes front (tables_bytes i l)) (tables_left tables i t inside same)) ∙ so_far

pub table_stops : (tables : List Table) (i : ℕ) (t : Table) (front new : List ℕ) (whole : Result (List ℕ) CompileFault) (fault : CompileFault)
    → i < length tables → t ≡ get_or tables i t → TakesTable i front new (sections_of_table (table_value t)) (Err fault)
    → with_bytes front (tables_bytes i (map table_value (drop i tables))) ≡ whole → Refuses fault whole
table_stops tables i t front new whole NotJson inside same takes so_far = absurd takes
table_stops tables i t front new whole (Json fault) inside same takes so_far = absurd takes
table_stops tables i t front new whole (TooLarge at refusal) inside same takes so_far =
    sym so_far ∙ ap (λ l. with_bytes front (tables_bytes i l)) (tables_left tables i t inside same)
    ∙ first_refused front i (table_value t) (map table_value (drop (i + 1) tables)) refusal takes.1
    ∙ ap (λ n. Err (TooLarge n refusal)) (sym takes.0)
table_stops tables i t front new whole NoMemory inside same takes so_far = tt

pub tables_done : (tables : List Table) (i : ℕ) (front : List ℕ) (whole : Result (List ℕ) CompileFault) → length tables ≤ i
    → with_bytes front (tables_bytes i (map table_value (drop i tables))) ≡ whole → whole ≡ Ok front
unfolding tables_bytes
tables_done tables i front whole all so_far =
    sym so_far ∙ ap (λ l. with_bytes front (tables_bytes i (map table_value l))) (drop_all i tables all) ∙ ap Ok (append-nil front)

pub tables_begin : (r : Result (List ℕ) CompileFault) → with_bytes [] r ≡ r
tables_begin (Ok more) = refl
tables_begin (Err fault) = refl

-- the bytes of one section more
pub section_more : (init old new : List ℕ) (sections : List (List ℕ)) (i : ℕ) (s row : List ℕ) → i < length sections
    → s ≡ get_or sections i s → row ≡ s → new ≡ old ++ row → old ≡ init ++ concat (take i sections)
    → new ≡ init ++ concat (take (i + 1) sections)
section_more init old new sections i s row inside same is grown so_far =
    let more : concat (take (i + 1) sections) ≡ concat (take i sections) ++ s =
    ap concat (take_more sections i s inside) ∙ concat-append (take i sections) (get_or sections i s ∷ [])
    ∙ ap (λ l. concat (take i sections) ++ l) (append-nil (get_or sections i s) ∙ sym same) in
    grown ∙ ap (λ l. l ++ row) so_far ∙ ap (λ l. (init ++ concat (take i sections)) ++ l) is
    ∙ append_assoc init (concat (take i sections)) s ∙ ap (λ l. init ++ l) (sym more)
