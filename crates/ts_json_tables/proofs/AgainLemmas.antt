-- Children that are shown are read again.
use Rattle.std.proofs.Common.{◌≡◌, ℕ, ◌+◌, ◌<◌, ◌≤◌, Bool, true, List, [], ◌∷◌, ◌++◌, length, refl}
use Rattle.std.specs.Prelude.{Option, Some, Ok, bytes_eq}
use Rattle.std.proofs.lemmas.Slice.Eq.{bytes_eq-Decides}
use Rattle.serde_json.specs.Data.{Data}
use Rattle.serde_json.specs.Find.{get_member}
use Rattle.serde_json.specs.View.{items_of}
use Rattle.ts_bits.specs.TaggedBody.{TaggedBody}
use Rattle.ts_fields.specs.Bits.{bits_of}
use Rattle.ts_fields.specs.Bodies.{Holding, Page, page_exact, page_fits, read_page, spell_page}
use Rattle.ts_fields.specs.Fitting.{are_bytes, fits}
use Rattle.ts_fields.specs.Layout.{Row, Held}
use Rattle.ts_jtree.specs.Attributes.{read_attributes}
use Rattle.ts_jtree.specs.Elements.{keys_known, name_of, nodes_key}
use Rattle.ts_jtree.specs.Faults.{Reading}
use Rattle.ts_jtree.specs.Shown.{are_within, element_members, rows_show}
use Rattle.ts_json_descr.specs.DescrElements.{descr_shown, items_shown}
use Rattle.ts_json_descr.specs.DescrReading.{descr_read, read_holding}
use Rattle.ts_json_descr.proofs.PageLemmas.{items_show}
use Rattle.ts_table_rows.specs.BodySpelling.{bytes_of}
use Rattle.ts_json_tables.specs.TableReading.{read_each}
use Rattle.ts_json_tables.proofs.ShortLemmas.{OffsetLaws}

-- what the laws of elements, descriptors and bits say, by the contracts of the crates below
pub record Laws : Type 0 where
  pub name : (rs : List Row) (called : List ℕ) (nodes : Option Data) (values : List Held) → rows_show rs ≡ true → name_of (element_members rs called nodes values) ≡ Ok called
  pub keys : (rs : List Row) (called : List ℕ) (nodes : Option Data) (values : List Held) → rows_show rs ≡ true → keys_known rs (element_members rs called nodes values) (element_members rs called nodes values) ≡ Ok []
  pub values : (rs : List Row) (called : List ℕ) (nodes : Option Data) (values : List Held) → rows_show rs ≡ true → fits rs values ≡ true → are_within rs values ≡ true → read_attributes rs (element_members rs called nodes values) ≡ Ok values
  pub children : (rs : List Row) (called : List ℕ) (nodes : Option Data) (values : List Held) → rows_show rs ≡ true → get_member nodes_key (element_members rs called nodes values) ≡ nodes
  pub descr : (d : TaggedBody) → d.tag < 256 → are_bytes d.body ≡ true → length d.body ≤ 255 → descr_read (descr_shown d) ≡ Ok (d.tag, bits_of d.body)
  pub bytes : (row : List ℕ) (bits : List Bool) → are_bytes row ≡ true → bits_of row ≡ bits → row ≡ bytes_of bits
  pub written : (p : Page) (from : List Bool) (h : Holding) → page_exact p ≡ true → read_page p from ≡ Some h → (from ≡ spell_page p h) × (page_fits p h ≡ true)
  pub holding : (p : Page) (h : Holding) → rows_show p.head ≡ true → items_show p.items ≡ true → are_within p.head h.head ≡ true → page_fits p h ≡ true → read_holding p (element_members p.head p.name (items_shown p.items h.items) h.head) ≡ Ok h
  pub offsets : OffsetLaws

-- each element is read as its value
abbrev pub AllRead : {A : Type 0} → (Data → Reading A) → List Data → List A → Type 0
AllRead read [] [] = Unit {0}
AllRead read [] (x ∷ xs) = ⊥
AllRead read (d ∷ ds) [] = ⊥
AllRead read (d ∷ ds) (x ∷ xs) = (read d ≡ Ok x) × AllRead read ds xs

pub each_read : {A : Type 0} (read : Data → Reading A) (place : ℕ) (ds : List Data) (xs : List A)
    → AllRead read ds xs → read_each read place (items_of ds) ≡ Ok xs
unfolding read_each
each_read read place [] [] all = refl
each_read read place [] (x ∷ xs) all = absurd all
each_read read place (d ∷ ds) [] all = absurd all
each_read read place (d ∷ ds) (x ∷ xs) all = rw (all.0, each_read read (place + 1) ds xs all.1) refl

pub all_append : {A : Type 0} (read : Data → Reading A) (ds es : List Data) (xs ys : List A)
    → AllRead read ds xs → AllRead read es ys → AllRead read (ds ++ es) (xs ++ ys)
all_append read [] es [] ys first later = later
all_append read [] es (x ∷ xs) ys first later = absurd first
all_append read (d ∷ ds) es [] ys first later = absurd first
all_append read (d ∷ ds) es (x ∷ xs) ys first later = (first.0, all_append read ds es xs ys first.1 later)

pub self_name : (name : List ℕ) → bytes_eq name name ≡ true
self_name name = (bytes_eq-Decides name name).1 refl
