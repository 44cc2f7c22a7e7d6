-- A table that is shown is read again: its attributes.
use Rattle.std.proofs.Common.{◌≡◌, ℕ, Bool, true, false, List, [], ◌∷◌, ◌++◌, refl, sym, ap, ◌∙◌, subst}
use Rattle.std.specs.Prelude.{Option, Some, None, Ok, is_some, bytes_eq, nat_le, nat_lt, if◌then◌else◌}
use Rattle.std.proofs.lemmas.Bool.{eqb-true}
use Rattle.std.proofs.lemmas.Map.Text.{is_eq-slice_cmp}
use Rattle.std.specs.Ordering.{is_eq, match_ordering, nat_cmp}
use Rattle.std.specs.Cmp.Lexicographic.{slice_cmp}
use Rattle.std.specs.declared.cmp.Ordering.{Ordering}
use Rattle.std.specs.declared.cmp.Ordering.TheVariants.{Less, Equal, Greater}
use Rattle.std.proofs.lemmas.Slice.Eq.{bytes_eq-Decides}
use Rattle.serde_json.specs.Data.{Data, Members, no_members, member}
use Rattle.serde_json.specs.Find.{get_member}
use Rattle.ts_fields.specs.Layout.{Row, Held, number}
use Rattle.ts_jtree.specs.declared.fault.JsonKind.TheVariants.{UnknownKey}
use Rattle.ts_jtree.specs.Attributes.{attribute_of, holds_number, number_at, number_attribute, read_attributes}
use Rattle.ts_jtree.specs.Elements.{is_known, keys_known}
use Rattle.ts_jtree.specs.Faults.{refuse}
use Rattle.ts_table_pages.specs.PatEntries.{entry_item, network_items}
use Rattle.ts_table_pages.specs.PsiPages.{entry_page}
use Rattle.ts_table_rows.specs.BodyReading.{first_number, is_zero}
use Rattle.ts_table_rows.specs.TableFitting.{item_fits, items_fit, numbers_fit}
use Rattle.ts_table_rows.specs.TablePages.{ItemPage}
use Rattle.ts_table_rows.specs.TableValues.{ItemHolding}
use Rattle.ts_json_tables.specs.ElementRows.{extension_row, extension_rows, kept_rows, last_section_number_row, network_key, network_row, network_rows, section_number_row}
use Rattle.ts_json_tables.specs.HeadReading.{read_extension, read_kept, read_network, read_numbers, read_pid}
use Rattle.ts_json_tables.specs.RunTables.{settled_extension}
use Rattle.ts_json_tables.specs.TableElements.{begins_with_zero, extension_values, kept_values, network_values, shown_items}
use Rattle.ts_json_tables.proofs.RowLemmas.{split_read}
use Rattle.ts_json_tables.proofs.ShowLemmas.{IsEntry, is_entry}
use Rattle.ts_json_tables.proofs.StepLemmas.{both, then_ok}
use Rattle.ts_json_tables.proofs.TruthLemmas.{number_again}

-- ---- keys

key_apart : (b : Bool) (key other : List ℕ) → bytes_eq key other ≡ false → slice_cmp nat_cmp key other ≡ Equal → ⊥
key_apart b key other apart same = never (sym (is_eq-slice_cmp key other ∙ apart) ∙ ap is_eq same)
  where
    never : false ≡ true → ⊥
    never is = cc

absent_by : (o : Ordering) (key : List ℕ) (value : Data) (rest : Option Data) → (o ≡ Equal → ⊥) → rest ≡ None
    → match_ordering o rest (Some value) rest ≡ None
absent_by Less key value rest apart none = none
absent_by Equal key value rest apart none = absurd (apart refl)
absent_by Greater key value rest apart none = none

known_more : (b : Bool) (rs : List Row) (ms : Members) (key : List ℕ) (more : Members)
    → (if b then keys_known rs ms more else refuse key UnknownKey) ≡ Ok [] → (b ≡ true) × (keys_known rs ms more ≡ Ok [])
known_more true rs ms key more is = (refl, is)
known_more false rs ms key more is = cc

-- a key that no row knows is absent where all keys are known
pub key_absent : (rs : List Row) (ms more : Members) (key : List ℕ) → is_known rs ms key ≡ false
    → keys_known rs ms more ≡ Ok [] → get_member key more ≡ None
unfolding keys_known
key_absent rs ms no_members key unknown is = refl
key_absent rs ms (member other value more) key unknown is =
    let parts = known_more (is_known rs ms other) rs ms other more is in
    absent_by (slice_cmp nat_cmp key other) key value (get_member key more)
    (λ same. apart (bytes_eq key other) refl same parts.0) (key_absent rs ms more key unknown parts.1)
  where
    never : false ≡ true → ⊥
    never is = cc

    apart : (b : Bool) → bytes_eq key other ≡ b → slice_cmp nat_cmp key other ≡ Equal → is_known rs ms other ≡ true → ⊥
    apart false at same known = key_apart false key other at same
    apart true at same known =
        let e : key ≡ other = (bytes_eq-Decides key other).0 at in
        never (sym unknown ∙ ap (is_known rs ms) e ∙ known)

pub pid_there : (ms : Members) (values : List Held) → read_attributes (network_row ∷ []) ms ≡ Ok values
    → is_some (get_member network_key ms) ≡ true
unfolding read_attributes attribute_of number_attribute
pid_there ms values is =
    then_ok (holds_number (number_attribute None None 8191 network_key ms)) _ values is (λ v was later.
    then_ok (number_attribute None None 8191 network_key ms) _ v was (λ n a b1. go (get_member network_key ms) n a))
  where
    go : (o : Option Data) (n : ℕ) → number_at None None 8191 network_key o ≡ Ok n → is_some o ≡ true
    go None n is = cc
    go (Some value) n is = refl

-- ---- attributes one after another

pub extension_again : (called : List ℕ) (n : ℕ) (ms : Members) → n ≡ settled_extension called n
    → read_attributes (extension_rows called) ms ≡ Ok (extension_values called n) → read_extension called ms ≡ Ok n
unfolding read_extension
extension_again [] n ms settled is = ap Ok (sym settled)
extension_again (c ∷ cs) n ms settled is = number_again (extension_row (c ∷ cs)) ms n is

pub kept_again : (kept : Bool) (n : Option (ℕ × ℕ)) (ms : Members) → numbers_fit kept n ≡ true
    → read_attributes (kept_rows kept) ms ≡ Ok (kept_values n) → read_kept kept ms ≡ Ok n
unfolding read_kept read_numbers
kept_again false None ms fit is = refl
kept_again false (Some n) ms fit is = cc
kept_again true None ms fit is = cc
kept_again true (Some n) ms fit is =
    let parts = split_read (section_number_row ∷ []) (last_section_number_row ∷ []) (number n.0 ∷ []) (number n.1 ∷ []) ms refl is in
    let order = both (nat_le n.0 n.1) (nat_lt n.1 256) fit in
    rw (number_again section_number_row ms n.0 parts.0, number_again last_section_number_row ms n.1 parts.1, order.0) refl

-- ---- the entry with number 0

pub record Network (one_zero : Bool) (items : List ItemHolding) : Type 0 where
  pub pid : Option ℕ
  pub joined : network_items pid ++ shown_items one_zero items ≡ items
  pub there : is_some pid ≡ begins_with_zero one_zero items
  pub values : (n : ℕ) → pid ≡ Some n → network_values one_zero items ≡ number n ∷ []

network_none : (one_zero : Bool) (items : List ItemHolding) → begins_with_zero one_zero items ≡ false → Network one_zero items
network_none one_zero items is = record {
  pid = None;
  joined = rw is refl;
  there = sym is;
  values = λ n same. cc;
}

network_first : (x : ItemHolding) (xs : List ItemHolding) → IsEntry x → is_zero (first_number x.values) ≡ true → Network true (x ∷ xs)
network_first x xs e zero_is =
    let id : e.id ≡ 0 = eqb-true e.id 0 (sym (ap (λ y. is_zero (first_number y.values)) e.same) ∙ zero_is) in
    let same : x ≡ entry_item 0 e.pid = e.same ∙ ap (λ n. entry_item n e.pid) id in
    subst (λ y. Network true (y ∷ xs)) (sym same) (record {
      pid = Some e.pid;
      joined = refl;
      there = refl;
      values = λ n at. let f : e.pid ≡ n = some_same e.pid n at in ap (λ m. number m ∷ []) f;
    })
  where
    some_same : (a b : ℕ) → ◌≡◌ {A = Option ℕ} (Some a) (Some b) → a ≡ b
    some_same a b is = cc

pub network_of : (one_zero : Bool) (i : Option ItemPage) (items : List ItemHolding) → (one_zero ≡ true → i ≡ Some entry_page)
    → items_fit i items ≡ true → Network one_zero items
network_of false i [] entries fit = network_none false [] refl
network_of false i (x ∷ xs) entries fit = network_none false (x ∷ xs) refl
network_of true i [] entries fit = network_none true [] refl
network_of true i (x ∷ xs) entries fit = go (is_zero (first_number x.values)) refl
  where
    first : items_fit (Some entry_page) (x ∷ xs) ≡ true
    first = subst (λ j. items_fit j (x ∷ xs) ≡ true) (entries refl) fit

    go : (b : Bool) → is_zero (first_number x.values) ≡ b → Network true (x ∷ xs)
    go true at = network_first x xs (is_entry x (both (item_fits entry_page x) _ first).0) at
    go false at = network_none true (x ∷ xs) at

pub network_again : (pid : Option ℕ) (ms : Members) (values : List Held) → ((n : ℕ) → pid ≡ Some n → values ≡ number n ∷ [])
    → read_attributes (network_rows (is_some pid)) ms ≡ Ok values → read_network (is_some pid) ms ≡ Ok pid
unfolding read_network read_pid
network_again None ms values are is = refl
network_again (Some n) ms values are is = rw (number_again network_row ms n (is ∙ ap Ok (are n refl))) refl
