-- Tables that are read are valid, of a page or given by their bytes.
use Rattle.std.proofs.Common.{◌≡◌, ℕ, ◌<◌, Bool, true, false, List, [], ◌∷◌, ◌++◌, length, take, drop, refl, sym, ap, ◌∙◌, arith, subst}
use Rattle.std.specs.Prelude.{Option, Some, None, Result, Ok, Err, IfOk, bytes_eq, nat_lt, if◌then◌else◌}
use Rattle.std.specs.List.{list_all}
use Rattle.std.proofs.Math.Seq.{take-append_seam, drop-append_seam}
use Rattle.std.proofs.lemmas.Bool.{and_from, lt-ltb}
use Rattle.serde_json.specs.Data.{Members}
use Rattle.ts_fields.specs.Fitting.{fits}
use Rattle.ts_fields.specs.Layout.{Held}
use Rattle.ts_jtree.specs.declared.fault.ReadRefusal.{ReadRefusal}
use Rattle.ts_jtree.specs.Attributes.{read_attributes}
use Rattle.ts_jtree.specs.Elements.{keys_known, nodes_of}
use Rattle.ts_jtree.specs.Faults.{Answers, Reading}
use Rattle.ts_table_pages.specs.PsiPages.{entry_page}
use Rattle.ts_table_rows.specs.BodySpelling.{held_count}
use Rattle.ts_table_rows.specs.TableFitting.{head_fits, items_fit, own_fit, values_fit}
use Rattle.ts_table_rows.specs.TablePages.{ItemPage, TablePage, has_id}
use Rattle.ts_table_rows.specs.TableSections.{Thing, items_in, owns_in}
use Rattle.ts_table_rows.specs.TableValues.{ItemHolding}
use Rattle.ts_json_tables.specs.declared.table.Table.{Table}
use Rattle.ts_json_tables.specs.ElementRows.{current_row, element_rows, extension_row, long_name, network_row, short_name, version_row}
use Rattle.ts_json_tables.specs.HeadReading.{Heading, names_network, read_extension, read_heading, read_id, read_kept, read_network, read_number, read_pid, read_truth}
use Rattle.ts_json_tables.specs.HeldTables.{TableValue, laid, table_value}
use Rattle.ts_json_tables.specs.KnownPages.{page_named}
use Rattle.ts_json_tables.specs.ValidTables.{IsLaid, IsTable, items_within}
use Rattle.ts_json_tables.specs.RunTables.{settled_extension}
use Rattle.ts_json_tables.specs.TableReading.{has_own, holding_of, parted, read_by_name, read_child, read_each, read_known, read_laid, read_long, read_short}
use Rattle.ts_json_tables.proofs.EntryLemmas.{Settled, settled_free, settled_none, settled_some}
use Rattle.ts_json_tables.proofs.KnownLemmas.{Facts, named_facts}
use Rattle.ts_json_tables.proofs.ShortValid.{short_named_valid}
use Rattle.ts_json_tables.proofs.ValidLemmas.{ItemsGood, child_good, items_good, kept_good, long_valid, own_good_fit, short_valid, thing_good}
use Rattle.ts_json_tables.proofs.NumberLemmas.{number_bounded}
use Rattle.ts_json_tables.proofs.ReadLemmas.{each_all, read_good}
use Rattle.ts_json_tables.proofs.RowLemmas.{read_count}
use Rattle.ts_json_tables.proofs.StepLemmas.{same_ok, then_ok}

extension_good : (called : List ℕ) (ms : Members) (n : ℕ) → read_extension called ms ≡ Ok n
    → (n < 65536) × (n ≡ settled_extension called n)
unfolding read_extension
extension_good [] ms n is = let e : 0xFFFF ≡ n = same_ok 0xFFFF n is in (omega (arith, e), sym e)
extension_good (c ∷ cs) ms n is = (number_bounded (extension_row (c ∷ cs)) ms n refl is, refl)

network_good : (there : Bool) (ms : Members) (n : Option ℕ) → read_network there ms ≡ Ok n
    → (pid : ℕ) → n ≡ Some pid → pid < 8192
unfolding read_network read_pid
network_good false ms n is pid same = let e : None ≡ n = same_ok None n is in cc
network_good true ms n is pid same =
    then_ok (read_number network_row ms) _ n is (λ m was later.
    let e : Some m ≡ Some pid = same_ok (Some m) n later ∙ same in
    let small : m < 8192 = number_bounded network_row ms m refl was in
    let f : m ≡ pid = cc in subst (λ k. k < 8192) f small)

network_absent : (ms : Members) (n : Option ℕ) → read_network false ms ≡ Ok n → n ≡ None
unfolding read_network
network_absent ms n is = sym (same_ok None n is)

settle_by : (one_zero : Bool) (i : Option ItemPage) (n : Option ℕ) (xs : List ItemHolding)
    → (one_zero ≡ true → i ≡ Some entry_page) → (one_zero ≡ false → n ≡ None)
    → ((pid : ℕ) → n ≡ Some pid → pid < 8192) → ItemsGood i xs → Settled one_zero i n xs
settle_by false i n xs entries none small good =
    subst (λ m. Settled false i m xs) (sym (none refl)) (settled_free i xs good.0)
settle_by true i None xs entries none small good =
    let here = subst (λ j. ItemsGood j xs) (entries refl) good in
    subst (λ j. Settled true j None xs) (sym (entries refl)) (settled_none xs here.0 here.1)
settle_by true i (Some pid) xs entries none small good =
    let here = subst (λ j. ItemsGood j xs) (entries refl) good in
    subst (λ j. Settled true j (Some pid) xs) (sym (entries refl)) (settled_some pid xs (small pid refl) here.0 here.1)

-- what is known of the attributes
pub record HeadingGood (p : TablePage) (h : Heading) : Type 0 where
  pub head : head_fits p h.head ≡ true
  pub extension : h.head.extension ≡ settled_extension p.extension h.head.extension
  pub values : values_fit p h.values ≡ true
  pub absent : p.one_zero ≡ false → h.network ≡ None
  pub small : (pid : ℕ) → h.network ≡ Some pid → pid < 8192

absent_by : (one_zero : Bool) (ms : Members) (n : Option ℕ) → read_network (names_network one_zero ms) ms ≡ Ok n
    → one_zero ≡ false → n ≡ None
absent_by true ms n is none = cc
absent_by false ms n is none = network_absent ms n is

values_by : (p : TablePage) (common others : List Held) → fits p.common common ≡ true → fits p.head others ≡ true
    → length common ≡ held_count p.common → values_fit p (common ++ others) ≡ true
values_by p common others first later count =
    and_from (fits p.common _) (fits p.head _)
    (ap (fits p.common) (ap (λ n. take n (common ++ others)) (sym count) ∙ take-append_seam common others) ∙ first)
    (ap (fits p.head) (ap (λ n. drop n (common ++ others)) (sym count) ∙ drop-append_seam common others) ∙ later)

heading_good : (p : TablePage) (ms : Members) (h : Heading) → Facts p → read_heading p ms ≡ Ok h → HeadingGood p h
unfolding read_heading
heading_good p ms h facts is =
    then_ok (read_number version_row ms) _ h is (λ version a1 b1.
    then_ok (read_truth current_row ms) _ h b1 (λ current a2 b2.
    then_ok (read_id p.ids ms) _ h b2 (λ id a3 b3.
    then_ok (read_extension p.extension ms) _ h b3 (λ extension a4 b4.
    then_ok (read_attributes p.common ms) _ h b4 (λ common a5 b5.
    then_ok (read_kept p.keeps_numbers ms) _ h b5 (λ numbers a6 b6.
    then_ok (read_attributes p.head ms) _ h b6 (λ others a7 b7.
    then_ok (read_network (names_network p.one_zero ms) ms) _ h b7 (λ network a8 b8.
    let ids = facts.ids ms id a3 in
    let ext = extension_good p.extension ms extension a4 in
    subst (HeadingGood p) (same_ok _ h b8) (record {
      head = and_from (has_id p.ids id) _ ids.0 (and_from (nat_lt id 255) _ (lt-ltb id 255 ids.1)
          (and_from (nat_lt extension 65536) _ (lt-ltb extension 65536 ext.0)
          (and_from (nat_lt version 32) _ (lt-ltb version 32 (number_bounded version_row ms version refl a1)) (kept_good p.keeps_numbers ms numbers a6))));
      extension = ext.1;
      values = values_by p common others (read_good p.common ms common facts.common a5).0 (read_good p.head ms others facts.head a7).0 (read_count p.common ms common a5);
      absent = absent_by p.one_zero ms network a8;
      small = network_good (names_network p.one_zero ms) ms network a8;
    })))))))))

laid_by : (p : TablePage) (h : Heading) (things : List Thing) → Facts p → HeadingGood p h
    → list_all (thing_good p.items (has_own p.loop_form)) things ≡ true → IsLaid p (holding_of h (owns_in things, items_in things))
laid_by p h things facts heading good =
    let items = items_good p.items (has_own p.loop_form) things good in
    let settled = settle_by p.one_zero p.items h.network (items_in things) facts.zero heading.absent heading.small items in
    record {
      known = facts.named;
      fits = and_from (head_fits p h.head) _ heading.head
          (and_from (values_fit p h.values) _ heading.values
          (and_from (own_fit p.loop_form (owns_in things)) _ (own_good_fit p.loop_form p.items things good)
          (and_from (items_fit p.items _) _ settled.fits settled.zeros)));
      extension = heading.extension;
      within = ap (items_within p.items) settled.shown ∙ items.1;
    }

laid_valid : (p : TablePage) (ms : Members) (t : TableValue) → Facts p → read_laid p ms ≡ Ok t → IsTable t
unfolding read_laid
laid_valid p ms t facts is =
    then_ok (keys_known (element_rows p (names_network p.one_zero ms)) ms ms) _ t is (λ w a1 b1.
    then_ok (read_heading p ms) _ t b1 (λ h a2 b2.
    then_ok (nodes_of ms) _ t b2 (λ nodes a3 b3.
    then_ok (parted (read_each (read_child p) 0 nodes)) _ t b3 (λ children a4 b4.
    then_ok (read_each (read_child p) 0 nodes) _ children a4 (λ things a5 b5.
    let good = each_all (read_child p) (thing_good p.items (has_own p.loop_form)) 0 nodes things (λ d x. child_good p d x facts.plain) a5 in
    subst IsTable (ap (λ c. laid p (holding_of h c)) (same_ok _ children b5) ∙ same_ok _ t b4)
    (laid_by p h things facts (heading_good p ms h facts a2) good))))))

pub name_valid : (name : List ℕ) (ms : Members) (t : TableValue) → read_by_name name ms ≡ Ok t → IsTable t
name_valid name ms t is = go (bytes_eq name short_name) (bytes_eq name long_name) is
  where
    known : (o : Option TablePage) → page_named name ≡ o → read_known o name ms ≡ Ok t → IsTable t
    known None at read = short_named_valid name ms t read
    known (Some p) at read = laid_valid p ms t (named_facts name p at) read

    go : (a b : Bool) → (if a then read_short ms else if b then read_long ms else read_known (page_named name) name ms) ≡ Ok t → IsTable t
    go true b read = short_valid ms t read
    go false true read = long_valid ms t read
    go false false read = known (page_named name) refl read

pub answer_valid : (result : Result Table ReadRefusal) (read : Reading TableValue) → Answers table_value result read
    → ((t : TableValue) → read ≡ Ok t → IsTable t) → IfOk result (λ t. IsTable (table_value t))
answer_valid (Ok t) read is good = good (table_value t) is
answer_valid (Err refusal) read is good = tt
