-- The sections of a table are a whole run.
use Rattle.std.proofs.Common.{◌≡◌, ℕ, zero, suc, ◌+◌, ◌-◌, ◌<◌, ◌≤◌, Bool, true, false, List, [], ◌∷◌, length, get_or, map, refl, sym, ap, ◌∙◌, subst, arith, inl, inr}
use Rattle.std.specs.Prelude.{IsTrue, Option, Some, None, Ok, All, ◌&&◌, nat_lt, nat_le}
use Rattle.std.specs.List.{list_all}
use Rattle.std.proofs.lemmas.Bool.{cases_Bool, and_parts, or_cases, and_right, le-leb, leb-true, ltb-true, lt-leb}
use Rattle.std.proofs.lemmas.List.{length-map}
use Rattle.std.proofs.lemmas.List.Elements.{All-head, All-tail}
use Rattle.ts_fields.specs.Layout.{Held}
use Rattle.ts_section.specs.SectionFields.{is_long, table_id_of, last_number_of}
use Rattle.ts_section.specs.SectionRun.{stands_alone, IsMember, AllMembers, IsTableRun}
use Rattle.ts_section.specs.WrittenSection.{long_section, IsLongSectionOf}
use Rattle.ts_table_rows.specs.declared.table.TableHead.{TableHead}
use Rattle.ts_table_rows.specs.TablePages.{TablePage, has_id, page_sound}
use Rattle.ts_table_rows.specs.RoundTrip.{id_forms_runs, forms_runs}
use Rattle.ts_table_rows.specs.TableValues.{BodyHolding, TableHolding}
use Rattle.ts_table_rows.specs.TableFitting.{DescriptorsFit, values_fit, numbers_fit, head_fits, body_fits, table_fits}
use Rattle.ts_table_rows.specs.BodySpelling.{body_row}
use Rattle.ts_table_rows.specs.TableSections.{head_with, numbered, numbers_of, sections_with, body_rows, sections_of}
use Rattle.ts_table_rows.proofs.SizeLemmas.{parts_of_sound}
use Rattle.ts_table_rows.proofs.NumberLemmas.{FitHead, head_parts, FitBody, body_parts, number_room}
use Rattle.ts_table_rows.proofs.BodyLemmas.{keeps_single}
use Rattle.ts_table_rows.proofs.AgainBits.{ReadAgain}
use Rattle.ts_table_rows.proofs.AgainBody.{Serves}
use Rattle.ts_table_rows.proofs.AgainPieces.{Bodies, bodies-of}
use Rattle.ts_table_rows.proofs.AgainRun.{MadeValid, first-made, last-small, counted, first_numbered, then_written}

-- ---- table_ids

-- a table that keeps its section numbers is one whose sections are alone, and no other is
ids-run : (keeps : Bool) (ids : List (ℕ × ℕ)) (id : ℕ) → list_all (id_forms_runs keeps) ids ≡ true → has_id ids id ≡ true → (nat_le 78 id && nat_le id 111) ≡ keeps
ids-run keeps [] id all found = cc
ids-run keeps (range ∷ ids) id all found =
    let parts = and_parts (id_forms_runs keeps range) (list_all (id_forms_runs keeps) ids) all in
    elim (or_cases (nat_le range.0 id && nat_le id range.1) (has_id ids id) found) [
      | inl here ↦ (let within = and_parts (nat_le range.0 id) (nat_le id range.1) here in by_range keeps range id parts.0 (leb-true range.0 id within.0) (leb-true id range.1 within.1))
      | inr later ↦ ids-run keeps ids id parts.1 later
    ]
  where
    by_range : (keeps : Bool) (range : ℕ × ℕ) (id : ℕ) → id_forms_runs keeps range ≡ true → range.0 ≤ id → id ≤ range.1 → (nat_le 78 id && nat_le id 111) ≡ keeps
    by_range true range id alone low high =
        let parts = and_parts (nat_le 78 range.0) (nat_le range.1 111) alone in
        let above : 78 ≤ id = omega (arith, leb-true 78 range.0 parts.0) in
        let below : id ≤ 111 = omega (arith, leb-true range.1 111 parts.1) in
        rw (le-leb 78 id above, le-leb id 111 below) refl
    by_range false range id together low high = elim (or_cases (nat_lt range.1 78) (nat_lt 111 range.0) together) [
      | inl below ↦ (let small : id < 78 = omega (arith, ltb-true range.1 78 below) in rw (lt-leb 78 id small) refl)
      | inr above ↦ (let large : 111 < id = omega (arith, ltb-true 111 range.0 above) in rw (lt-leb id 111 large) (and_right (nat_le 78 id) false refl))
    ]

alone-is : (s : List ℕ) (id : ℕ) (keeps : Bool) → is_long s ≡ true → table_id_of s ≡ id → (nat_le 78 id && nat_le id 111) ≡ keeps → stands_alone s ≡ keeps
alone-is s id keeps long same is = rw (long, same) is

-- ---- members

-- a section of the run at its place
numbered-at : ReadAgain → MadeValid → (p : TablePage) (h : TableHead) (values : List Held) (last number : ℕ) (cs : List BodyHolding) → IsTrue (page_sound p) → FitHead p h → values_fit p values ≡ true → All (λ c. Serves p values c) cs → number + length cs ≤ last + 1 → last < 256
    → (k : ℕ) → k < length cs → (c : BodyHolding) × IsLongSectionOf (head_with p h last (number + k)) (body_row p c) (get_or (numbered p h last number (map (body_row p) cs)) k [])
unfolding numbered
numbered-at laws valid p h values last number [] sound head fit serve room small k inside = absurd (omega arith)
numbered-at laws valid p h values last number (c ∷ cs) sound head fit serve room small zero inside =
    let made = first-made laws valid p h values last number c sound head fit (All-head (λ c. Serves p values c) c cs serve) (omega arith) small in
    let same : number ≡ number + 0 = omega arith in
    (c, subst (λ n. IsLongSectionOf (head_with p h last n) (body_row p c) (long_section (head_with p h last number) (body_row p c))) same made)
numbered-at laws valid p h values last number (c ∷ cs) sound head fit serve room small (suc k) inside =
    let more = numbered-at laws valid p h values last (number + 1) cs sound head fit (All-tail (λ c. Serves p values c) c cs serve) (omega arith) small k (omega arith) in
    let same : (number + 1) + k ≡ number + suc k = omega arith in
    (more.0, subst (λ n. IsLongSectionOf (head_with p h last n) (body_row p more.0) (get_or (numbered p h last (number + 1) (map (body_row p) cs)) k [])) same more.1)

is-member : (p : TablePage) (h : TableHead) (last place : ℕ) (one two first s : List ℕ) → stands_alone s ≡ false → place ≤ last → IsLongSectionOf (head_with p h last 0) one first → IsLongSectionOf (head_with p h last place) two s → IsMember first place s
is-member p h last place one two first s together within begins here = record {
  together = together;
  same_id = ap (λ f. f.table_id) here.same_head ∙ sym (ap (λ f. f.table_id) begins.same_head);
  same_extension = ap (λ f. f.extension) here.same_head ∙ sym (ap (λ f. f.extension) begins.same_head);
  same_version = ap (λ f. f.version) here.same_head ∙ sym (ap (λ f. f.version) begins.same_head);
  same_current = ap (λ f. f.current) here.same_head ∙ sym (ap (λ f. f.current) begins.same_head);
  same_last = ap (λ f. f.last) here.same_head ∙ sym (ap (λ f. f.last) begins.same_head);
  numbered = ap (λ f. f.number) here.same_head;
  counted = omega (arith, ap (λ f. f.last) begins.same_head);
}

length-numbered : (p : TablePage) (h : TableHead) (last number : ℕ) (rows : List (List ℕ)) → length (numbered p h last number rows) ≡ length rows
unfolding numbered
length-numbered p h last number [] = refl
length-numbered p h last number (row ∷ rows) = ap suc (length-numbered p h last (number + 1) rows)

-- ---- a whole run

from-zero : (keeps : Bool) (numbers : Option (ℕ × ℕ)) (count : ℕ) → keeps ≡ false → numbers_fit keeps numbers ≡ true → ((numbers_of numbers count).0 ≡ 0) × ((numbers_of numbers count).1 ≡ count - 1)
from-zero true numbers count is fit = cc
from-zero false None count is fit = (refl, refl)
from-zero false (Some k) count is fit = cc

no-others : (p : TablePage) (h : TableHead) (last number : ℕ) (cs : List BodyHolding) → cs ≡ [] → numbered p h last number (map (body_row p) cs) ≡ []
unfolding numbered
no-others p h last number cs none = ap (λ l. numbered p h last number (map (body_row p) l)) none

-- sections that are numbered from 0 to the last
members-are : ReadAgain → MadeValid → (p : TablePage) (h : TableHead) (values : List Held) (last : ℕ) (c : BodyHolding) (cs : List BodyHolding) → IsTrue (page_sound p) → list_all (id_forms_runs false) p.ids ≡ true → FitHead p h → values_fit p values ≡ true → All (λ c. Serves p values c) (c ∷ cs)
    → last ≡ length cs → last < 256 → AllMembers (long_section (head_with p h last 0) (body_row p c)) (numbered p h last 0 (map (body_row p) (c ∷ cs)))
members-are laws valid p h values last c cs sound runs head fit serve count small place inside =
    let first = first-made laws valid p h values last 0 c sound head fit (All-head (λ c. Serves p values c) c cs serve) (omega arith) small in
    let many : length (numbered p h last 0 (map (body_row p) (c ∷ cs))) ≡ length (c ∷ cs) = length-numbered p h last 0 (map (body_row p) (c ∷ cs)) ∙ length-map (c ∷ cs) (body_row p) in
    let at = numbered-at laws valid p h values last 0 (c ∷ cs) sound head fit serve (omega arith) small place (omega (arith, many)) in
    let s : List ℕ = get_or (numbered p h last 0 (map (body_row p) (c ∷ cs))) place [] in
    let none : 0 + place ≡ place = omega arith in
    let here : IsLongSectionOf (head_with p h last place) (body_row p at.0) s = subst (λ n. IsLongSectionOf (head_with p h last n) (body_row p at.0) s) none at.1 in
    let together : stands_alone s ≡ false = alone-is s h.table_id false here.long (ap (λ f. f.table_id) here.same_head) (ids-run false p.ids h.table_id runs head.id) in
    is-member p h last place (body_row p c) (body_row p at.0) (long_section (head_with p h last 0) (body_row p c)) s together (omega (arith, many)) first here

run-whole : ReadAgain → MadeValid → (p : TablePage) (h : TableHolding) (ss rows : List (List ℕ)) → IsTrue (page_sound p) → forms_runs p ≡ true → FitHead p h.head → FitBody p h.body → Bodies p h.body rows → sections_with p h.head rows ≡ Ok ss → IsTableRun ss
run-whole laws valid p h ss rows sound runs head body bodies made =
    let cs : List BodyHolding = bodies.first ∷ bodies.others in
    let count : ℕ = length rows in
    let last : ℕ = (numbers_of h.head.numbers count).1 in
    let number : ℕ = (numbers_of h.head.numbers count).0 in
    let some : count ≡ suc (length bodies.others) = ap length bodies.are ∙ length-map cs (body_row p) in
    let parts = counted p h.head rows ss made in
    let one : p.keeps_numbers ≡ true → count ≡ 1 = λ keeps. some ∙ ap (λ l. suc (length l)) (bodies.one (keeps_single p.keeps_numbers p.single (parts_of_sound p sound).keeps keeps)) in
    let room = number_room p.keeps_numbers h.head.numbers count head.numbers (omega arith) one in
    let small = last-small p.keeps_numbers h.head.numbers count head.numbers parts.0 in
    let rest : List (List ℕ) = numbered p h.head last (number + 1) (map (body_row p) bodies.others) in
    let s : List ℕ = long_section (head_with p h.head last number) (body_row p bodies.first) in
    let split : numbered p h.head last number (map (body_row p) cs) ≡ s ∷ rest = first_numbered p h.head last number bodies.first bodies.others in
    let are : ss ≡ s ∷ rest = sym parts.1 ∙ ap (numbered p h.head last number) bodies.are ∙ split in
    let lone = first-made laws valid p h.head h.body.values last number bodies.first sound head body.values (All-head (λ c. Serves p h.body.values c) bodies.first bodies.others bodies.serve) (omega (arith, some, room)) small in
    subst IsTableRun (sym are) (elim (cases_Bool p.keeps_numbers) [
      | inl keeps ↦ inl (
        alone-is s h.head.table_id p.keeps_numbers lone.long (ap (λ f. f.table_id) lone.same_head) (ids-run p.keeps_numbers p.ids h.head.table_id runs head.id) ∙ keeps,
        no-others p h.head last (number + 1) bodies.others (bodies.one (keeps_single p.keeps_numbers p.single (parts_of_sound p sound).keeps keeps)),
      )
      | inr several ↦ (
          let zero = from-zero p.keeps_numbers h.head.numbers count several head.numbers in
          let end : last ≡ length bodies.others = omega (arith, zero.1, some) in
          let free : list_all (id_forms_runs false) p.ids ≡ true = ap (λ b. list_all (id_forms_runs b) p.ids) (sym several) ∙ runs in
          let members = members-are laws valid p h.head h.body.values last bodies.first bodies.others sound free head body.values bodies.serve end small in
          let begun : AllMembers s (numbered p h.head last number (map (body_row p) cs)) =
          subst (λ n. AllMembers (long_section (head_with p h.head last n) (body_row p bodies.first)) (numbered p h.head last n (map (body_row p) cs))) (sym zero.0) members in
          let many : length rest ≡ length bodies.others = length-numbered p h.head last (number + 1) (map (body_row p) bodies.others) ∙ length-map bodies.others (body_row p) in
          let told : last_number_of s ≡ last = ap (λ f. f.last) lone.same_head in
          inr (subst (λ l. AllMembers s l) split begun, omega (arith, many, end, told))
          )
    ])

pub written-whole : ReadAgain → MadeValid → (p : TablePage) (h : TableHolding) (ss : List (List ℕ)) → IsTrue (page_sound p) → forms_runs p ≡ true → table_fits p h ≡ true → DescriptorsFit h.body → sections_of p h ≡ Ok ss → IsTableRun ss
unfolding sections_of
written-whole laws valid p h ss sound runs fits some is =
    let fit = and_parts (head_fits p h.head) (body_fits p h.body) fits in
    then_written (body_rows p h.body) (sections_with p h.head) ss is (λ rows were made.
    run-whole laws valid p h ss rows sound runs (head_parts p h.head fit.0) (body_parts p h.body fit.1) (bodies-of laws.sizes p h.body rows fit.1 some were) made)
