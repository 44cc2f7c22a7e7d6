-- The sections of a table, read as a run, are the table.
use Rattle.std.proofs.Common.{◌≡◌, ℕ, suc, ◌+◌, ◌-◌, ◌<◌, ◌≤◌, Bool, true, false, List, [], ◌∷◌, ◌++◌, length, take, drop, map, refl, sym, ap, ◌∙◌, subst, arith}
use Rattle.std.specs.Prelude.{IsTrue, Option, Some, None, Result, Ok, Err, All, is_some, ◌&&◌, nat_lt, nat_le, if◌then◌else◌}
use Rattle.std.proofs.lemmas.Bool.{and_parts, and_from, ltb-true, le-ltb, ltb-false, eq-eqb, cond_both}
use Rattle.std.proofs.lemmas.List.{length-map, length-drop, length-take-le}
use Rattle.std.proofs.lemmas.List.Elements.{All-head, All-tail, All-cons, All-nil}
use Rattle.ts_fields.specs.Bits.{bits_of}
use Rattle.ts_fields.specs.Layout.{Held}
use Rattle.ts_fields.specs.Fitting.{are_bytes}
use Rattle.ts_section.specs.declared.long_head.LongHead.{LongHead}
use Rattle.ts_section.specs.SectionFields.{is_long, table_id_of, section_length_of, body_of}
use Rattle.ts_section.specs.WrittenSection.{long_section, IsLongSectionOf}
use Rattle.ts_table_rows.specs.declared.table.TableHead.{TableHead}
use Rattle.ts_table_rows.specs.declared.fault.TableRefusal.{TableRefusal}
use Rattle.ts_table_rows.specs.TablePages.{TablePage, has_id, page_sound}
use Rattle.ts_table_rows.specs.TableValues.{ItemHolding, BodyHolding, TableHolding}
use Rattle.ts_table_rows.specs.TableFitting.{DescriptorsFit, values_fit, zeros_from, numbers_fit, head_fits, body_fits, table_fits}
use Rattle.ts_table_rows.specs.BodySpelling.{body_row, common_values}
use Rattle.ts_table_rows.specs.TableSections as writing
use Rattle.ts_table_rows.specs.TableSections.{head_with, numbered, numbers_of, sections_with, body_rows, sections_of}
use Rattle.ts_table_rows.specs.BodyReading.{Seen, is_same, is_zero, first_number, read_body}
use Rattle.ts_table_rows.specs.RunReading.{unseen, in_section, read_section, read_sections, kept_head, is_of, table_head, read_run}
use Rattle.ts_table_rows.proofs.SizeLemmas.{parts_of_sound}
use Rattle.ts_table_rows.proofs.NumberLemmas.{FitHead, head_parts, FitBody, body_parts, number_room}
use Rattle.ts_table_rows.proofs.RunLemmas.{run_reads}
use Rattle.ts_table_rows.proofs.BodyLemmas.{keeps_single}
use Rattle.ts_table_rows.proofs.AgainBits.{ReadAgain}
use Rattle.ts_table_rows.proofs.AgainBody.{Serves, seen_after, body-again, body-bytes}
use Rattle.ts_table_rows.proofs.AgainPieces.{join_bodies, Bodies, bodies-of}

-- what the layer below ensures of sections that are made
abbrev pub MadeValid : Type 0
MadeValid = (head : LongHead) (body : List ℕ) → head.table_id < 255 → head.extension < 65536 → head.version < 32 → head.number ≤ head.last → head.last < 256 → All (λ x. x < 256) body → length body ≤ 4084 → IsLongSectionOf head body (long_section head body)

-- ---- one section

all-bytes : (row : List ℕ) → are_bytes row ≡ true → All (λ x. x < 256) row
all-bytes [] small = All-nil (λ x. x < 256)
all-bytes (x ∷ row) small =
    let parts = and_parts (nat_lt x 256) (are_bytes row) small in
    All-cons (λ x. x < 256) x row (ltb-true x 256 parts.0) (all-bytes row parts.1)

-- its head and its CRC are nine bytes
made-length : (head : LongHead) (body s : List ℕ) → IsLongSectionOf head body s → section_length_of s ≡ 9 + length body
made-length head body s made =
    let form : is_long s ≡ true = made.long in
    let long = made.valid.long (subst IsTrue (sym form) refl) in
    let own : body_of s ≡ drop 8 (take (length s - 4) s) = rw form refl in
    let front : length s - 4 ≤ length s = omega arith in
    omega (arith, ap length (sym made.same_body ∙ own), length-drop 8 (take (length s - 4) s), length-take-le (length s - 4) s front, made.valid.whole, long.room)

section-again : ReadAgain → (p : TablePage) (seen : Seen) (now : Bool) (place : ℕ) (head : LongHead) (s : List ℕ) (c : BodyHolding) → IsTrue (page_sound p) → values_fit p c.values ≡ true → Serves p c.values c → is_same seen.first (first_number (common_values p c.values)) ≡ true
    → zeros_from p.one_zero seen.zero c.items ≡ Some now → IsLongSectionOf head (body_row p c) s → read_section p seen place s ≡ Ok (c, seen_after p c.values now)
unfolding read_section
section-again laws p seen now place head s c sound fit serve same zeros made =
    let body = body-again laws p seen now c sound fit serve same zeros in
    let few : nat_lt p.most (section_length_of s) ≡ false = le-ltb p.most (section_length_of s) (omega (arith, made-length head (body_row p c) s made, serve.room)) in
    let read : read_body p seen (bits_of (body_of s)) ≡ Ok (c, seen_after p c.values now) = ap (λ l. read_body p seen (bits_of l)) made.same_body ∙ body in
    rw few (ap (in_section place (length (body_of s))) read)

-- a section that is made for a body is valid
pub first-made : ReadAgain → MadeValid → (p : TablePage) (h : TableHead) (values : List Held) (last number : ℕ) (c : BodyHolding) → IsTrue (page_sound p) → FitHead p h → values_fit p values ≡ true → Serves p values c → number ≤ last → last < 256
    → IsLongSectionOf (head_with p h last number) (body_row p c) (long_section (head_with p h last number) (body_row p c))
first-made laws valid p h values last number c sound head fit serve within small =
    let fits : values_fit p c.values ≡ true = ap (values_fit p) serve.same ∙ fit in
    let few : length (body_row p c) ≤ 4084 = omega (arith, serve.room, (parts_of_sound p sound).most) in
    valid (head_with p h last number) (body_row p c) head.valid_id head.extension head.version within small (all-bytes (body_row p c) (body-bytes laws p c sound fits)) few

-- ---- sections one after another

-- whether there was an item with 0 by the end of the first of two lists
split-by : (here stood now : Bool) (whole first later : Bool → Option Bool) → ((s : Bool) → whole s ≡ Some now → (z : Bool) × (first s ≡ Some z) × (later z ≡ Some now)) → (if here then (if stood then None else whole true) else whole stood) ≡ Some now
    → (z : Bool) × ((if here then (if stood then None else first true) else first stood) ≡ Some z) × (later z ≡ Some now)
split-by true true now whole first later goal is = cc
split-by true false now whole first later goal is = goal true is
split-by false stood now whole first later goal is = goal stood is

zeros-split : (one_zero seen now : Bool) (a b : List ItemHolding) → zeros_from one_zero seen (a ++ b) ≡ Some now → (z : Bool) × (zeros_from one_zero seen a ≡ Some z) × (zeros_from one_zero z b ≡ Some now)
unfolding zeros_from
zeros-split one_zero seen now [] b is = (seen, refl, is)
zeros-split one_zero seen now (x ∷ a) b is =
    split-by (one_zero && is_zero (first_number x.values)) seen now (λ s. zeros_from one_zero s (a ++ b)) (λ s. zeros_from one_zero s a) (λ s. zeros_from one_zero s b)
    (λ s more. zeros-split one_zero s now a b more) is

same-self : (o : Option ℕ) → is_same o o ≡ true
same-self None = refl
same-self (Some n) = eq-eqb n n refl

-- a body among those of a table, by its own values
serve-own : (p : TablePage) (values : List Held) (c : BodyHolding) → Serves p values c → Serves p c.values c
serve-own p values c serve = record { same = refl; own = serve.own; items = serve.items; owned = serve.owned; described = serve.described; room = serve.room }

sections-again : ReadAgain → MadeValid → (p : TablePage) (h : TableHead) (values : List Held) (last number place : ℕ) (seen : Seen) (now : Bool) (cs : List BodyHolding) → IsTrue (page_sound p) → FitHead p h → values_fit p values ≡ true
    → is_same seen.first (first_number (common_values p values)) ≡ true → All (λ c. Serves p values c) cs → number + length cs ≤ last + 1 → last < 256 → zeros_from p.one_zero seen.zero (join_bodies cs).items ≡ Some now
    → read_sections p seen place (numbered p h last number (map (body_row p) cs)) ≡ Ok (join_bodies cs)
unfolding read_sections numbered
sections-again laws valid p h values last number place seen now [] sound head fit same serve room small zeros = refl
sections-again laws valid p h values last number place seen now (c ∷ cs) sound head fit same serve room small zeros =
    let here : Serves p values c = All-head (λ c. Serves p values c) c cs serve in
    let own = serve-own p values c here in
    let fits : values_fit p c.values ≡ true = ap (values_fit p) here.same ∙ fit in
    let first : first_number (common_values p values) ≡ first_number (common_values p c.values) = ap (λ v. first_number (common_values p v)) (sym here.same) in
    let alike : is_same seen.first (first_number (common_values p c.values)) ≡ true = ap (is_same seen.first) (sym first) ∙ same in
    let split = zeros-split p.one_zero seen.zero now c.items (join_bodies cs).items zeros in
    let made = first-made laws valid p h values last number c sound head fit here (omega arith) small in
    let read = section-again laws p seen split.0 place (head_with p h last number) (long_section (head_with p h last number) (body_row p c)) c sound fits own alike split.1 made in
    let next : is_same (first_number (common_values p c.values)) (first_number (common_values p values)) ≡ true = ap (is_same (first_number (common_values p c.values))) first ∙ same-self (first_number (common_values p c.values)) in
    let more = sections-again laws valid p h values last (number + 1) (place + 1) (seen_after p c.values split.0) now cs sound head fit next (All-tail (λ c. Serves p values c) c cs serve) (omega arith) small split.2 in
    rw (read, more) refl

-- ---- the head of the first section

abbrev head_with_fields : ℕ → ℕ → ℕ → Bool → Option (ℕ × ℕ) → TableHead
head_with_fields id extension version current numbers = record { table_id = id; extension = extension; version = version; current = current; numbers = numbers }

same_fields : (a a' b b' c c' : ℕ) (d d' : Bool) (e e' : Option (ℕ × ℕ)) → a ≡ a' → b ≡ b' → c ≡ c' → d ≡ d' → e ≡ e' → head_with_fields a b c d e ≡ head_with_fields a' b' c' d' e'
same_fields a a' b b' c c' d d' e e' p q r s t = cc

kept-numbers : (keeps : Bool) (numbers : Option (ℕ × ℕ)) (n l count : ℕ) → numbers_fit keeps numbers ≡ true → n ≡ (numbers_of numbers count).0 → l ≡ (numbers_of numbers count).1 → (if keeps then Some (n, l) else None) ≡ numbers
kept-numbers false None n l count fit first last = refl
kept-numbers false (Some k) n l count fit first last = cc
kept-numbers true None n l count fit first last = cc
kept-numbers true (Some k) n l count fit first last = ap (λ x. Some (x, l)) first ∙ ap (λ x. Some (k.0, x)) last

pub last-small : (keeps : Bool) (numbers : Option (ℕ × ℕ)) (count : ℕ) → numbers_fit keeps numbers ≡ true → count ≤ 256 → (numbers_of numbers count).1 < 256
last-small false None count fit few = omega arith
last-small false (Some k) count fit few = cc
last-small true None count fit few = cc
last-small true (Some k) count fit few = ltb-true k.1 256 (and_parts (nat_le k.0 k.1) (nat_lt k.1 256) fit).1

pub head-again : (p : TablePage) (h : TableHead) (count : ℕ) (body s : List ℕ) → FitHead p h → IsLongSectionOf (head_with p h (numbers_of h.numbers count).1 (numbers_of h.numbers count).0) body s → table_head p s ≡ Some h
head-again p h count body s fit made =
    let id : table_id_of s ≡ h.table_id = ap (λ f. f.table_id) made.same_head in
    let ours : is_of p s ≡ true = and_from (is_long s) (has_id p.ids (table_id_of s)) made.long (ap (has_id p.ids) id ∙ fit.id) in
    let kept : kept_head p s ≡ h =
    same_fields _ h.table_id _ h.extension _ h.version _ h.current _ h.numbers id (ap (λ f. f.extension) made.same_head) (ap (λ f. f.version) made.same_head) (ap (λ f. f.current) made.same_head)
    (kept-numbers p.keeps_numbers h.numbers _ _ count fit.numbers (ap (λ f. f.number) made.same_head) (ap (λ f. f.last) made.same_head)) in
    rw ours (ap Some kept)

-- ---- a whole table

few-behind : (single : Bool) (n : ℕ) → (single ≡ true → n ≡ 0) → (single && nat_lt 0 n) ≡ false
few-behind true n none = rw (none refl) refl
few-behind false n none = refl

pub then_written : {A B P : Type 0} (r : Result A TableRefusal) (next : A → Result B TableRefusal) (y : B) → (writing.◌>>=◌ r next) ≡ Ok y → ((x : A) → r ≡ Ok x → next x ≡ Ok y → P) → P
then_written (Ok x) next y is goal = goal x refl is
then_written (Err refusal) next y is goal = cc

pub none_numbered : (p : TablePage) (h : TableHead) (last number : ℕ) (cs : List BodyHolding) → cs ≡ [] → length (numbered p h last number (map (body_row p) cs)) ≡ 0
unfolding numbered
none_numbered p h last number cs none = ap (λ l. length (numbered p h last number (map (body_row p) l))) none

pub first_numbered : (p : TablePage) (h : TableHead) (last number : ℕ) (c : BodyHolding) (cs : List BodyHolding) → numbered p h last number (map (body_row p) (c ∷ cs)) ≡ long_section (head_with p h last number) (body_row p c) ∷ numbered p h last (number + 1) (map (body_row p) cs)
unfolding numbered
first_numbered p h last number c cs = refl

some_is : (o : Option Bool) → is_some o ≡ true → (b : Bool) × (o ≡ Some b)
some_is None is = cc
some_is (Some b) is = (b, refl)

-- at most 256 sections, numbered
pub counted : (p : TablePage) (h : TableHead) (rows ss : List (List ℕ)) → sections_with p h rows ≡ Ok ss → (length rows ≤ 256) × (numbered p h (numbers_of h.numbers (length rows)).1 (numbers_of h.numbers (length rows)).0 rows ≡ ss)
counted p h rows ss = cond_both (nat_lt 256 (length rows)) _ _ (λ r. r ≡ Ok ss → (length rows ≤ 256) × (numbered p h (numbers_of h.numbers (length rows)).1 (numbers_of h.numbers (length rows)).0 rows ≡ ss))
    (λ many is. cc)
    (λ few is. (ltb-false 256 (length rows) few, cc))

run-again : ReadAgain → MadeValid → (p : TablePage) (h : TableHolding) (ss rows : List (List ℕ)) → IsTrue (page_sound p) → FitHead p h.head → FitBody p h.body → Bodies p h.body rows → sections_with p h.head rows ≡ Ok ss → read_run p ss ≡ Ok h
run-again laws valid p h ss rows sound head body bodies made =
    let cs : List BodyHolding = bodies.first ∷ bodies.others in
    let count : ℕ = length rows in
    let last : ℕ = (numbers_of h.head.numbers count).1 in
    let number : ℕ = (numbers_of h.head.numbers count).0 in
    let some : count ≡ suc (length bodies.others) = ap length bodies.are ∙ length-map cs (body_row p) in
    let parts = counted p h.head rows ss made in
    let one : p.keeps_numbers ≡ true → count ≡ 1 = λ keeps. some ∙ ap (λ l. suc (length l)) (bodies.one (keeps_single p.keeps_numbers p.single (parts_of_sound p sound).keeps keeps)) in
    let room = number_room p.keeps_numbers h.head.numbers count head.numbers (omega arith) one in
    let small = last-small p.keeps_numbers h.head.numbers count head.numbers parts.0 in
    let rest : List (List ℕ) = numbered p h.head last (number + 1) (map (body_row p) bodies.others) in
    let s : List ℕ = long_section (head_with p h.head last number) (body_row p bodies.first) in
    let are : ss ≡ s ∷ rest = sym parts.1 ∙ ap (numbered p h.head last number) bodies.are ∙ first_numbered p h.head last number bodies.first bodies.others in
    let zeros = some_is (zeros_from p.one_zero false h.body.items) body.zeros in
    let zero : zeros_from p.one_zero false (join_bodies cs).items ≡ Some zeros.0 = ap (λ b. zeros_from p.one_zero false b.items) bodies.whole ∙ zeros.1 in
    let reads = sections-again laws valid p h.head h.body.values last number 0 unseen zeros.0 cs sound head body.values refl bodies.serve (omega (arith, some, room)) small zero in
    let here = ap (read_sections p unseen 0) (sym (first_numbered p h.head last number bodies.first bodies.others)) ∙ reads in
    let serve : Serves p h.body.values bodies.first = All-head (λ c. Serves p h.body.values c) bodies.first bodies.others bodies.serve in
    let lone = first-made laws valid p h.head h.body.values last number bodies.first sound head body.values serve (omega (arith, some, room)) small in
    run_reads p ss s rest h.head (join_bodies cs) are (head-again p h.head count (body_row p bodies.first) s head lone)
    (few-behind p.single (length rest) (λ single. none_numbered p h.head last (number + 1) bodies.others (bodies.one single))) here
    ∙ ap (λ b. Ok (record { head = h.head; body = b })) bodies.whole

pub written-again : ReadAgain → MadeValid → (p : TablePage) (h : TableHolding) (ss : List (List ℕ)) → IsTrue (page_sound p) → table_fits p h ≡ true → DescriptorsFit h.body → sections_of p h ≡ Ok ss → read_run p ss ≡ Ok h
unfolding sections_of
written-again laws valid p h ss sound fits some is =
    let fit = and_parts (head_fits p h.head) (body_fits p h.body) fits in
    then_written (body_rows p h.body) (sections_with p h.head) ss is (λ rows were made.
    run-again laws valid p h ss rows sound (head_parts p h.head fit.0) (body_parts p h.body fit.1) (bodies-of laws.sizes p h.body rows fit.1 some were) made)
