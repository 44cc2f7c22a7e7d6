-- Sections of a run one after another.
use Rattle.std.proofs.Common.{◌≡◌, ℕ, ◌+◌, ◌<◌, ◌≤◌, List, [], ◌∷◌, ◌++◌, length, drop, get_or, refl, sym, ap, ◌∙◌, arith, append_assoc, append-nil}
use Rattle.std.specs.Prelude.{true, false, Result, Ok, Err, Some, None}
use Rattle.std.proofs.lemmas.List.{drop_more, drop_all}
use Rattle.ts_table_rows.specs.TablePages.{TablePage}
use Rattle.ts_bits.specs.TaggedBody.{TaggedBody}
use Rattle.ts_fields.specs.Layout.{Held}
use Rattle.ts_table_rows.specs.TableValues.{ItemHolding, BodyHolding, no_body, joined}
use Rattle.ts_table_rows.specs.BodyReading.{Seen}
use Rattle.ts_table_rows.specs.RunReading.{FirstBroken, Breaks, broken_at, unseen, table_head, too_many, read_by, read_run, read_section, read_sections, ◌>>=◌}
use Rattle.ts_table_rows.specs.declared.table.TableHead.{TableHead}
use Rattle.ts_table_rows.specs.declared.fault.TableRule.TheVariants.{WrongTable, Sections}
use Rattle.ts_table_rows.specs.declared.fault.TableFault.{TableFault}
use Rattle.ts_table_rows.specs.declared.fault.TableFault.TheVariants.{Broken, NoMemory}

-- a body before those that are read after it
abbrev pub with_body : BodyHolding → Result BodyHolding FirstBroken → Result BodyHolding FirstBroken
with_body front read = read >>= λ more. Ok (joined front more)

abbrev holding : List Held → List TaggedBody → List ItemHolding → BodyHolding
holding vs ds is = record { values = vs; descriptors = ds; items = is }

-- joining goes on
pub joined-joined : (a b c : BodyHolding) → joined a (joined b c) ≡ joined (joined a b) c
joined-joined a b c =
    let ds : a.descriptors ++ (b.descriptors ++ c.descriptors) ≡ (a.descriptors ++ b.descriptors) ++ c.descriptors = sym (append_assoc a.descriptors b.descriptors c.descriptors) in
    let is : a.items ++ (b.items ++ c.items) ≡ (a.items ++ b.items) ++ c.items = sym (append_assoc a.items b.items c.items) in
    cc

pub joined-none : (a : BodyHolding) → joined a no_body ≡ a
joined-none a =
    ap (λ ds. holding a.values ds (a.items ++ [])) (append-nil a.descriptors) ∙ ap (λ is. holding a.values a.descriptors is) (append-nil a.items)

body_more : (front one : BodyHolding) (read : Result BodyHolding FirstBroken) → with_body front (read >>= λ more. Ok (joined one more)) ≡ with_body (joined front one) read
body_more front one (Ok more) = ap Ok (joined-joined front one more)
body_more front one (Err fault) = refl

first_more : (p : TablePage) (seen : Seen) (place : ℕ) (front : BodyHolding) (s : List ℕ) (ss : List (List ℕ)) (one : BodyHolding) (now : Seen) → read_section p seen place s ≡ Ok (one, now)
    → with_body front (read_sections p seen place (s ∷ ss)) ≡ with_body (joined front one) (read_sections p now (place + 1) ss)
unfolding read_sections
first_more p seen place front s ss one now is = rw is (body_more front one (read_sections p now (place + 1) ss))

left : (ss : List (List ℕ)) (i : ℕ) (s : List ℕ) → i < length ss → s ≡ get_or ss i s → drop i ss ≡ s ∷ drop (i + 1) ss
left ss i s inside same = drop_more ss i s inside ∙ ap (λ x. x ∷ drop (i + 1) ss) (sym same)

pub goes_on : (p : TablePage) (seen now : Seen) (place i : ℕ) (front : BodyHolding) (ss : List (List ℕ)) (s : List ℕ) (one : BodyHolding) (whole : Result BodyHolding FirstBroken) → i < length ss → s ≡ get_or ss i s → read_section p seen place s ≡ Ok (one, now)
    → with_body front (read_sections p seen place (drop i ss)) ≡ whole → with_body (joined front one) (read_sections p now (place + 1) (drop (i + 1) ss)) ≡ whole
goes_on p seen now place i front ss s one whole inside same is so_far =
    sym (first_more p seen place front s (drop (i + 1) ss) one now is)
    ∙ sym (ap (λ l. with_body front (read_sections p seen place l)) (left ss i s inside same)) ∙ so_far

first_stops : (stop : TableFault) (p : TablePage) (seen : Seen) (place : ℕ) (front : BodyHolding) (s : List ℕ) (ss : List (List ℕ)) (whole : Result BodyHolding FirstBroken) → with_body front (read_sections p seen place (s ∷ ss)) ≡ whole
    → Breaks stop (read_section p seen place s) → Breaks stop whole
unfolding read_sections
first_stops (Broken k o r) p seen place front s ss whole so_far is = sym so_far ∙ rw is refl
first_stops NoMemory p seen place front s ss whole so_far is = tt

pub stops_at : (stop : TableFault) (p : TablePage) (seen : Seen) (place i : ℕ) (front : BodyHolding) (ss : List (List ℕ)) (s : List ℕ) (whole : Result BodyHolding FirstBroken) → i < length ss → s ≡ get_or ss i s
    → with_body front (read_sections p seen place (drop i ss)) ≡ whole → Breaks stop (read_section p seen place s) → Breaks stop whole
stops_at stop p seen place i front ss s whole inside same so_far is =
    first_stops stop p seen place front s (drop (i + 1) ss) whole (sym (ap (λ l. with_body front (read_sections p seen place l)) (left ss i s inside same)) ∙ so_far) is

pub done : (p : TablePage) (seen : Seen) (place i : ℕ) (front : BodyHolding) (ss : List (List ℕ)) (whole : Result BodyHolding FirstBroken) → length ss ≤ i → with_body front (read_sections p seen place (drop i ss)) ≡ whole → whole ≡ Ok front
unfolding read_sections
done p seen place i front ss whole all so_far =
    sym so_far ∙ ap (λ l. with_body front (read_sections p seen place l)) (drop_all i ss all) ∙ ap Ok (joined-none front)

-- the first section of all
pub begins : (p : TablePage) (seen now : Seen) (place : ℕ) (s : List ℕ) (ss : List (List ℕ)) (one : BodyHolding) → read_section p seen place s ≡ Ok (one, now) → with_body one (read_sections p now (place + 1) ss) ≡ read_sections p seen place (s ∷ ss)
unfolding read_sections
begins p seen now place s ss one is = rw is refl

pub begins_not : (stop : TableFault) (p : TablePage) (seen : Seen) (place : ℕ) (s : List ℕ) (ss : List (List ℕ)) → Breaks stop (read_section p seen place s) → Breaks stop (read_sections p seen place (s ∷ ss))
unfolding read_sections
begins_not (Broken k o r) p seen place s ss is = rw is refl
begins_not NoMemory p seen place s ss is = tt

-- ---- a whole run, whose first section is `s`

pub run_none : (p : TablePage) (ss : List (List ℕ)) → length ss ≡ 0 → read_run p ss ≡ broken_at 0 0 WrongTable
unfolding read_run
run_none p [] none = refl
run_none p (s ∷ ss) none = absurd (omega arith)

pub run_wrong : (p : TablePage) (run : List (List ℕ)) (s : List ℕ) (ss : List (List ℕ)) → run ≡ s ∷ ss → table_head p s ≡ None → read_run p run ≡ broken_at 0 0 WrongTable
unfolding read_run
run_wrong p run s ss is wrong = rw is (ap (λ h. read_by p h s ss) wrong)

pub run_many : (p : TablePage) (run : List (List ℕ)) (s : List ℕ) (ss : List (List ℕ)) (head : TableHead) → run ≡ s ∷ ss → table_head p s ≡ Some head → too_many p ss ≡ true → read_run p run ≡ broken_at 0 0 Sections
unfolding read_run
run_many p run s ss head is found many = rw is (ap (λ h. read_by p h s ss) found ∙ rw many refl)

pub run_reads : (p : TablePage) (run : List (List ℕ)) (s : List ℕ) (ss : List (List ℕ)) (head : TableHead) (body : BodyHolding) → run ≡ s ∷ ss → table_head p s ≡ Some head → too_many p ss ≡ false → read_sections p unseen 0 (s ∷ ss) ≡ Ok body
    → read_run p run ≡ Ok (record { head = head; body = body })
unfolding read_run
run_reads p run s ss head body is found few read = rw is (ap (λ h. read_by p h s ss) found ∙ rw (few, read) refl)

pub run_stops : (stop : TableFault) (p : TablePage) (run : List (List ℕ)) (s : List ℕ) (ss : List (List ℕ)) (head : TableHead) → run ≡ s ∷ ss → table_head p s ≡ Some head → too_many p ss ≡ false → Breaks stop (read_sections p unseen 0 (s ∷ ss)) → Breaks stop (read_run p run)
unfolding read_run
run_stops (Broken k o r) p run s ss head is found few stops = rw is (ap (λ h. read_by p h s ss) found ∙ rw (few, stops) refl)
run_stops NoMemory p run s ss head is found few stops = tt
