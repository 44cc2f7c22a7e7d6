-- The gaps of an input that are told round by round: positions of packets, and gaps by them.
use Rattle.std.proofs.Common.{◌≡◌, ◌⊎◌, inl, inr, ℕ, zero, suc, ◌+◌, ◌-◌, ◌*◌, ◌/◌, ◌%◌, ◌<◌, ◌≤◌, ◌^◌, List, [], ◌∷◌, ◌++◌, Bool, true, false, not, ◌&&◌, ◌==◌, cond, if◌then◌else◌, nat_le, filter, length, take, drop, refl, ap, sym, ◌∙◌, arith, length-append, length-take, length-drop, append-nil}
use Rattle.std.specs.List.{AllByRecursion}
use Rattle.std.proofs.lemmas.Bool.{cond-true, cond-false, le-leb, lt-leb, le-ltb, lt-ltb, cases_lt, ltb-true, ltb-false, leb-true, leb-false, eqb-true}
use Rattle.std.proofs.lemmas.List.{length-replicate}
use Rattle.std.proofs.lemmas.List.Elements.{filter-append}
use Rattle.std.proofs.Math.Nat.{mul-div-le}
use Rattle.std.proofs.Common.{div-add-mod', mul-suc}
use Rattle.ts_packet.specs.declared.cell.Cell.{Cell}
use Rattle.ts_packet.specs.Cells.{Live}
use Rattle.ts_packet.specs.Packet.{null_packet}
use Rattle.ts_packet.specs.Labels.{no_labels}
use Rattle.chain_model.specs.Apply.{StageList}
use Rattle.chain_model.specs.InputRead.{list_at_fault}
use Rattle.chain_model.specs.InputList.{is_packet_in_front, packets_of, packets_within}
use Rattle.chain_model.specs.declared.input_end.InputEnd.{InputEnd}
use Rattle.chain_model.specs.declared.input_end.InputEnd.TheVariants.{ReadFault}
use Rattle.chain_model.specs.Stuffed.{Stuffing, null_cells, nulls_after, stuffed_after, within_limit}
use Rattle.search_source.specs.declared.gap.Gap.{Gap}
use Rattle.search_source.specs.Since.{NotedOf, Rising, is_since}
use Rattle.search_source.specs.Coming.{found_in}
use Rattle.packet_forms.specs.declared.forms.Form.{Form}
use Rattle.tsp_top.specs.InputRounds.{is_between}
use Rattle.tsp_top.specs.LeftOut.{is_below, position_of}
use Rattle.tsp_top.proofs.GapLemmas.{groups-more, position-more, times-more}

-- ---- positions of packets

-- where a group of packets ends, one more is whole
group-ends : (k n : ℕ) → 1 ≤ k → (n + 1) % k ≡ 0 → n / k + 1 ≤ (n + 1) / k
group-ends k n some none =
    elim (cases_lt (n / k) ((n + 1) / k)) [
      | inl less ↦ omega arith
      | inr few ↦
          let whole : (n + 1) / k * k + (n + 1) % k ≡ n + 1 = div-add-mod' (n + 1) k in
          let within : k * (n / k) ≤ n = mul-div-le n k in
          let swapped : (n + 1) / k * k ≡ k * ((n + 1) / k) = omega arith in
          let more : k * ((n + 1) / k) ≤ k * (n / k) = times-more k ((n + 1) / k) (n / k) few in
          absurd (omega arith)
    ]

nulls-count : (stuffing : Stuffing) (n : ℕ) → 1 ≤ stuffing.every
    → length (nulls_after stuffing (n + 1)) + stuffing.null * (n / stuffing.every) ≤ stuffing.null * ((n + 1) / stuffing.every)
nulls-count stuffing n some = by ((n + 1) % stuffing.every == 0) refl
  where
    by : (b : Bool) → ((n + 1) % stuffing.every == 0) ≡ b
        → length (if b then null_cells stuffing.null else []) + stuffing.null * (n / stuffing.every) ≤ stuffing.null * ((n + 1) / stuffing.every)
    by true is =
        let ends : n / stuffing.every + 1 ≤ (n + 1) / stuffing.every = group-ends stuffing.every n some (eqb-true ((n + 1) % stuffing.every) 0 is) in
        let more : stuffing.null * (n / stuffing.every + 1) ≤ stuffing.null * ((n + 1) / stuffing.every) = times-more stuffing.null (n / stuffing.every + 1) ((n + 1) / stuffing.every) ends in
        let own : stuffing.null * (n / stuffing.every + 1) ≡ stuffing.null * (n / stuffing.every) + stuffing.null = omega (arith, mul-suc stuffing.null (n / stuffing.every)) in
        let long : length (null_cells stuffing.null) ≡ stuffing.null = length-replicate stuffing.null (Live null_packet no_labels) in
        omega arith
    by false is =
        let more = times-more stuffing.null (n / stuffing.every) ((n + 1) / stuffing.every) (groups-more stuffing.every n (n + 1) some (omega arith)) in
        omega (arith, more)

stuffed-long : (stuffing : Stuffing) (n : ℕ) (packets : List (List ℕ)) → 1 ≤ stuffing.every
    → length (stuffed_after stuffing n packets) + stuffing.null * (n / stuffing.every) ≤ length packets + stuffing.null * ((n + length packets) / stuffing.every)
stuffed-long stuffing n [] some =
    let more = times-more stuffing.null (n / stuffing.every) ((n + 0) / stuffing.every) (groups-more stuffing.every n (n + 0) some (omega arith)) in
    omega (arith, more)
stuffed-long stuffing n (packet ∷ packets) some =
    let nulls = nulls-count stuffing n some in
    let rest = stuffed-long stuffing (n + 1) packets some in
    let long = length-append (nulls_after stuffing (n + 1)) (stuffed_after stuffing (n + 1) packets) in
    let same : stuffing.null * (((n + 1) + length packets) / stuffing.every) ≡ stuffing.null * ((n + suc (length packets)) / stuffing.every) =
    ap (λ (k : ℕ). stuffing.null * (k / stuffing.every)) (let e : (n + 1) + length packets ≡ n + suc (length packets) = omega arith in e) in
    omega (arith, nulls, rest, long, same)

limit-few : (cells : List Cell) (how : InputEnd) → length (within_limit cells how).cells ≤ length cells
limit-few cells how =
    elim (cases_lt (2 ^ 60) (length cells)) [
      | inl long ↦
          let is : length (within_limit cells how).cells ≡ length (take (2 ^ 60) cells) = ap (λ (l : StageList). length l.cells) (cond-false _ _ _ (lt-leb (length cells) (2 ^ 60) long)) in
          omega (arith, is, length-take (2 ^ 60) cells)
      | inr short ↦
          let is : length (within_limit cells how).cells ≡ length cells = ap (λ (l : StageList). length l.cells) (cond-true _ _ _ (le-leb (length cells) (2 ^ 60) short)) in
          omega (arith, is)
    ]

pub cells-within : (stuffing : Stuffing) (read : List ℕ) → 1 ≤ stuffing.every
    → length (list_at_fault stuffing read).cells ≤ position_of stuffing (length (packets_of read))
cells-within stuffing read some =
    let packets : List (List ℕ) = packets_of read in
    let long = stuffed-long stuffing 0 packets some in
    let first : length (null_cells stuffing.start) ≡ stuffing.start = length-replicate stuffing.start (Live null_packet no_labels) in
    let same : stuffing.null * ((0 + length packets) / stuffing.every) ≡ stuffing.null * (length packets / stuffing.every) =
    ap (λ (k : ℕ). stuffing.null * (k / stuffing.every)) (let e : 0 + length packets ≡ length packets = omega arith in e) in
    let none : List Cell = [] in
    let all = length-append (null_cells stuffing.start) (stuffed_after stuffing 0 packets ++ none) in
    let inner = length-append (stuffed_after stuffing 0 packets) none in
    let few = limit-few (null_cells stuffing.start ++ (stuffed_after stuffing 0 packets ++ none)) ReadFault in
    omega (arith, long, first, same, all, inner, few)

-- the packets at the front of bytes
packets-fit : (most : ℕ) (bytes : List ℕ) → 188 * length (packets_within most bytes) ≤ length bytes
packets-fit zero bytes = omega arith
packets-fit (suc most) bytes = by (packets-fit most (drop 188 bytes)) (is_packet_in_front bytes) refl
  where
    and-first : (a b : Bool) → (a && b) ≡ true → a ≡ true
    and-first true b e = refl
    and-first false b e = absurd cc

    by : 188 * length (packets_within most (drop 188 bytes)) ≤ length (drop 188 bytes)
        → (b : Bool) → is_packet_in_front bytes ≡ b → 188 * length (if b then take 188 bytes ∷ packets_within most (drop 188 bytes) else []) ≤ length bytes
    by rest true is =
        let has : 188 ≤ length bytes = leb-true 188 (length bytes) (and-first (nat_le 188 (length bytes)) _ is) in
        omega (arith, rest, has, length-drop 188 bytes)
    by rest false is = omega arith

pub packets-few : (read : List ℕ) → 188 * length (packets_of read) ≤ length read
packets-few read = packets-fit (length read) read

-- ---- gaps by positions

abbrev pub below : Stuffing → ℕ → Gap → Bool
below stuffing m gap = is_below stuffing m gap.before

rising-less : (n k : ℕ) (gaps : List Gap) → n ≤ k → Rising k gaps → Rising n gaps
rising-less n k [] few rises = tt
rising-less n k (gap ∷ gaps) few rises = (omega (arith, rises.0), rises.1)

-- none of gaps that begin behind a position is before it
pub none-below : (stuffing : Stuffing) (m n : ℕ) (gaps : List Gap) → 1 ≤ stuffing.every → m ≤ position_of stuffing n → Rising n gaps → AllByRecursion (λ (gap : Gap). below stuffing m gap ≡ false) gaps
none-below stuffing m n [] some reach rises = tt
none-below stuffing m n (gap ∷ gaps) some reach rises =
    let more : position_of stuffing n ≤ position_of stuffing gap.before = position-more stuffing n gap.before some rises.0 in (
      le-ltb (position_of stuffing gap.before) m (omega arith),
      none-below stuffing m n gaps some reach (rising-less n gap.before gaps rises.0 rises.1),
    )

pub filter-none : {A : Type 0} (test : A → Bool) (xs : List A) → AllByRecursion (λ (x : A). test x ≡ false) xs → filter test xs ≡ []
filter-none test [] all = refl
filter-none test (x ∷ xs) all = ap (λ (b : Bool). cond b (x ∷ filter test xs) (filter test xs)) all.0 ∙ filter-none test xs all.1

pub filter-whole : {A : Type 0} (test : A → Bool) (xs : List A) → AllByRecursion (λ (x : A). test x ≡ true) xs → filter test xs ≡ xs
filter-whole test [] all = refl
filter-whole test (x ∷ xs) all = ap (λ (b : Bool). cond b (x ∷ filter test xs) (filter test xs)) all.0 ∙ ap (λ (l : List _). x ∷ l) (filter-whole test xs all.1)

and-true : (x : Bool) → (x && not false) ≡ x
and-true true = refl
and-true false = refl

-- of gaps that are all behind a position
same-between : (stuffing : Stuffing) (from to : ℕ) (gaps : List Gap) → AllByRecursion (λ (gap : Gap). below stuffing from gap ≡ false) gaps
    → filter (is_between stuffing from to) gaps ≡ filter (below stuffing to) gaps
same-between stuffing from to [] all = refl
same-between stuffing from to (gap ∷ gaps) all =
    let rest : List Gap = filter (is_between stuffing from to) gaps in
    ap (λ (b : Bool). cond (is_below stuffing to gap.before && not b) (gap ∷ rest) rest) all.0
    ∙ ap (λ (b : Bool). cond b (gap ∷ rest) rest) (and-true (is_below stuffing to gap.before))
    ∙ ap (λ (l : List Gap). cond (is_below stuffing to gap.before) (gap ∷ l) l) (same-between stuffing from to gaps all.1)

-- the gaps before a position are those before an earlier one and those between the two
pub in-two : (stuffing : Stuffing) (from to n : ℕ) (gaps : List Gap) → 1 ≤ stuffing.every → from ≤ to → Rising n gaps
    → filter (below stuffing to) gaps ≡ filter (below stuffing from) gaps ++ filter (is_between stuffing from to) gaps
in-two stuffing from to n [] some le rises = refl
in-two stuffing from to n (gap ∷ gaps) some le rises = by (in-two stuffing from to gap.before gaps some le rises.1) (below stuffing from gap) refl
  where
    by : filter (below stuffing to) gaps ≡ filter (below stuffing from) gaps ++ filter (is_between stuffing from to) gaps
        → (b : Bool) → below stuffing from gap ≡ b → filter (below stuffing to) (gap ∷ gaps) ≡ filter (below stuffing from) (gap ∷ gaps) ++ filter (is_between stuffing from to) (gap ∷ gaps)
    by rest true is =
        let less : position_of stuffing gap.before < from = ltb-true (position_of stuffing gap.before) from is in
        let also : below stuffing to gap ≡ true = lt-ltb (position_of stuffing gap.before) to (omega arith) in
        let not_between : is_between stuffing from to gap ≡ false = ap (λ (b : Bool). is_below stuffing to gap.before && not b) is ∙ ap (λ (b : Bool). b && false) also in
        ap (λ (b : Bool). cond b (gap ∷ filter (below stuffing to) gaps) (filter (below stuffing to) gaps)) also
        ∙ ap (λ (l : List Gap). gap ∷ l) rest
        ∙ sym (ap (λ (b : Bool). cond b (gap ∷ filter (below stuffing from) gaps) (filter (below stuffing from) gaps) ++ filter (is_between stuffing from to) (gap ∷ gaps)) is
        ∙ ap (λ (b : Bool). (gap ∷ filter (below stuffing from) gaps) ++ cond b (gap ∷ filter (is_between stuffing from to) gaps) (filter (is_between stuffing from to) gaps)) not_between)
    by rest false is =
        let far : from ≤ position_of stuffing gap.before = ltb-false (position_of stuffing gap.before) from is in
        let all = none-below stuffing from gap.before (gap ∷ gaps) some far (omega arith, rises.1) in
        sym (ap (λ (l : List Gap). l ++ filter (is_between stuffing from to) (gap ∷ gaps)) (filter-none (below stuffing from) (gap ∷ gaps) all)
        ∙ same-between stuffing from to (gap ∷ gaps) all)

-- ---- the gaps of a round in a file that is known

-- what is let go is before the round
pub between-since : (u test : Gap → Bool) (gaps : List Gap) → ((gap : Gap) → u gap ≡ false → test gap ≡ false) → filter test (filter u gaps) ≡ filter test gaps
between-since u test [] none = refl
between-since u test (gap ∷ gaps) none = by (between-since u test gaps none) (u gap) refl
  where
    by : filter test (filter u gaps) ≡ filter test gaps → (b : Bool) → u gap ≡ b → filter test (cond b (gap ∷ filter u gaps) (filter u gaps)) ≡ filter test (gap ∷ gaps)
    by rest true is = ap (λ (l : List Gap). cond (test gap) (gap ∷ l) l) rest
    by rest false is = rest ∙ sym (ap (λ (b : Bool). cond b (gap ∷ filter test gaps) (filter test gaps)) (none gap is))

below-both : (a b : Bool) → a ≡ false → (a && b) ≡ false
below-both a b is = ap (λ (x : Bool). x && b) is

-- gaps before packets of which no byte was read are not before where these bytes reach
later-none : (stuffing : Stuffing) (from to : ℕ) (read : List ℕ) (gaps : List Gap) → 1 ≤ stuffing.every → to ≤ length (list_at_fault stuffing read).cells
    → AllByRecursion (λ (gap : Gap). length read ≤ 188 * gap.before) gaps → AllByRecursion (λ (gap : Gap). is_between stuffing from to gap ≡ false) gaps
later-none stuffing from to read [] some reach all = tt
later-none stuffing from to read (gap ∷ gaps) some reach all =
    let few : length (packets_of read) ≤ gap.before = omega (arith, packets-few read, all.0) in
    let more : position_of stuffing (length (packets_of read)) ≤ position_of stuffing gap.before = position-more stuffing (length (packets_of read)) gap.before some few in
    let far : is_below stuffing to gap.before ≡ false = le-ltb (position_of stuffing gap.before) to (omega (arith, more, reach, cells-within stuffing read some)) in (
      below-both (is_below stuffing to gap.before) (not (is_below stuffing from gap.before)) far,
      later-none stuffing from to read gaps some reach all.1,
    )

-- a gap that may be gone is before the round
gone-before : (stuffing : Stuffing) (from to kept : ℕ) → 1 ≤ stuffing.every → (kept ≡ 0) ⊎ (is_below stuffing from (kept - 1) ≡ true)
    → (gap : Gap) → is_since kept gap ≡ false → is_between stuffing from to gap ≡ false
gone-before stuffing from to kept some (inl none) gap gone =
    let few : gap.before < kept = leb-false kept gap.before gone in absurd (omega (arith, few, none))
gone-before stuffing from to kept some (inr before) gap gone =
    let few : gap.before < kept = leb-false kept gap.before gone in
    let less : position_of stuffing (kept - 1) < from = ltb-true (position_of stuffing (kept - 1)) from before in
    let more : position_of stuffing gap.before ≤ position_of stuffing (kept - 1) = position-more stuffing gap.before (kept - 1) some (omega (arith, few)) in
    let is : is_below stuffing from gap.before ≡ true = lt-ltb (position_of stuffing gap.before) from (omega (arith, less, more)) in
    ap (λ (b : Bool). is_below stuffing to gap.before && not b) is ∙ and-false (is_below stuffing to gap.before)
  where
    and-false : (x : Bool) → (x && false) ≡ false
    and-false true = refl
    and-false false = refl

-- so the gaps of the round that were noted are those of the file
pub round-gaps : (stuffing : Stuffing) (from to kept : ℕ) (form : Form) (file read : List ℕ) (gaps : List Gap) → 1 ≤ stuffing.every
    → NotedOf form file read kept gaps → (kept ≡ 0) ⊎ (is_below stuffing from (kept - 1) ≡ true)
    → (length (found_in form file).bytes ≤ length read) ⊎ (to ≤ length (list_at_fault stuffing read).cells)
    → filter (is_between stuffing from to) gaps ≡ filter (is_between stuffing from to) (found_in form file).gaps
round-gaps stuffing from to kept form file read gaps some noted has reach =
    let test : Gap → Bool = is_between stuffing from to in
    let gone = gone-before stuffing from to kept some has in
    sym (sym (between-since (is_since kept) test (found_in form file).gaps gone)
    ∙ ap (filter test) noted.all_are
    ∙ between-since (is_since kept) test (gaps ++ noted.later) gone
    ∙ filter-append test gaps noted.later
    ∙ ap (λ (l : List Gap). filter test gaps ++ l) (behind reach)
    ∙ append-nil (filter test gaps))
  where
    behind : (length (found_in form file).bytes ≤ length read) ⊎ (to ≤ length (list_at_fault stuffing read).cells) → filter (is_between stuffing from to) noted.later ≡ []
    behind (inl all) = ap (filter (is_between stuffing from to)) (noted.none_left all)
    behind (inr far) = filter-none (is_between stuffing from to) noted.later (later-none stuffing from to read noted.later some far noted.behind)

-- ---- the gaps before a position, and those from there on

pub record Split (stuffing : Stuffing) (m : ℕ) (gaps : List Gap) : Type 0 where
  pub later : List Gap
  pub are : gaps ≡ filter (below stuffing m) gaps ++ later
  pub behind : AllByRecursion (λ (gap : Gap). is_below stuffing m gap.before ≡ false) later

pub split-gaps : (stuffing : Stuffing) (m n : ℕ) (gaps : List Gap) → 1 ≤ stuffing.every → Rising n gaps → Split stuffing m gaps
split-gaps stuffing m n [] some rises = record { later = []; are = refl; behind = tt }
split-gaps stuffing m n (gap ∷ gaps) some rises = by (split-gaps stuffing m gap.before gaps some rises.1) (below stuffing m gap) refl
  where
    by : Split stuffing m gaps → (b : Bool) → below stuffing m gap ≡ b → Split stuffing m (gap ∷ gaps)
    by rest true is = record {
      later = rest.later;
      are = ap (λ (l : List Gap). gap ∷ l) rest.are
          ∙ sym (ap (λ (b : Bool). cond b (gap ∷ filter (below stuffing m) gaps) (filter (below stuffing m) gaps) ++ rest.later) is);
      behind = rest.behind;
    }
    by rest false is =
        let far : m ≤ position_of stuffing gap.before = ltb-false (position_of stuffing gap.before) m is in
        let all = none-below stuffing m gap.before (gap ∷ gaps) some far (omega arith, rises.1) in
        record {
          later = gap ∷ gaps;
          are = sym (ap (λ (l : List Gap). l ++ (gap ∷ gaps)) (filter-none (below stuffing m) (gap ∷ gaps) all));
          behind = all;
        }
