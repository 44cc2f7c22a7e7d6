-- The packets that are found in a file are those of their own bytes, and the bytes that are left out are all others.
use Rattle.std.proofs.Common.{◌≡◌, ℕ, zero, suc, ◌+◌, ◌*◌, ◌<◌, ◌≤◌, ◌^◌, ◌&&◌, Bool, true, false, List, [], ◌∷◌, ◌++◌, length, take, drop, refl, ap, sym, ◌∙◌, subst, arith, length-append, length-drop, length-take, take_at, drop_at, eq-eqb}
use Rattle.std.specs.Prelude.{get_or, nat_le, ◌%◌, ◌==◌, if◌then◌else◌, Some}
use Rattle.switch_top.specs.Switched.{is_plain}
use Rattle.std.specs.List.{concat}
use Rattle.std.proofs.lemmas.Bool.{cond-true, le-leb}
use Rattle.std.proofs.lemmas.List.{get_or_append_left, drop_all}
use Rattle.ts_packet.specs.declared.cell.Cell.{Cell}
use Rattle.ts_outside.specs.Count.{count_end}
use Rattle.packet_forms.specs.declared.forms.Form.TheVariants.{Ts}
use Rattle.packet_search.specs.Search.{Found, search, packets_in}
use Rattle.packet_search.specs.Standing.{StandIn}
use Rattle.packet_search.proofs.Stands.{stand}
use Rattle.packet_search.proofs.Units.{whole-has}
use Rattle.search_source.specs.declared.gap.Gap.{Gap}
use Rattle.search_source.specs.Gaps.{counted, gap_before, gaps_from}
use Rattle.search_source.specs.Coming.{found_in}
use Rattle.chain_model.specs.declared.positions.TheConstants.{POSITION_LIMIT}
use Rattle.chain_model.specs.declared.input_end.InputEnd.TheVariants.{End, Sync, TooLong}
use Rattle.chain_model.specs.Apply.{StageList, input_over}
use Rattle.chain_model.specs.InputList.{InputList, is_packet_in_front, packets_within, packets_of, end_after, input_of_bytes}
use Rattle.chain_model.specs.Stuffed.{no_stuffing, stuffed, stuffed_after, nulls_after, null_cells, within_limit}
use Rattle.chain_plays.specs.PlayList.{play_of}
use Rattle.switch_top.specs.PlayLists.{left_out_of, found_play, leaving}
use Rattle.switch_top.specs.LeftOut.{bytes_of_gaps, left_out_in}

-- what is found stands in the file
pub found-stand : (file : List ℕ) → StandIn Ts (search Ts file).found (search Ts file).behind file
unfolding search
found-stand file = stand Ts 0 true 0 [] file refl

first-same : (bytes : List ℕ) → 188 ≤ length bytes → get_or (take 188 bytes) 0 0 ≡ get_or bytes 0 0
first-same [] some = absurd (omega arith)
first-same (x ∷ bytes) some = refl

-- a packet that is found
record IsFound (packet : List ℕ) : Type 0 where
  long : length packet ≡ 188
  sync : get_or packet 0 0 ≡ 71

is-found : (each : Found) (found : List Found) (behind : ℕ) (bytes : List ℕ) → StandIn Ts (each ∷ found) behind bytes → IsFound each.packet
is-found each found behind bytes stands =
    let X : List ℕ = drop each.left_out bytes in
    let has = whole-has Ts X stands.0 in
    let some : 188 ≤ length X = has.0 in
    subst IsFound (sym stands.1) (record { long = omega (arith, length-take 188 X, some); sync = first-same X some ∙ has.1 })

front-is : (packet rest : List ℕ) → IsFound packet → is_packet_in_front (packet ++ rest) ≡ true
front-is packet rest is =
    let some : 0 < length packet = (let l = is.long in omega (arith, l)) in
    both (nat_le 188 (length (packet ++ rest))) _
    (le-leb 188 (length (packet ++ rest)) (let l = is.long in omega (arith, l, length-append packet rest)))
    (eq-eqb _ _ (get_or_append_left packet rest 0 0 some ∙ is.sync))
  where
    both : (a b : Bool) → a ≡ true → b ≡ true → (a && b) ≡ true
    both a b p q = rw (p, q) refl

within-found : (most : ℕ) (found : List Found) (behind : ℕ) (bytes : List ℕ) → StandIn Ts found behind bytes → length found ≤ most → packets_within most (concat (packets_in found)) ≡ packets_in found
within-found zero [] behind bytes stands few = refl
within-found (suc most) [] behind bytes stands few = refl
within-found zero (each ∷ found) behind bytes stands few = absurd (omega (arith, few))
within-found (suc most) (each ∷ found) behind bytes stands few =
    let is = is-found each found behind bytes stands in
    let rest : List ℕ = concat (packets_in found) in
    cond-true _ _ _ (front-is each.packet rest is)
    ∙ ap (λ (l : List ℕ). l ∷ packets_within most (drop 188 (each.packet ++ rest))) (take_at each.packet rest 188 is.long)
    ∙ ap (λ (l : List ℕ). each.packet ∷ packets_within most l) (drop_at each.packet rest 188 is.long)
    ∙ ap (λ (l : List (List ℕ)). each.packet ∷ l) (within-found most found behind (drop (each.left_out + 188) bytes) stands.2 (omega (arith, few)))

long-found : (found : List Found) (behind : ℕ) (bytes : List ℕ) → StandIn Ts found behind bytes → length (concat (packets_in found)) ≡ 188 * length found
long-found [] behind bytes stands = refl
long-found (each ∷ found) behind bytes stands =
    let is = is-found each found behind bytes stands in
    let rest = long-found found behind (drop (each.left_out + 188) bytes) stands.2 in
    let l = is.long in
    omega (arith, length-append each.packet (concat (packets_in found)), rest, l)

many-packets : (found : List Found) → length (packets_in found) ≡ length found
many-packets [] = refl
many-packets (each ∷ found) = ap suc (many-packets found)

-- the bytes of the packets that are found have these packets, and nothing is left over
pub input-found : (found : List Found) (behind : ℕ) (bytes : List ℕ) → StandIn Ts found behind bytes → input_of_bytes (concat (packets_in found)) ≡ record { packets = packets_in found; ended = End 0 }
input-found found behind bytes stands =
    let long = long-found found behind bytes stands in
    let all : List ℕ = concat (packets_in found) in
    let packets : packets_of all ≡ packets_in found = within-found (length all) found behind bytes stands (omega (arith, long)) in
    let many = many-packets found in
    let none : drop (188 * length (packets_in found)) all ≡ [] = drop_all (188 * length (packets_in found)) all (omega (arith, long, many)) in
    ap (λ (p : List (List ℕ)). let i : InputList = record { packets = p; ended = end_after (length p) (drop (188 * length p) all) } in i) packets
    ∙ ap (λ (l : List ℕ). let i : InputList = record { packets = packets_in found; ended = end_after (length (packets_in found)) l } in i) none

abbrev limited : ℕ → List Cell → Bool → StageList
limited left cells b =
    if b then record { cells = cells; ended = Some (input_over (End left)) } else record { cells = take POSITION_LIMIT cells; ended = Some (input_over TooLong) }

leaving-limited : (left : ℕ) (cells : List Cell) (b : Bool) → leaving left (limited 0 cells b) ≡ limited left cells b
leaving-limited left cells true = refl
leaving-limited left cells false = refl

leaving-within : (left : ℕ) (cells : List Cell) → leaving left (within_limit cells (End 0)) ≡ within_limit cells (End left)
leaving-within left cells = leaving-limited left cells (nat_le (length cells) POSITION_LIMIT)

-- the list of a play of these bytes, with what is left out of the file
pub found-leaves : (file : List ℕ) → leaving (left_out_of file) (play_of (found_in Ts file).bytes) ≡ found_play file
unfolding found_play
found-leaves file =
    ap (λ (i : InputList). leaving (left_out_of file) (stuffed no_stuffing i)) (input-found (search Ts file).found (search Ts file).behind file (found-stand file))
    ∙ leaving-within (left_out_of file) _

-- ---- how many bytes are left out

gap-bytes : (number left : ℕ) (gaps : List Gap) → left ≤ count_end → bytes_of_gaps (gap_before number left ++ gaps) ≡ left + bytes_of_gaps gaps
unfolding gap_before bytes_of_gaps
gap-bytes number zero gaps few = omega arith
gap-bytes number (suc left) gaps few = omega (arith, few)

all-bytes : (number : ℕ) (found : List Found) (behind : ℕ) (bytes : List ℕ) → StandIn Ts found behind bytes → length bytes < 2 ^ 63
    → bytes_of_gaps (gaps_from number found) + counted behind + 188 * length found ≡ length bytes
unfolding gaps_from bytes_of_gaps
all-bytes number [] behind bytes stands small = omega (arith, stands, small)
all-bytes number (each ∷ found) behind bytes stands small =
    let has : 188 ≤ length (drop each.left_out bytes) = (whole-has Ts (drop each.left_out bytes) stands.0).0 in
    let long = length-drop each.left_out bytes in
    let rest_long = length-drop (each.left_out + 188) bytes in
    let rest = all-bytes (suc number) found behind (drop (each.left_out + 188) bytes) stands.2 (omega (arith, small, rest_long)) in
    let first = gap-bytes number each.left_out (gaps_from (suc number) found) (omega (arith, small, has, long)) in
    omega (arith, has, long, rest_long, rest, first)

-- all that is left out
pub left-out-is : (file : List ℕ) → length file < 2 ^ 63 → left_out_in (found_in Ts file) ≡ left_out_of file
unfolding left_out_of
left-out-is file small =
    let all = all-bytes 0 (search Ts file).found (search Ts file).behind file (found-stand file) small in
    omega (arith, all)

pub left-out-small : (file : List ℕ) → left_out_of file ≤ length file
unfolding left_out_of
left-out-small file = omega arith

-- the bytes of packets are no more than those of the file
pub found-small : (file : List ℕ) → length file < 2 ^ 63 → length (found_in Ts file).bytes ≤ length file
found-small file small =
    let all = all-bytes 0 (search Ts file).found (search Ts file).behind file (found-stand file) small in
    let long = long-found (search Ts file).found (search Ts file).behind file (found-stand file) in
    omega (arith, all, long)

-- ---- how such a list ends

never-sync : (left : ℕ) (cells : List Cell) (packet : ℕ) (b : Bool) → (limited left cells b).ended ≡ Some (input_over (Sync packet)) → ⊥
never-sync left cells packet true e = (let bad : Some (input_over (End left)) ≡ Some (input_over (Sync packet)) = e in cc)
never-sync left cells packet false e = (let bad : Some (input_over TooLong) ≡ Some (input_over (Sync packet)) = e in cc)

plain-within : (left : ℕ) (cells : List Cell) (b : Bool) → b ≡ true → is_plain (limited left cells b).ended ≡ true
plain-within left cells b is = ap (λ (c : Bool). is_plain (limited left cells c).ended) is

-- it does not lose sync
pub found-in-sync : (file : List ℕ) (packet : ℕ) → (found_play file).ended ≡ Some (input_over (Sync packet)) → ⊥
unfolding found_play
found-in-sync file packet e =
    let all : List Cell = stuffed_after no_stuffing 0 (packets_in (search Ts file).found) ++ [] in
    never-sync (left_out_of file) all packet (nat_le (length all) POSITION_LIMIT) e

none-put : (n : ℕ) → nulls_after no_stuffing n ≡ []
none-put n = by-turn (n % 1 == 0)
  where
    by-turn : (b : Bool) → (if b then null_cells 0 else []) ≡ []
    by-turn true = refl
    by-turn false = refl

many-cells : (n : ℕ) (packets : List (List ℕ)) → length (stuffed_after no_stuffing n packets) ≡ length packets
many-cells n [] = refl
many-cells n (packet ∷ packets) = ap (λ (l : List Cell). suc (length (l ++ stuffed_after no_stuffing (n + 1) packets))) (none-put (n + 1)) ∙ ap suc (many-cells (n + 1) packets)

few-found : (found : List Found) (behind : ℕ) (bytes : List ℕ) → StandIn Ts found behind bytes → 188 * length found ≤ length bytes
few-found [] behind bytes stands = omega arith
few-found (each ∷ found) behind bytes stands =
    let has : 188 ≤ length (drop each.left_out bytes) = (whole-has Ts (drop each.left_out bytes) stands.0).0 in
    let rest = few-found found behind (drop (each.left_out + 188) bytes) stands.2 in
    omega (arith, has, rest, length-drop each.left_out bytes, length-drop (each.left_out + 188) bytes)

-- it ends plainly where the file has no more bytes than 2^60 packets
pub found-plain : (file : List ℕ) → length file ≤ 188 * 2 ^ 60 → is_plain (found_play file).ended ≡ true
unfolding found_play
found-plain file few =
    let found = (search Ts file).found in
    let all : List Cell = stuffed_after no_stuffing 0 (packets_in found) ++ [] in
    let fits : length all ≤ 2 ^ 60 = (let a = few-found found (search Ts file).behind file (found-stand file) in let b = many-packets found in let c = many-cells 0 (packets_in found) in let d = length-append (stuffed_after no_stuffing 0 (packets_in found)) [] in omega (arith, a, b, c, d, few)) in
    plain-within (left_out_of file) all (nat_le (length all) POSITION_LIMIT) (le-leb (length all) (2 ^ 60) fits)
