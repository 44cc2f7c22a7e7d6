-- The packets of bytes that begin with packets.
use Rattle.std.proofs.Common.{◌≡◌, ℕ, zero, suc, ◌+◌, ◌-◌, ◌*◌, ◌<◌, ◌&&◌, Bool, true, false, List, [], ◌∷◌, ◌++◌, length, take, drop, refl, ap, ◌∙◌, arith, append_assoc, append-nil, length-append, take_at, drop_at, eq-eqb, ne_eqb, zero-add}
use Rattle.std.proofs.lemmas.Bool.{cond-true, cond-false, le-leb, lt-leb}
use Rattle.std.proofs.lemmas.List.{get_or_append_left}
use Rattle.std.proofs.lemmas.List.Elements.{All-head, All-tail}
use Rattle.std.specs.List.{All, concat}
use Rattle.ts_packet.specs.Packet.{IsPacket}
use Rattle.chain_model.specs.declared.input_end.InputEnd.TheVariants.{End, Sync}
use Rattle.chain_model.specs.InputList.{is_packet_in_front, packets_within, packets_of, end_after}
use Rattle.stage_run.specs.Rows.{IsUnfinished, IsOutOfSync, BeginsPacket}
use Rattle.stage_run.proofs.StreamLemmas.{length-concat}

both-true : (a b : Bool) → a ≡ true → b ≡ true → (a && b) ≡ true
both-true a b p q = rw (p, q) refl

first-false : (a b : Bool) → a ≡ false → (a && b) ≡ false
first-false a b p = rw p refl

second-false : (a b : Bool) → b ≡ false → (a && b) ≡ false
second-false true b p = p
second-false false b p = refl

pub front-begins : (bytes : List ℕ) → BeginsPacket bytes → is_packet_in_front bytes ≡ true
front-begins bytes begins = both-true _ _ (le-leb 188 (length bytes) begins.whole) (eq-eqb _ _ begins.sync)

pub front-unfinished : (hand : List ℕ) → IsUnfinished hand → is_packet_in_front hand ≡ false
front-unfinished [] unfinished = refl
front-unfinished (first ∷ rest) unfinished = first-false _ _ (lt-leb 188 (length (first ∷ rest)) unfinished.1)

pub front-lost : (hand more : List ℕ) → IsOutOfSync hand → is_packet_in_front (hand ++ more) ≡ false
front-lost [] more lost = absurd lost
front-lost (first ∷ rest) more lost = second-false _ _ (ne_eqb first 0x47 lost)

front-row : (row rest : List ℕ) → IsPacket row → is_packet_in_front (row ++ rest) ≡ true
front-row row rest is =
    both-true _ _
    (le-leb 188 (length (row ++ rest)) (rw (length-append row rest, is.whole) (omega arith)))
    (eq-eqb _ _ (get_or_append_left row rest 0 0 (rw is.whole (omega arith)) ∙ is.sync))

packets_within-one : (most : ℕ) (row rest : List ℕ) → IsPacket row → packets_within (suc most) (row ++ rest) ≡ row ∷ packets_within most rest
packets_within-one most row rest is =
    cond-true _ _ _ (front-row row rest is)
    ∙ rw (take_at row rest 188 is.whole, drop_at row rest 188 is.whole) refl

pub packets_within-none : (most : ℕ) (rest : List ℕ) → is_packet_in_front rest ≡ false → packets_within most rest ≡ []
packets_within-none zero rest none = refl
packets_within-none (suc most) rest none = cond-false _ _ _ none

pub packets_within-some : (most : ℕ) (rest : List ℕ) → is_packet_in_front rest ≡ true → 0 < most → 0 < length (packets_within most rest)
packets_within-some zero rest some fuel = absurd (omega arith)
packets_within-some (suc most) rest some fuel =
    let is : packets_within (suc most) rest ≡ take 188 rest ∷ packets_within most (drop 188 rest) = cond-true _ _ _ some in
    omega (arith, ap length is)

suc-add : (a b : ℕ) → suc a + b ≡ suc (a + b)
suc-add a b = omega arith

packets_within-front : (most : ℕ) (rows : List (List ℕ)) (rest : List ℕ) → All IsPacket rows → packets_within (length rows + most) (concat rows ++ rest) ≡ rows ++ packets_within most rest
packets_within-front most [] rest are = ap (λ n. packets_within n rest) (zero-add most)
packets_within-front most (row ∷ rows) rest are =
    ap (λ n. packets_within n ((row ++ concat rows) ++ rest)) (suc-add (length rows) most)
    ∙ ap (packets_within (suc (length rows + most))) (append_assoc row (concat rows) rest)
    ∙ packets_within-one (length rows + most) row (concat rows ++ rest) (All-head IsPacket row rows are)
    ∙ ap (λ rest. row ∷ rest) (packets_within-front most rows rest (All-tail IsPacket row rows are))

-- how many packets may come after the rows, at most
abbrev pub fuel_after : List (List ℕ) → List ℕ → ℕ
fuel_after rows rest = length (concat rows ++ rest) - length rows

-- the packets are the rows, and those of the rest
pub packets_of-rows : (rows : List (List ℕ)) (rest : List ℕ) → All IsPacket rows
    → packets_of (concat rows ++ rest) ≡ rows ++ packets_within (fuel_after rows rest) rest
packets_of-rows rows rest are =
    let all : length (concat rows) ≡ 188 * length rows = length-concat rows are in
    let fuel : length (concat rows ++ rest) ≡ length rows + fuel_after rows rest = omega (arith, length-append (concat rows) rest) in
    ap (λ n. packets_within n (concat rows ++ rest)) fuel ∙ packets_within-front (fuel_after rows rest) rows rest are

-- there is fuel where bytes are left
pub fuel-some : (rows : List (List ℕ)) (rest : List ℕ) → All IsPacket rows → 0 < length rest → 0 < fuel_after rows rest
fuel-some rows rest are some = omega (arith, length-concat rows are, length-append (concat rows) rest)

-- where no packet is in front of the rest they are the rows alone
pub packets_of-all : (rows : List (List ℕ)) (rest : List ℕ) → All IsPacket rows → is_packet_in_front rest ≡ false
    → packets_of (concat rows ++ rest) ≡ rows
packets_of-all rows rest are none =
    packets_of-rows rows rest are
    ∙ ap (λ (l : List (List ℕ)). rows ++ l) (packets_within-none (fuel_after rows rest) rest none)
    ∙ append-nil rows

-- and after them stands the rest
pub rest-behind : (rows : List (List ℕ)) (rest : List ℕ) → All IsPacket rows → drop (188 * length rows) (concat rows ++ rest) ≡ rest
rest-behind rows rest are = drop_at (concat rows) rest (188 * length rows) (length-concat rows are)

pub end_after-unfinished : (n : ℕ) (hand : List ℕ) → IsUnfinished hand → end_after n hand ≡ End (length hand)
end_after-unfinished n [] unfinished = refl
end_after-unfinished n (first ∷ rest) unfinished = cond-true _ _ _ (eq-eqb first 0x47 unfinished.0)

pub end_after-lost : (n : ℕ) (hand more : List ℕ) → IsOutOfSync hand → end_after n (hand ++ more) ≡ Sync n
end_after-lost n [] more lost = absurd lost
end_after-lost n (first ∷ rest) more lost = cond-false _ _ _ (ne_eqb first 0x47 lost)
