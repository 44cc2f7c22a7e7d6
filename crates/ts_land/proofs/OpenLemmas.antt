-- Lemmas on rows of 188 bytes, one behind another.
use Rattle.std.proofs.Common.{◌≡◌, ℕ, zero, suc, ◌+◌, ◌-◌, ◌*◌, ◌<◌, List, [], ◌∷◌, ◌++◌, length, take, drop, slice_index, refl, sym, ap, ◌∙◌, arith, length-take-le, length-drop, take-append-drop, length-append}
use Rattle.std.proofs.lemmas.List.{get_or-take, get_or-drop, get_or_append_left, get_or-append-add}
use Rattle.std.proofs.Math.Seq.{take-append_seam, drop-append_seam}
use Rattle.std.specs.Prelude.{EachIndex}
use Rattle.ts_packet.specs.Packet.{IsPacket}
use Rattle.ts_land.specs.Opening.{joined, AreRows, AreInSync, rows_of}

pub bytes_long : (xs : List (List ℕ)) → AreRows xs → length (joined xs) ≡ length xs * 188
bytes_long [] are = refl
bytes_long (x ∷ xs) are =
    let a = length-append x (joined xs) in let l = are.0.whole in let r = bytes_long xs are.1 in omega (arith, a, l, r)

none_long : (bs : List ℕ) → length bs ≡ 0 → [] ≡ bs
none_long [] l = refl
none_long (b ∷ bs) l = absurd (omega (arith, l))

pub rows_long : (n : ℕ) (bs : List ℕ) → length (rows_of n bs) ≡ n
rows_long zero bs = refl
rows_long (suc n) bs = ap suc (rows_long n (drop 188 bs))

pub rows_joined : (n : ℕ) (bs : List ℕ) → length bs ≡ n * 188 → joined (rows_of n bs) ≡ bs
rows_joined zero bs l = none_long bs l
rows_joined (suc n) bs l =
    let d = length-drop 188 bs in let rest : length (drop 188 bs) ≡ n * 188 = omega (arith, l, d) in
    ap (λ (ys : List ℕ). take 188 bs ++ ys) (rows_joined n (drop 188 bs) rest) ∙ take-append-drop 188 bs

pub rows_lawful : (n : ℕ) (bs : List ℕ) → length bs ≡ n * 188 → EachIndex bs (λ k. slice_index bs k < 256) → AreInSync n bs → AreRows (rows_of n bs)
rows_lawful zero bs l small sync = tt
rows_lawful (suc n) bs l small sync =
    let d = length-drop 188 bs in let rest : length (drop 188 bs) ≡ n * 188 = omega (arith, l, d) in
    let long : length (take 188 bs) ≡ 188 = length-take-le 188 bs (omega (arith, l)) in
    let front : IsPacket (take 188 bs) = record {
      whole = long;
      sync = get_or-take 188 bs 0 _ (omega arith) ∙ sync 0 (omega arith);
      each_a_byte = λ k h. let e : slice_index (take 188 bs) k ≡ slice_index bs k = get_or-take 188 bs k _ (omega (arith, h, long)) in rw e (small k (omega (arith, h, long, l)));
    } in
    let more = rows_lawful n (drop 188 bs) rest
    (λ k h. let e : slice_index (drop 188 bs) k ≡ slice_index bs (188 + k) = get_or-drop 188 bs k _ in rw e (small (188 + k) (omega (arith, h, rest, l))))
    (λ k h. let e : slice_index (drop 188 bs) (k * 188) ≡ slice_index bs (188 + k * 188) = get_or-drop 188 bs (k * 188) _ in let f : 188 + k * 188 ≡ suc k * 188 = omega arith in e ∙ ap (slice_index bs) f ∙ sync (suc k) (omega (arith, h))) in
    (front, more)

-- the rows of packets' bytes are the packets
pub rows_of_joined : (xs : List (List ℕ)) → AreRows xs → rows_of (length xs) (joined xs) ≡ xs
rows_of_joined [] are = refl
rows_of_joined (x ∷ xs) are =
    let front : take 188 (x ++ joined xs) ≡ x = ap (λ n. take n (x ++ joined xs)) (sym are.0.whole) ∙ take-append_seam x (joined xs) in
    let back : drop 188 (x ++ joined xs) ≡ joined xs = ap (λ n. drop n (x ++ joined xs)) (sym are.0.whole) ∙ drop-append_seam x (joined xs) in
    (λ k. front k ∷ rows_of (length xs) (back k)) ∙ ap (λ (ys : List (List ℕ)). x ∷ ys) (rows_of_joined xs are.1)

-- and each begins with the sync byte
pub joined_sync : (xs : List (List ℕ)) → AreRows xs → AreInSync (length xs) (joined xs)
joined_sync [] are k lt = absurd (omega (arith, lt))
joined_sync (x ∷ xs) are zero lt = get_or_append_left x (joined xs) 0 _ (let l = are.0.whole in omega (arith, l)) ∙ are.0.sync
joined_sync (x ∷ xs) are (suc k) lt =
    let l = are.0.whole in let e : suc k * 188 ≡ length x + k * 188 = omega (arith, l) in
    ap (slice_index (x ++ joined xs)) e ∙ get_or-append-add x (joined xs) (k * 188) _ ∙ joined_sync xs are.1 k (omega (arith, lt))
