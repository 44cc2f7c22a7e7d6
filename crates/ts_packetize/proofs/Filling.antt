-- Payloads with stuffing, and the loads in which bytes continue.
use Rattle.std.proofs.Common.{◌≡◌, ℕ, ◌+◌, ◌-◌, ◌≤◌, ◌<◌, List, [], ◌∷◌, ◌++◌, length, take, drop, replicate, zero, suc, sym, ◌∙◌, ap, arith, append-nil, length-take, inl, inr, ◌⊎◌}
use Rattle.std.proofs.lemmas.List.{take_all, take-take}
use Rattle.std.proofs.Math.ListN.{drop_of_length-le}
use Rattle.std.proofs.lemmas.Bool.Decides.{leb_tells}
use Rattle.ts_packet.specs.Payload.{with_piece}
use Rattle.ts_packetize.specs.Packing.{filled}

pub le_or_lt : (a b : ℕ) → (a ≤ b) ⊎ (b < a)
le_or_lt a b = elim (leb_tells a b) as (λ _. (a ≤ b) ⊎ (b < a)) [ inl h ↦ inl h.1 | inr h ↦ inr h.1 ]

drop-replicate : (n m x : ℕ) → drop n (replicate m x) ≡ replicate (m - n) x
drop-replicate zero m x = ap (λ k. replicate k x) (let e : m ≡ m - 0 = omega arith in e)
drop-replicate (suc n) zero x = ap (λ k. replicate k x) (let e : 0 ≡ 0 - suc n = omega arith in e)
drop-replicate (suc n) (suc m) x = drop-replicate n m x ∙ ap (λ k. replicate k x) (let e : m - n ≡ suc m - suc n = omega arith in e)

drop_four : (n a b c d : ℕ) (xs : List ℕ) → drop (4 + n) (a ∷ b ∷ c ∷ d ∷ xs) ≡ drop n xs
drop_four n a b c d xs = ap (λ k. drop k (a ∷ b ∷ c ∷ d ∷ xs)) (let e : 4 + n ≡ suc (suc (suc (suc n))) = omega arith in e)

-- few bytes are all there, and stuffing bytes follow
pub filled_few : (bytes : List ℕ) → length bytes ≤ 184 → filled bytes ≡ bytes ++ replicate (184 - length bytes) 0xFF
filled_few bytes h = ap (λ t. t ++ replicate (184 - length bytes) 0xFF) (take_all 184 bytes h)

pub filled_many : (bytes : List ℕ) → 184 ≤ length bytes → filled bytes ≡ take 184 bytes
filled_many bytes h =
    ap (λ k. take 184 bytes ++ replicate k 0xFF) (let e : 184 - length bytes ≡ 0 = omega arith in e) ∙ append-nil (take 184 bytes)

-- a packet of stuffing bytes with a piece at the beginning of its payload
pub laid_plain :
    (a b c d : ℕ) (bytes blank one : List ℕ) → length bytes ≤ 184 →
    blank ≡ a ∷ b ∷ c ∷ d ∷ replicate 184 0xFF → one ≡ with_piece blank 4 bytes →
    one ≡ a ∷ b ∷ c ∷ d ∷ filled bytes
laid_plain a b c d bytes blank one h is laid =
    let front = a ∷ b ∷ c ∷ d ∷ [] in
    let body : with_piece (a ∷ b ∷ c ∷ d ∷ replicate 184 0xFF) 4 bytes ≡ front ++ filled bytes =
    ap (λ t. front ++ (bytes ++ t)) (drop_four (length bytes) a b c d (replicate 184 0xFF) ∙ drop-replicate (length bytes) 184 0xFF)
    ∙ ap (λ t. front ++ t) (sym (filled_few bytes h)) in
    laid ∙ ap (λ t. with_piece t 4 bytes) is ∙ body

-- the first part of some bytes fills a payload as they do
pub filled-first : (m : ℕ) (bytes : List ℕ) → m ≤ length bytes → m ≤ 184 → (m < 184 → m ≡ length bytes) → filled (take m bytes) ≡ filled bytes
filled-first m bytes h k all =
    elim (le_or_lt 184 m) as (λ _. filled (take m bytes) ≡ filled bytes) [
      | inl l ↦
          (let e : m ≡ 184 = omega arith in
          let t : length (take 184 bytes) ≡ 184 = omega (arith, length-take 184 bytes) in
          ap (λ n. filled (take n bytes)) e
          ∙ filled_many (take 184 bytes) (omega arith)
          ∙ take-take 184 184 bytes (omega arith)
          ∙ sym (filled_many bytes (omega arith)))
      | inr l ↦ ap filled (take_all m bytes (omega (arith, all l)))
    ]

-- and what is left of them is what is left after a full payload
pub left_after : (m most : ℕ) (bytes : List ℕ) → m ≤ most → (m < most → m ≡ length bytes) → drop m bytes ≡ drop most bytes
left_after m most bytes h all =
    elim (le_or_lt most m) as (λ _. drop m bytes ≡ drop most bytes) [
      | inl l ↦ (let e : m ≡ most = omega arith in ap (λ n. drop n bytes) e)
      | inr l ↦
          (let e = all l in
          drop_of_length-le bytes {i = m} (omega arith) ∙ sym (drop_of_length-le bytes {i = most} (omega arith)))
    ]
