-- One ordinal more.
use Rattle.std.proofs.Common.{◌≡◌, ℕ, ◌+◌, ◌-◌, ◌%◌, ◌<◌, ◌≤◌, true, false, nat_lt, List, [], ◌∷◌, length, drop, zero, suc, Option, Some, None, slice_get, unwrap_or, refl, sym, ◌∙◌, ap, arith, inl, inr, ◌⊎◌, length-drop}
use Rattle.std.specs.Option.{option_map, option_to_list}
use Rattle.std.proofs.lemmas.Bool.Decides.{leb_tells}
use Rattle.std.proofs.Math.ListN.{drop_of_length-le}
use Rattle.ts_demux.proofs.Choice.{if_true, if_false}
use Rattle.ts_packet.specs.Header.{with_counter}
use Rattle.ts_packet.specs.Packet.{null_packet}
use Rattle.ts_packetize.specs.Cycle.{due, first_row}
use Rattle.ts_packetize.specs.Ordinals.{Cycles, start_of, packet_at, written_before, in_place, replaced_at, left_before, counted_at, GivesAt}

lt_or_le : (a b : ℕ) → ((nat_lt a b ≡ true) × (a < b)) ⊎ ((nat_lt a b ≡ false) × (b ≤ a))
lt_or_le a b = elim (leb_tells (suc a) b) as (λ _. ((nat_lt a b ≡ true) × (a < b)) ⊎ ((nat_lt a b ≡ false) × (b ≤ a))) [ inl h ↦ inl (h.0, omega (arith, h.1)) | inr h ↦ inr (h.0, omega (arith, h.1)) ]

module _ (cycle : Cycles) (n : ℕ) where
  start-same : nat_lt (suc n) (start_of cycle n + length (cycle (start_of cycle n))) ≡ true → start_of cycle (suc n) ≡ start_of cycle n
  unfolding start_of
  start-same e = if_true (nat_lt (suc n) (start_of cycle n + length (cycle (start_of cycle n)))) (start_of cycle n) (suc n) e

  start-new : nat_lt (suc n) (start_of cycle n + length (cycle (start_of cycle n))) ≡ false → start_of cycle (suc n) ≡ suc n
  unfolding start_of
  start-new e = if_false (nat_lt (suc n) (start_of cycle n + length (cycle (start_of cycle n)))) (start_of cycle n) (suc n) e

start-first : (cycle : Cycles) → start_of cycle zero ≡ 0
unfolding start_of
start-first cycle = refl

-- a cycle starts no later than an ordinal that falls into it
start-le : (cycle : Cycles) (n : ℕ) → start_of cycle n ≤ n
start-le cycle zero = (let e : start_of cycle zero ≡ 0 = start-first cycle in omega (arith, e))
start-le cycle (suc n) =
    let below = start-le cycle n in
    elim (lt_or_le (suc n) (start_of cycle n + length (cycle (start_of cycle n)))) as (λ _. start_of cycle (suc n) ≤ suc n) [
      | inl h ↦ omega (arith, start-same cycle n h.0, below)
      | inr h ↦ omega (arith, start-new cycle n h.0)
    ]

first_of_drop : (xs : List (List ℕ)) (i : ℕ) → first_row (drop i xs) ≡ slice_get xs i
first_of_drop [] zero = refl
first_of_drop [] (suc i) = refl
first_of_drop (x ∷ xs) zero = refl
first_of_drop (x ∷ xs) (suc i) = first_of_drop xs i

drop_of_drop : (xs : List (List ℕ)) (i : ℕ) → drop 1 (drop i xs) ≡ drop (suc i) xs
drop_of_drop [] zero = refl
drop_of_drop [] (suc i) = refl
drop_of_drop (x ∷ xs) zero = refl
drop_of_drop (x ∷ xs) (suc i) = drop_of_drop xs i

due-some : (left contents : List (List ℕ)) → 0 < length left → due left contents ≡ left
due-some [] contents h = absurd (omega arith)
due-some (x ∷ left) contents h = refl

-- the packets of the cycle that an ordinal falls into, from the ordinal on
abbrev due_at : Cycles → ℕ → List (List ℕ)
due_at cycle n = drop (n - start_of cycle n) (cycle (start_of cycle n))

-- where a cycle starts, all its packets are due
due-start : (cycle : Cycles) (n : ℕ) (left : List (List ℕ)) → start_of cycle n ≡ n → left ≡ [] → due left (cycle n) ≡ due_at cycle n
due-start cycle n left e nothing =
    let z : n - n ≡ 0 = omega arith in
    ap (λ t. due t (cycle n)) nothing ∙ sym (ap (λ k. drop (n - k) (cycle k)) e ∙ ap (λ k. drop k (cycle n)) z)

-- what is due before an ordinal is the packets of its cycle from it on
due-is : (cycle : Cycles) (n : ℕ) → due (left_before cycle n) (cycle n) ≡ due_at cycle n
unfolding left_before start_of
due-is cycle zero = refl
due-is cycle (suc n) =
    let s = start_of cycle n in
    let left = drop (suc n - s) (cycle s) in
    let below = start-le cycle n in
    elim (lt_or_le (suc n) (s + length (cycle s))) as (λ _. due left (cycle (suc n)) ≡ due_at cycle (suc n)) [
      | inl h ↦
          (let some : 0 < length left = omega (arith, length-drop (suc n - s) (cycle s), h.1, below) in
          due-some left (cycle (suc n)) some ∙ sym (ap (λ k. drop (suc n - k) (cycle k)) (start-same cycle n h.0)))
      | inr h ↦ due-start cycle (suc n) left (start-new cycle n h.0) (drop_of_length-le (cycle s) {i = suc n - s} (omega (arith, h.1)))
    ]

first-due : (cycle : Cycles) (n : ℕ) → first_row (due (left_before cycle n) (cycle n)) ≡ packet_at cycle n
unfolding packet_at
first-due cycle n = ap first_row (due-is cycle n) ∙ first_of_drop (cycle (start_of cycle n)) (n - start_of cycle n)

rest-due : (cycle : Cycles) (n : ℕ) → drop 1 (due (left_before cycle n) (cycle n)) ≡ left_before cycle (suc n)
unfolding left_before
rest-due cycle n =
    let s = start_of cycle n in
    let e : suc (n - s) ≡ suc n - s = omega (arith, start-le cycle n) in
    ap (drop 1) (due-is cycle n) ∙ drop_of_drop (cycle s) (n - s) ∙ ap (λ k. drop k (cycle s)) e

-- contents matter only where a cycle starts
due-same : (left contents other : List (List ℕ)) → (left ≡ [] → contents ≡ other) → due left contents ≡ due left other
due-same [] contents other same = same refl
due-same (x ∷ left) contents other same = refl

-- a step of a cycle at an ordinal
pub gives_at :
    (cycle : Cycles) (n counter : ℕ) (left contents behind : List (List ℕ)) (row : Option (List ℕ)) →
    row ≡ option_map (λ packet. with_counter packet counter) (first_row (due left contents)) → behind ≡ drop 1 (due left contents) →
    left ≡ left_before cycle n → (left ≡ [] → contents ≡ cycle n) → GivesAt cycle n counter row behind
gives_at cycle n counter left contents behind row given rest before known =
    let ahead : due left contents ≡ due (left_before cycle n) (cycle n) = due-same left contents (cycle n) known ∙ ap (λ t. due t (cycle n)) before in
    record {
      given = given ∙ ap (λ t. option_map (λ packet. with_counter packet counter) (first_row t)) ahead ∙ ap (option_map (λ packet. with_counter packet counter)) (first-due cycle n);
      left_over = rest ∙ ap (drop 1) ahead ∙ rest-due cycle n;
    }

pub written-more : (cycle : Cycles) (n : ℕ) → written_before cycle (suc n) ≡ written_before cycle n + length (option_to_list (packet_at cycle n))
unfolding written_before
written-more cycle n = refl

pub length-mapped : (counter : ℕ) (row : Option (List ℕ)) → length (option_to_list (option_map (λ packet. with_counter packet counter) row)) ≡ length (option_to_list row)
length-mapped counter None = refl
length-mapped counter (Some row) = refl

-- what replaces a packet is the counted packet at its ordinal, or a null packet
pub replaced-is : (cycle : Cycles) (n : ℕ) → replaced_at cycle n ≡ unwrap_or (counted_at cycle n) null_packet
replaced-is cycle n = placed (written_before cycle n) (packet_at cycle n)
  where
    placed : (written : ℕ) (row : Option (List ℕ)) → in_place written row ≡ unwrap_or (option_map (λ packet. with_counter packet (written % 16)) row) null_packet
    placed written None = refl
    placed written (Some row) = refl
