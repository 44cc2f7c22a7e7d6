-- Sections laid into some room, by cases.
use Rattle.std.proofs.Common.{◌≡◌, ℕ, ◌+◌, ◌-◌, ◌<◌, ◌≤◌, Bool, true, false, ◌==◌, nat_le, List, [], ◌∷◌, ◌++◌, length, take, drop, zero, suc, refl, sym, ◌∙◌, ap, arith, append_assoc, append-nil, length-append, length-take, length-drop, inl, inr, ◌⊎◌, subst}
use Rattle.std.specs.Prelude.{if◌then◌else◌}
use Rattle.std.specs.List.{AllByRecursion}
use Rattle.ts_section.specs.ValidSection.{IsSection}
use Rattle.std.proofs.lemmas.Bool.Decides.{nat_tests}
use Rattle.std.proofs.Math.Seq.{take-append-add}
use Rattle.std.proofs.lemmas.List.{take_all, take-append-le, take-append-drop}
use Rattle.ts_demux.proofs.Choice.{if_true, if_false}
use Rattle.ts_packetize.specs.Packing.{joined, missing, not_begun, going_on, beginning, goes_on_alone, next_step, is_done, pack}
use Rattle.ts_packetize.specs.Begun.{begun, begun_by}
use Rattle.ts_packetize.proofs.Filling.{le_or_lt}

pub eq_zero : (n : ℕ) → n ≡ 0 → (n == 0) ≡ true
eq_zero n e = grind (arith, nat_tests)

pub eq_some : (n : ℕ) → 0 < n → (n == 0) ≡ false
eq_some n h = grind (arith, nat_tests)

pub le_yes : (a b : ℕ) → a ≤ b → nat_le a b ≡ true
le_yes a b h = grind (arith, nat_tests)

pub le_not : (a b : ℕ) → b < a → nat_le a b ≡ false
le_not a b h = grind (arith, nat_tests)

pub none_of : (ws : List (List ℕ)) → length ws ≡ 0 → ws ≡ []
none_of [] e = refl
none_of (w ∷ ws) e = absurd (omega arith)

module _ (room : ℕ) where
  pub missing-nil : (ws : List (List ℕ)) → length ws ≡ 0 → missing room ws ≡ []
  unfolding missing
  missing-nil ws e = ap (missing room) (none_of ws e)

  pub not_begun-nil : (ws : List (List ℕ)) → length ws ≡ 0 → not_begun room ws ≡ ws
  unfolding not_begun
  not_begun-nil ws e = ap (not_begun room) (none_of ws e) ∙ sym (none_of ws e)

  pub begun-nil : (ws : List (List ℕ)) → length ws ≡ 0 → begun room ws ≡ []
  unfolding begun
  begun-nil ws e = ap (begun room) (none_of ws e)

  pub missing-full : (ws : List (List ℕ)) → room ≡ 0 → missing room ws ≡ []
  unfolding missing
  missing-full [] e = refl
  missing-full (s ∷ ss) e = if_true (room == 0) [] (if nat_le (length s) room then missing (room - length s) ss else drop room s) (eq_zero room e)

  pub not_begun-full : (ws : List (List ℕ)) → room ≡ 0 → not_begun room ws ≡ ws
  unfolding not_begun
  not_begun-full [] e = refl
  not_begun-full (s ∷ ss) e = if_true (room == 0) (s ∷ ss) (if nat_le (length s) room then not_begun (room - length s) ss else ss) (eq_zero room e)

  pub begun-full : (ws : List (List ℕ)) → room ≡ 0 → begun room ws ≡ []
  unfolding begun
  begun-full [] e = refl
  begun-full (s ∷ ss) e = if_true (room == 0) [] (if nat_le (length s) room then s ∷ begun (room - length s) ss else s ∷ []) (eq_zero room e)

  module _ (s : List ℕ) (ss : List (List ℕ)) (some : 0 < room) where
    pub missing-whole : length s ≤ room → missing room (s ∷ ss) ≡ missing (room - length s) ss
    unfolding missing
    missing-whole h =
        if_false (room == 0) [] (if nat_le (length s) room then missing (room - length s) ss else drop room s) (eq_some room some)
        ∙ if_true (nat_le (length s) room) (missing (room - length s) ss) (drop room s) (le_yes (length s) room h)

    pub missing-part : room < length s → missing room (s ∷ ss) ≡ drop room s
    unfolding missing
    missing-part h =
        if_false (room == 0) [] (if nat_le (length s) room then missing (room - length s) ss else drop room s) (eq_some room some)
        ∙ if_false (nat_le (length s) room) (missing (room - length s) ss) (drop room s) (le_not (length s) room h)

    pub not_begun-whole : length s ≤ room → not_begun room (s ∷ ss) ≡ not_begun (room - length s) ss
    unfolding not_begun
    not_begun-whole h =
        if_false (room == 0) (s ∷ ss) (if nat_le (length s) room then not_begun (room - length s) ss else ss) (eq_some room some)
        ∙ if_true (nat_le (length s) room) (not_begun (room - length s) ss) ss (le_yes (length s) room h)

    pub not_begun-part : room < length s → not_begun room (s ∷ ss) ≡ ss
    unfolding not_begun
    not_begun-part h =
        if_false (room == 0) (s ∷ ss) (if nat_le (length s) room then not_begun (room - length s) ss else ss) (eq_some room some)
        ∙ if_false (nat_le (length s) room) (not_begun (room - length s) ss) ss (le_not (length s) room h)

    pub begun-whole : length s ≤ room → begun room (s ∷ ss) ≡ s ∷ begun (room - length s) ss
    unfolding begun
    begun-whole h =
        if_false (room == 0) [] (if nat_le (length s) room then s ∷ begun (room - length s) ss else s ∷ []) (eq_some room some)
        ∙ if_true (nat_le (length s) room) (s ∷ begun (room - length s) ss) (s ∷ []) (le_yes (length s) room h)

    pub begun-part : room < length s → begun room (s ∷ ss) ≡ s ∷ []
    unfolding begun
    begun-part h =
        if_false (room == 0) [] (if nat_le (length s) room then s ∷ begun (room - length s) ss else s ∷ []) (eq_some room some)
        ∙ if_false (nat_le (length s) room) (s ∷ begun (room - length s) ss) (s ∷ []) (le_not (length s) room h)

-- what is laid of a section that is laid whole, and of those after it
pub laid-whole : (room : ℕ) (s : List ℕ) (ss : List (List ℕ)) → length s ≤ room → take room (joined (s ∷ ss)) ≡ s ++ take (room - length s) (joined ss)
laid-whole room s ss h =
    let e : room ≡ length s + (room - length s) = omega (arith, h) in
    ap (λ n. take n (s ++ joined ss)) e ∙ take-append-add s (joined ss) (room - length s)

-- what a load has where its first section is laid whole, and then those after it
pub laid-on :
    (room : ℕ) (old extended new first s : List ℕ) (waiting ss : List (List ℕ)) → waiting ≡ s ∷ ss → first ≡ s → length first ≤ room →
    extended ≡ old ++ first → new ≡ extended ++ take (room - length first) (joined ss) → new ≡ old ++ take room (joined waiting)
laid-on room old extended new first s waiting ss w f h e n =
    let more : List ℕ = take (room - length s) (joined ss) in
    let same : take (room - length first) (joined ss) ≡ more = ap (λ x. take (room - length x) (joined ss)) f in
    let front : extended ≡ old ++ s = e ∙ ap (λ x. old ++ x) f in
    let all : take room (joined waiting) ≡ s ++ more = ap (λ x. take room (joined x)) w ∙ laid-whole room s ss (omega (arith, h, ap length f)) in
    n ∙ ap (λ x. extended ++ x) same ∙ ap (λ x. x ++ more) front ∙ append_assoc old s more ∙ ap (λ x. old ++ x) (sym all)

-- The sections that begin, and those that do not, are the sections; what is laid of those that begin,
-- and what is missing, are their bytes; and where something is missing the room is full.
pub record LaysOut (room : ℕ) (ss : List (List ℕ)) : Type 0 where
  pub sections : ss ≡ begun room ss ++ not_begun room ss
  pub bytes : take room (joined ss) ++ missing room ss ≡ joined (begun room ss)
  pub left_over : length (joined ss) ≡ length (take room (joined ss)) + (length (missing room ss) + length (joined (not_begun room ss)))
  pub room_left : length (joined ss) < room → missing room ss ≡ []

pub lays_out : (room : ℕ) (ss : List (List ℕ)) → LaysOut room ss
lays_out room [] = record {
  sections = sym (ap (λ t. t ++ not_begun room []) (begun-nil room [] refl) ∙ not_begun-nil room [] refl);
  bytes = ap (λ t. take room [] ++ t) (missing-nil room [] refl) ∙ append-nil (take room []) ∙ take_all room [] (omega arith) ∙ sym (ap joined (begun-nil room [] refl));
  left_over = omega (arith, ap length (missing-nil room [] refl), ap (λ t. length (joined t)) (not_begun-nil room [] refl), length-take {A = ℕ} room []);
  room_left = λ _. missing-nil room [] refl;
}
lays_out room (s ∷ ss) =
    elim (le_or_lt 1 room) as (λ _. LaysOut room (s ∷ ss)) [
      | inr z ↦
          (let e : room ≡ 0 = omega (arith, z) in
          record {
            sections = sym (ap (λ t. t ++ not_begun room (s ∷ ss)) (begun-full room (s ∷ ss) e) ∙ not_begun-full room (s ∷ ss) e);
            bytes = ap (λ t. take room (joined (s ∷ ss)) ++ t) (missing-full room (s ∷ ss) e) ∙ append-nil (take room (joined (s ∷ ss))) ∙ ap (λ n. take n (joined (s ∷ ss))) e ∙ sym (ap joined (begun-full room (s ∷ ss) e));
            left_over = omega (arith, e, ap length (missing-full room (s ∷ ss) e), ap (λ t. length (joined t)) (not_begun-full room (s ∷ ss) e), length-take room (joined (s ∷ ss)));
            room_left = λ _. missing-full room (s ∷ ss) e;
          })
      | inl some ↦ laid_some (le_or_lt (length s) room) some (lays_out (room - length s) ss)
    ]
  where
    laid_some : ((length s ≤ room) ⊎ (room < length s)) → 1 ≤ room → LaysOut (room - length s) ss → LaysOut room (s ∷ ss)
    laid_some (inl h) some more =
        let m = missing-whole room s ss some h in
        let n = not_begun-whole room s ss some h in
        let b = begun-whole room s ss some h in
        let t = laid-whole room s ss h in
        record {
          sections = ap (λ x. s ∷ x) more.sections ∙ sym (ap (λ x. x ++ not_begun room (s ∷ ss)) b ∙ ap (λ x. (s ∷ begun (room - length s) ss) ++ x) n);
          bytes =
              ap (λ x. x ++ missing room (s ∷ ss)) t
              ∙ ap (λ x. (s ++ take (room - length s) (joined ss)) ++ x) m
              ∙ append_assoc s (take (room - length s) (joined ss)) (missing (room - length s) ss)
              ∙ ap (λ x. s ++ x) more.bytes
              ∙ sym (ap joined b);
          left_over = omega (arith, ap length t, ap length m, ap (λ x. length (joined x)) n, more.left_over, length-append s (joined ss), length-append s (take (room - length s) (joined ss)));
          room_left = λ few. m ∙ more.room_left (omega (arith, few, length-append s (joined ss), h));
        }
    laid_some (inr h) some more =
        let m = missing-part room s ss some h in
        let n = not_begun-part room s ss some h in
        let b = begun-part room s ss some h in
        let t : take room (s ++ joined ss) ≡ take room s = take-append-le room s (joined ss) (omega (arith, h)) in
        record {
          sections = sym (ap (λ x. x ++ not_begun room (s ∷ ss)) b ∙ ap (λ x. s ∷ x) n);
          bytes =
              ap (λ x. x ++ missing room (s ∷ ss)) t ∙ ap (λ x. take room s ++ x) m ∙ take-append-drop room s ∙ sym (append-nil s) ∙ sym (ap joined b);
          left_over = omega (arith, ap length t, ap length m, ap (λ x. length (joined x)) n, length-append s (joined ss), length-take room s, length-drop room s, h);
          room_left = λ few. absurd (omega (arith, few, length-append s (joined ss), h));
        }

-- a step of either kind
pub step-alone : (rest : List ℕ) (ss : List (List ℕ)) → goes_on_alone rest ss ≡ true → next_step rest ss ≡ going_on rest ss
unfolding next_step
step-alone rest ss e = if_true (goes_on_alone rest ss) (going_on rest ss) (beginning rest ss) e

pub step-begins : (rest : List ℕ) (ss : List (List ℕ)) → goes_on_alone rest ss ≡ false → next_step rest ss ≡ beginning rest ss
unfolding next_step
step-begins rest ss e = if_false (goes_on_alone rest ss) (going_on rest ss) (beginning rest ss) e

-- the bytes of a load that begins sections
pub begins-with : (rest : List ℕ) (ss : List (List ℕ)) (bytes : List ℕ) → length rest < 183 → bytes ≡ (length rest ∷ []) ++ rest ++ take (183 - length rest) (joined ss) → bytes ≡ length rest ∷ take 183 (rest ++ joined ss)
begins-with rest ss bytes h e =
    let n : 183 ≡ length rest + (183 - length rest) = omega (arith, h) in
    e ∙ ap (λ t. length rest ∷ t) (sym (ap (λ k. take k (rest ++ joined ss)) n ∙ take-append-add rest (joined ss) (183 - length rest)))

pub no_bytes : (xs : List ℕ) → length xs ≡ 0 → xs ≡ []
no_bytes [] e = refl
no_bytes (x ∷ xs) e = absurd (omega arith)

pub rest_of : (n : ℕ) (xs : List ℕ) → take (length xs - n) (drop n xs) ≡ drop n xs
rest_of n xs = take_all (length xs - n) (drop n xs) (omega (arith, length-drop n xs))

pub done_says : (rest : List ℕ) (ss : List (List ℕ)) → is_done rest ss ≡ true → (rest ≡ []) × (ss ≡ [])
done_says [] [] e = (refl, refl)
done_says [] (s ∷ ss) e = cc
done_says (b ∷ rest) ss e = cc

pub pack-done : (n : ℕ) (rest : List ℕ) (ss : List (List ℕ)) → is_done rest ss ≡ true → pack n rest ss ≡ []
unfolding pack
pack-done zero rest ss e = refl
pack-done (suc n) rest ss e = if_true (is_done rest ss) [] ((next_step rest ss).load ∷ pack n (next_step rest ss).rest (next_step rest ss).sections) e

pub pack-next : (n : ℕ) (rest : List ℕ) (ss : List (List ℕ)) → is_done rest ss ≡ false → pack (suc n) rest ss ≡ (next_step rest ss).load ∷ pack n (next_step rest ss).rest (next_step rest ss).sections
unfolding pack
pack-next n rest ss e = if_false (is_done rest ss) [] ((next_step rest ss).load ∷ pack n (next_step rest ss).rest (next_step rest ss).sections) e

pub not_alone : (rest : List ℕ) (ss : List (List ℕ)) → goes_on_alone rest ss ≡ false → length rest < 183
not_alone rest [] e = cc
not_alone rest (s ∷ ss) e = grind (arith, nat_tests, e)

pub alone_long : (rest : List ℕ) (s : List ℕ) (ss : List (List ℕ)) → goes_on_alone rest (s ∷ ss) ≡ true → 183 ≤ length rest
alone_long rest s ss e = grind (arith, nat_tests, e)

-- less is left after a step
alone-shorter : (rest : List ℕ) (ss : List (List ℕ)) → is_done rest ss ≡ false → goes_on_alone rest ss ≡ true → length (drop 184 rest) < length rest
alone-shorter [] [] d e = cc
alone-shorter (b ∷ rest) [] d e = omega (arith, length-drop 184 (b ∷ rest))
alone-shorter rest (s ∷ ss) d e = omega (arith, length-drop 184 rest, alone_long rest s ss e)

some_laid : (room : ℕ) (ss : List (List ℕ)) → 0 < room → 0 < length (joined ss) → 0 < length (take room (joined ss))
some_laid room ss h k = omega (arith, length-take room (joined ss), h, k)

first_some : (room : ℕ) (s : List ℕ) (ss : List (List ℕ)) → 0 < room → AllByRecursion (λ x. IsSection x) (begun room (s ∷ ss)) → 0 < length s
first_some room s ss some all = elim (le_or_lt (length s) room) as (λ _. 0 < length s) [
  | inl h ↦ (let f = subst (AllByRecursion (λ x. IsSection x)) (begun-whole room s ss some h) all in omega (arith, f.0.whole))
  | inr h ↦ omega (arith, h)
]

begins-shorter :
    (rest : List ℕ) (ss : List (List ℕ)) → is_done rest ss ≡ false → length rest < 183 → AllByRecursion (λ s. IsSection s) (begun (183 - length rest) ss) →
    length (missing (183 - length rest) ss) + length (joined (not_begun (183 - length rest) ss)) < length rest + length (joined ss)
begins-shorter [] [] d h all = cc
begins-shorter (b ∷ rest) ss d h all = omega (arith, (lays_out (183 - suc (length rest)) ss).left_over)
begins-shorter [] (s ∷ ss) d h all =
    let some : 0 < length s = first_some 183 s ss (omega arith) all in
    omega (arith, (lays_out 183 (s ∷ ss)).left_over, some_laid 183 (s ∷ ss) (omega arith) (omega (arith, length-append s (joined ss), some)))

pub step-shorter :
    (rest : List ℕ) (ss : List (List ℕ)) (alone : Bool) → goes_on_alone rest ss ≡ alone → is_done rest ss ≡ false → AllByRecursion (λ s. IsSection s) (begun_by rest ss) →
    length (next_step rest ss).rest + length (joined (next_step rest ss).sections) < length rest + length (joined ss)
step-shorter rest ss true e d all =
    subst (λ step. length step.rest + length (joined step.sections) < length rest + length (joined ss)) (sym (step-alone rest ss e)) (omega (arith, alone-shorter rest ss d e))
step-shorter rest ss false e d all =
    subst (λ step. length step.rest + length (joined step.sections) < length rest + length (joined ss)) (sym (step-begins rest ss e))
    (begins-shorter rest ss d (not_alone rest ss e) (subst (AllByRecursion (λ s. IsSection s)) (if_false (goes_on_alone rest ss) [] (begun (183 - length rest) ss) e) all))

-- the sections are those that a step begins, and those that it leaves
pub step-sections : (rest : List ℕ) (ss : List (List ℕ)) (alone : Bool) → goes_on_alone rest ss ≡ alone → ss ≡ begun_by rest ss ++ (next_step rest ss).sections
step-sections rest ss true e =
    sym (ap (λ t. t ++ (next_step rest ss).sections) (if_true (goes_on_alone rest ss) [] (begun (183 - length rest) ss) e) ∙ ap (λ step. step.sections) (step-alone rest ss e))
step-sections rest ss false e =
    (lays_out (183 - length rest) ss).sections
    ∙ sym (ap (λ t. t ++ (next_step rest ss).sections) (if_false (goes_on_alone rest ss) [] (begun (183 - length rest) ss) e) ∙ ap (λ step. begun (183 - length rest) ss ++ step.sections) (step-begins rest ss e))

pub begins-bytes :
    (rest : List ℕ) (ss : List (List ℕ)) (cleared pushed extended laid : List ℕ) → length rest < 183 →
    cleared ≡ [] → pushed ≡ cleared ++ length rest ∷ [] → extended ≡ pushed ++ rest → laid ≡ extended ++ take (183 - length rest) (joined ss) →
    laid ≡ length rest ∷ take 183 (rest ++ joined ss)
begins-bytes rest ss cleared pushed extended laid h a b c d =
    let t = take (183 - length rest) (joined ss) in
    begins-with rest ss laid h
    (d ∙ ap (λ x. x ++ t) (c ∙ ap (λ x. x ++ rest) (b ∙ ap (λ x. x ++ length rest ∷ []) a)) ∙ append_assoc (length rest ∷ []) rest t)
