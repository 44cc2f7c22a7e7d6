-- Lemmas on the number of slots before a cell and before the next one.
use Rattle.std.proofs.Common.{◌≡◌, ℕ, ◌+◌, ◌-◌, ◌*◌, ◌/◌, ◌%◌, ◌<◌, ◌≤◌, ◌⊎◌, inl, inr, true, false, ap, ◌∙◌, arith}
use Rattle.std.proofs.lemmas.Bool.{cases_lt, lt-ltb, le-ltb}
use Rattle.std.proofs.lemmas.Nat.{div-add-mod', div-mul-add, mod-mul-add, mod_below, div_below, mul-le}
use Rattle.plug_restuff.specs.Slots.{is_slot, slots_before}

module _ (from to cell : ℕ) (some : 0 < from) where
  split : cell * to / from * from + cell * to % from ≡ cell * to
  split = div-add-mod' (cell * to) from

  -- what is left of the division does not make up a slot: the next cell has as many before it
  same-sum : (cell + 1) * to ≡ cell * to / from * from + (cell * to % from + to)
  same-sum = omega (arith, split)

  pub stays : cell * to % from + to < from → slots_before from to (cell + 1) ≡ slots_before from to cell
  stays lt = ap (λ n. n / from) same-sum ∙ div-mul-add (cell * to / from) from (cell * to % from + to) lt

  pub stays-part : cell * to % from + to < from → (cell + 1) * to % from ≡ cell * to % from + to
  stays-part lt = ap (λ n. n % from) same-sum ∙ mod-mul-add (cell * to / from) from (cell * to % from + to) lt

  -- or it does: the next cell has one more
  module _ (lower : to ≤ from) (le : from ≤ cell * to % from + to) where
    more-sum : (cell + 1) * to ≡ (cell * to / from + 1) * from + (cell * to % from + to - from)
    more-sum = omega (arith, split, le)

    below : cell * to % from + to - from < from
    below = let small = mod_below (cell * to) from some in omega (arith, small, lower, le)

    pub goes : slots_before from to (cell + 1) ≡ slots_before from to cell + 1
    goes = ap (λ n. n / from) more-sum ∙ div-mul-add (cell * to / from + 1) from (cell * to % from + to - from) below

    pub goes-part : (cell + 1) * to % from ≡ cell * to % from + to - from
    goes-part = ap (λ n. n % from) more-sum ∙ mod-mul-add (cell * to / from + 1) from (cell * to % from + to - from) below

  pub no-slot : cell * to % from + to < from → is_slot from to cell ≡ false
  no-slot lt = let e = stays lt in le-ltb (slots_before from to cell) (slots_before from to (cell + 1)) (omega (arith, e))

  pub a-slot : to ≤ from → from ≤ cell * to % from + to → is_slot from to cell ≡ true
  a-slot lower le = let e = goes lower le in lt-ltb (slots_before from to cell) (slots_before from to (cell + 1)) (omega (arith, e))

  -- there are no more slots before a cell than cells
  pub few : to ≤ from → slots_before from to cell ≤ cell
  few lower =
      let whole = mul-le cell to cell from (omega arith) lower in
      let lt = div_below (cell * to) from (cell + 1) some (omega (arith, whole, some)) in
      omega (arith, lt)

  -- the next cell has as many before it, or one more
  pub next-is : to ≤ from → (is_slot from to cell ≡ false) × (slots_before from to (cell + 1) ≡ slots_before from to cell)
      ⊎ (is_slot from to cell ≡ true) × (slots_before from to (cell + 1) ≡ slots_before from to cell + 1)
  next-is lower = elim (cases_lt (cell * to % from + to) from) [
    | inl lt ↦ inl (no-slot lt, stays lt)
    | inr le ↦ inr (a-slot lower le, goes lower le)
  ]
