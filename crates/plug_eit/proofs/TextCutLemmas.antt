-- The ends of a text's characters, one after another.
use Rattle.std.proofs.Common.{◌≡◌, ◌∙◌, ◌+◌, ◌<◌, ◌≤◌, ℕ, zero, suc, List, refl, ap, cond, slice_index}
use Rattle.std.proofs.lemmas.Bool.{le-leb, lt-leb}
use Rattle.plug_eit.specs.TextCut.{char_size, end_from}

-- where the character ends that begins at a place
abbrev pub next_end : List ℕ → ℕ → ℕ
next_end text at = at + char_size (slice_index text 0) (slice_index text at)

-- no character more
pub end_none : (n : ℕ) (text : List ℕ) (room at : ℕ) → n ≡ 0 → end_from n text room at ≡ at
unfolding end_from
end_none n text room at none = ap (λ m. end_from m text room at) none

-- the next one ends beyond the room
pub end_stop : (n : ℕ) (text : List ℕ) (room at : ℕ) → room < next_end text at → end_from n text room at ≡ at
unfolding end_from
end_stop zero text room at beyond = refl
end_stop (suc n) text room at beyond = ap (λ b. cond b (end_from n text room (next_end text at)) at) (lt-leb (next_end text at) room beyond)

-- the next one ends in the room
pub end_step : (n k : ℕ) (text : List ℕ) (room at : ℕ) → n ≡ suc k → next_end text at ≤ room → end_from n text room at ≡ end_from k text room (next_end text at)
unfolding end_from
end_step n k text room at more within =
    ap (λ m. end_from m text room at) more
    ∙ ap (λ b. cond b (end_from k text room (next_end text at)) at) (le-leb (next_end text at) room within)
