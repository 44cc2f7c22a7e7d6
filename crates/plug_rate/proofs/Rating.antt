-- Lemmas on intervals.
use Rattle.std.proofs.Common.{◌≡◌, ℕ, ◌*◌, ◌/◌, ◌<◌, ◌≤◌, inl, inr, true, false, sym, ◌∙◌, arith}
use Rattle.std.proofs.Math.Nat.{div-mul-le_self}
use Rattle.std.proofs.lemmas.Bool.{cases_lt, false≢true}
use Rattle.std.proofs.lemmas.Nat.{le-div}
use Rattle.plugin_notes.proofs.Noting.{not_below}
use Rattle.plug_rate.specs.Rates.{has_passed, intervals_in}
use Rattle.plug_rate.specs.declared.limits.TheConstants.{MILLISECOND}

-- at no later time there are no more intervals
no_more : (interval before after : ℕ) → 1 ≤ interval → after ≤ before → has_passed interval before after ≡ false
no_more interval before after some le =
    let units : 0 < interval * MILLISECOND = omega (arith, some) in
    let down : after / (interval * MILLISECOND) * (interval * MILLISECOND) ≤ before = omega (arith, div-mul-le_self after (interval * MILLISECOND), le) in
    not_below (intervals_in interval before) (intervals_in interval after)
    (le-div (intervals_in interval after) before (interval * MILLISECOND) units down)

-- where an interval has passed, it is later
pub is_later : (interval before after : ℕ) → 1 ≤ interval → has_passed interval before after ≡ true → before < after
is_later interval before after some passed =
    elim (cases_lt before after) [
      | inl later ↦ later
      | inr le ↦ absurd (false≢true (sym (no_more interval before after some le) ∙ passed))
    ]

-- none passes in no time
pub none_passes : (interval time : ℕ) → has_passed interval time time ≡ false
none_passes interval time = not_below (intervals_in interval time) (intervals_in interval time) (let e : intervals_in interval time ≤ intervals_in interval time = omega arith in e)
