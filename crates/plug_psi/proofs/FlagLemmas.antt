-- Flags by PID.
use Rattle.std.proofs.Common.{◌≡◌, ℕ, ◌&&◌, not, Bool, true, false, List, refl, ◌∙◌}
use Rattle.std.specs.Prelude.{if◌then◌else◌}
use Rattle.plug_psi.specs.PidFlags.{AreFlags}

-- set by some PIDs, and then taken back by others
pub flag-told : (a b : Bool) → (if b then false else (if a then true else false)) ≡ (a && not b)
flag-told true true = refl
flag-told true false = refl
flag-told false true = refl
flag-told false false = refl

-- flags that tell another thing that is the same
pub flags-as : (flags : List Bool) (told told' : ℕ → Bool) → ((pid : ℕ) → told pid ≡ told' pid) → AreFlags flags told → AreFlags flags told'
flags-as flags told told' same h = λ pid below. h pid below ∙ same pid

pub and_true : (b : Bool) → (b && true) ≡ b
and_true true = refl
and_true false = refl
