-- The packets of a list that are taken, where the packets up to each one decide. This project's own rule.
use Rattle.std.specs.Prelude.{ℕ, ◌==◌, ◌&&◌, Bool, List, [], ◌∷◌, ◌++◌, if◌then◌else◌}
use Rattle.ts_packet.specs.Header.{pid_of}

-- What a test takes of a list after another one. It is asked of each member with all up to it, itself the last of them.
unfoldable pub taken_after : {X : Type 0} → (List X → X → Bool) → List X → List X → List X
taken_after test before [] = []
taken_after test before (x ∷ xs) =
    let upto = before ++ x ∷ [] in
    let others = taken_after test upto xs in
    if test upto x then x ∷ others else others

-- what a test takes of a list
abbrev pub taken_where : {X : Type 0} → (List X → X → Bool) → List X → List X
taken_where test xs = taken_after test [] xs

-- The packets of any PID that are taken on one: those of the PID at whose positions it is followed, by the packets up to
-- there, themselves included.
abbrev pub taken_on : (ℕ → List (List ℕ) → Bool) → ℕ → List (List ℕ) → List (List ℕ)
taken_on follows pid packets = taken_where (λ upto packet. (pid_of packet == pid) && follows pid upto) packets
