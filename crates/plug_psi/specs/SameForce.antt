-- A packet with which no table comes into force.
-- This project's own rule.
use Rattle.std.specs.Prelude.{◌≡◌, ℕ, List, [], ◌∷◌, ◌++◌}
use Rattle.plug_psi.specs.InForce.{pat_of, pmt_of}

-- with one more packet the same PAT is in force, and for each service the same PMT
pub record SameInForce (fed : List (List ℕ)) (packet : List ℕ) : Type 0 where
  pub pat : pat_of (fed ++ packet ∷ []) ≡ pat_of fed
  pub pmts : (service : ℕ) → pmt_of service (fed ++ packet ∷ []) ≡ pmt_of service fed
