-- When the tables in force stand for the packets that were fed.
-- This project's own rule.
use Rattle.std.specs.Prelude.{Bool, ℕ, List}
use Rattle.plug_psi.specs.ForceState.{Forces}
use Rattle.plug_psi.specs.declared.in_force.InForce.{InForce}

-- the tables in force are those of all packets that were fed
abbrev pub StandsFor : InForce → List (List ℕ) → Type 0
StandsFor force fed = Forces force.zero force.pids force.failed fed

-- the tables that are kept to be handed on: of the last packet on PID 0, and of the last one on a PID whose packets are taken
abbrev pub pats_in : InForce → List (List (List ℕ))
pats_in force = force.pats.items

abbrev pub pmts_in : InForce → List (List (List ℕ))
pmts_in force = force.pmts.items

-- whether memory ran out
abbrev pub has_failed : InForce → Bool
has_failed force = force.failed
