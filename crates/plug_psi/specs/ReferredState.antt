-- When what is kept of the tables in force and of the PIDs that they name stands for the packets that were fed.
-- This project's own rule.
use Rattle.std.specs.Prelude.{◌≡◌, ℕ, Bool, false, List}
use Rattle.ts_demux.specs.TablesOn.{packets_on}
use Rattle.plug_psi.specs.PidFlags.{AreFlags}
use Rattle.plug_psi.specs.Referred.{named_in}
use Rattle.plug_psi.specs.ForceStands as forcing
use Rattle.plug_psi.specs.KeptTables.{KeepsCat}
use Rattle.plug_psi.specs.ReadingState.{Reads}
use Rattle.plug_psi.specs.declared.in_force.InForce.{InForce}
use Rattle.plug_psi.specs.declared.kept_cat.KeptCat.{KeptCat}
use Rattle.plug_psi.specs.declared.reading.Reading.{Reading}

-- the CAT that is kept is that of all packets
abbrev pub HasCat : Reading KeptCat → List (List ℕ) → Type 0
HasCat one fed = Reads KeepsCat one 1 (packets_on 1 fed)

-- the parts stand for the packets that were fed
pub record Standing (force : InForce) (one : Reading KeptCat) (flags : List Bool) (failed : Bool) (fed : List (List ℕ)) : Type 0 where
  pub working : failed ≡ false
  pub forced : forcing.StandsFor force fed
  pub cat_fed : HasCat one fed
  pub flagged : AreFlags flags (named_in fed)
