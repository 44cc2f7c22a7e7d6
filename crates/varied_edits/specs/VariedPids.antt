-- What leaves on PIDs that are followed at some positions, where the edit of their tables goes by the packets that were met.
-- This project's own rule.
use Rattle.std.specs.Prelude.{ℕ, Bool, List, [], ◌∷◌, ◌++◌}
use Rattle.ts_demux.specs.TakenWhere.{taken_on}
use Rattle.plug_psi.specs.EditedCycles.{replaced_by}
use Rattle.plug_psi.specs.InUse.{EditAsMet, edits_on}

-- What an editor puts instead of the next packet of a PID, after packets of any PID. It takes the packets of the PID at whose
-- positions the PID is followed, by the packets up to there, themselves included, which also tell the edit that is in use.
abbrev pub replaced_where : (ℕ → List (List ℕ) → Bool) → ℕ → EditAsMet → List (List ℕ) → List ℕ → List ℕ
replaced_where follows pid edit met packet =
    replaced_by pid (edits_on follows pid edit (met ++ packet ∷ [])) (taken_on follows pid met) packet
