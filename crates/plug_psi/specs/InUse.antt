-- Which edit is in use at each packet that is taken on a PID, where the packets of any PID that were met decide.
-- This project's own rule: at a packet it is the edit that the packets up to there tell, itself included.
use Rattle.std.specs.Prelude.{ℕ, ◌==◌, ◌&&◌, Bool, List, [], ◌∷◌, ◌++◌, slice_get, true, unwrap_or, if◌then◌else◌}
use Rattle.ts_packet.specs.Header.{pid_of}
use Rattle.ts_demux.specs.TablesOn.{packets_on}
use Rattle.plug_psi.specs.EditedCycles.{EditsInUse, replaced_by}
use Rattle.plug_psi.specs.Edits.{Change, same}

-- What is told at each packet that is taken on a PID, after others of any PID. A packet is taken where its PID is followed at
-- its position, by the packets up to there, themselves included.
unfoldable pub told_after : {K : Type 0} → (ℕ → List (List ℕ) → Bool) → ℕ → (List (List ℕ) → K) → List (List ℕ) → List (List ℕ) → List K
told_after follows pid tell before [] = []
told_after follows pid tell before (packet ∷ packets) =
    let upto = before ++ packet ∷ [] in
    let others = told_after follows pid tell upto packets in
    if (pid_of packet == pid) && follows pid upto then tell upto ∷ others else others

-- the same of all packets that were met
abbrev pub told_on : {K : Type 0} → (ℕ → List (List ℕ) → Bool) → ℕ → (List (List ℕ) → K) → List (List ℕ) → List K
told_on follows pid tell packets = told_after follows pid tell [] packets

-- edits by their places in a list; behind its end nothing is edited
abbrev pub in_order : List (List (List ℕ) → Change) → EditsInUse
in_order edits place = unwrap_or (slice_get edits place) (λ run. same)

-- the edit in use at each packet that is taken on a PID
abbrev pub edits_on : (ℕ → List (List ℕ) → Bool) → ℕ → (List (List ℕ) → List (List ℕ) → Change) → List (List ℕ) → EditsInUse
edits_on follows pid edit packets = in_order (told_on follows pid edit packets)

-- what is made of tables, after the packets of any PID that were met
abbrev pub EditAsMet : Type 0
EditAsMet = List (List ℕ) → List (List ℕ) → Change

-- on some PIDs all packets are taken
abbrev pub always : ℕ → List (List ℕ) → Bool
always pid packets = true

-- what an editor puts instead of the next packet of a PID on which all packets are taken, if those that were met, of any PID,
-- tell the edit
abbrev pub replaced_as : ℕ → EditAsMet → List (List ℕ) → List ℕ → List ℕ
replaced_as pid edit met packet = replaced_by pid (edits_on always pid edit (met ++ packet ∷ [])) (packets_on pid met) packet
