-- What the steps stand for, one cell more.
use Rattle.std.proofs.Common.{◌≡◌, ℕ, ◌≤◌, ◌&&◌, Bool, true, false, List, [], ◌∷◌, ◌++◌, length, refl, sym, ◌∙◌, ap, append-nil, arith, length-append, subst, true≢false}
use Rattle.std.specs.Prelude.{Option, None, Some, not, if◌then◌else◌}
use Rattle.std.proofs.lemmas.Grind.{flat_map-append}
use Rattle.ts_packet.specs.declared.cell.Cell.{Cell}
use Rattle.ts_packet.specs.Cells.{Dropped, Live, live_packets, packet_in}
use Rattle.ts_packet.specs.Header.{pid_of}
use Rattle.plugin_trait.proofs.FindLemmas.{find-dropped, find-met}
use Rattle.plugin_trait.specs.Finding.{IsFirstFind, first_of}
use Rattle.plugin_trait.specs.Unmarked.{unmarked}
use Rattle.plugin_trait.specs.declared.first_find.FirstFind.{FirstFind}
use Rattle.ts_demux.specs.TablesOn.{tables_on}
use Rattle.ts_packetize.specs.Cycle.{CycleState}
use Rattle.plugin_options.specs.NumberSet.{has_number}
use Rattle.plug_psi.specs.AlteredTables.{alters_one}
use Rattle.plug_psi.specs.EditedCycles.{replaced}
use Rattle.plug_psi.specs.EditorState.{Edits}
use Rattle.plug_psi.specs.Edits.{Change}
use Rattle.plug_psi.specs.declared.contents.Contents.{Contents}
use Rattle.service_edit.specs.ServiceRule.{finds_altered, finds_in, is_edited, kept, left_by, made_of, taken_for}
use Rattle.service_edit.specs.ServiceState.{MeetsHistory, StandsFor}
use Rattle.service_edit.specs.declared.service_steps.ServiceEditSteps.{ServiceEditSteps}

-- nothing is found at this position
pub none-found : (o : Option ℕ) (at : ℕ) (finds : Bool) → finds ≡ false → o ≡ first_of o at finds
none-found None at true e = cc
none-found None at false e = refl
none-found (Some first) at finds e = refl

-- a packet that is not edited passes, unless packets of its PID go
stays : (packet : List ℕ) (has : Bool) → left_by (not has) packet ≡ (if has then None else Some packet)
stays packet true = refl
stays packet false = refl

pub untouched : (service : ℕ) (change : List (List ℕ) → Change) (dropped : List (ℕ × ℕ)) (met : List (List ℕ)) (packet : List ℕ) (has : Bool) →
    is_edited service (pid_of packet) (met ++ packet ∷ []) ≡ false → has ≡ has_number dropped (pid_of packet) →
    left_by (not has) packet ≡ made_of service change dropped met packet
untouched service change dropped met packet has e f =
    stays packet has ∙ ap (λ (b : Bool). if b then None else Some packet) f
    ∙ sym (ap (λ (b : Bool). if b then Some (replaced (pid_of packet) change (taken_for service (pid_of packet) met) packet) else kept dropped packet) e)

-- one that is edited becomes that of the cycle
pub touched : (service : ℕ) (change : List (List ℕ) → Change) (dropped : List (ℕ × ℕ)) (met : List (List ℕ)) (packet new : List ℕ) →
    is_edited service (pid_of packet) (met ++ packet ∷ []) ≡ true → new ≡ replaced (pid_of packet) change (taken_for service (pid_of packet) met) packet →
    left_by true new ≡ made_of service change dropped met packet
touched service change dropped met packet new e f =
    ap Some f
    ∙ sym (ap (λ (b : Bool). if b then Some (replaced (pid_of packet) change (taken_for service (pid_of packet) met) packet) else kept dropped packet) e)

-- what is found with a packet that is not edited, and with one that is
pub not-finding : (service : ℕ) (change : List (List ℕ) → Change) (met : List (List ℕ)) (packet : List ℕ) →
    is_edited service (pid_of packet) (met ++ packet ∷ []) ≡ false → finds_in service change met packet ≡ false
not-finding service change met packet e = ap (λ b. b && alters_one change (tables_on (pid_of packet) (taken_for service (pid_of packet) met ++ packet ∷ []))) e

pub finding : (service : ℕ) (change : List (List ℕ) → Change) (met : List (List ℕ)) (packet : List ℕ) (altered : Bool) →
    is_edited service (pid_of packet) (met ++ packet ∷ []) ≡ true →
    altered ≡ alters_one change (tables_on (pid_of packet) (taken_for service (pid_of packet) met ++ packet ∷ [])) → altered ≡ finds_in service change met packet
finding service change met packet altered e f =
    f ∙ sym (ap (λ b. b && alters_one change (tables_on (pid_of packet) (taken_for service (pid_of packet) met ++ packet ∷ []))) e)

-- an editor whose own edit makes the change asked for
pub moved : (pid : ℕ) (own wanted : List (List ℕ) → Change) {contents : Contents} {cycle : CycleState} {counter : ℕ} {changed : Bool} {taken : List (List ℕ)} →
    own ≡ wanted → Edits pid (λ s. own) own contents cycle counter changed taken → Edits pid (λ s. wanted) wanted contents cycle counter changed taken
moved pid own wanted {contents} {cycle} {counter} {changed} {taken} e h = subst (λ w. Edits pid (λ s. w) w contents cycle counter changed taken) e h

marked : (mark : ℕ) (history : List Cell) (cell : Cell) → mark ≤ length history → mark ≤ length (history ++ cell ∷ [])
marked mark history cell h = omega (arith, h, length-append history (cell ∷ []))

module _ {E : Type 0} (change : E → List (List ℕ) → Change) where
  -- the position that is kept does not depend on how service and edit are named
  renamed : (service service' : ℕ) (edit edit' : E) (history : List Cell) (found : FirstFind) → service' ≡ service → edit' ≡ edit →
      IsFirstFind (finds_altered service (change edit)) history found → IsFirstFind (finds_altered service' (change edit')) history found
  renamed service service' edit edit' history found e f h =
      subst (λ w. IsFirstFind (finds_altered w (change edit')) history found) (sym e) (subst (λ s. IsFirstFind (finds_altered service (change s)) history found) (sym f) h)

  module _ (old new : ServiceEditSteps E) (mark : ℕ) (history : List Cell) (e : new.service ≡ old.service) (f : new.edit ≡ old.edit)
      (s : unmarked (MeetsHistory change old) history mark) where
    pub met-more :
        (packet : List ℕ) (labels at : ℕ) → length history ≡ at →
        ((met : List (List ℕ)) → StandsFor change old met → StandsFor change new (met ++ packet ∷ [])) →
        ((met : List (List ℕ)) → StandsFor change old met → new.found.at ≡ first_of old.found.at at (finds_in old.service (change old.edit) met packet)) →
        unmarked (MeetsHistory change new) (history ++ Live packet labels ∷ []) mark
    met-more packet labels at count stands noted =
        let met = live_packets history in (
          (
            subst (StandsFor change new) (sym (flat_map-append packet_in history (Live packet labels ∷ []))) (stands met s.0.0),
            renamed old.service new.service old.edit new.edit (history ++ Live packet labels ∷ []) new.found e f
                (find-met (finds_altered old.service (change old.edit)) history packet labels at (finds_in old.service (change old.edit) met packet) old.found new.found s.0.1 count refl (noted met s.0.0)),
          ),
          marked mark history (Live packet labels) s.1,
        )

    -- memory ran out
    pub met-failed : new.failed ≡ true → new.found ≡ old.found → unmarked (MeetsHistory change new) history mark
    met-failed failed found = (
      (
        λ works. absurd (true≢false (sym failed ∙ works)),
        renamed old.service new.service old.edit new.edit history new.found e f
            (subst (λ g. IsFirstFind (finds_altered old.service (change old.edit)) history g) (sym found) s.0.1),
      ),
      s.1,
    )

  pub met-dropped : (plugin : ServiceEditSteps E) (mark : ℕ) (history : List Cell) → unmarked (MeetsHistory change plugin) history mark → unmarked (MeetsHistory change plugin) (history ++ Dropped ∷ []) mark
  met-dropped plugin mark history s = (
    (
      subst (StandsFor change plugin) (sym (flat_map-append packet_in history (Dropped ∷ []) ∙ append-nil (live_packets history))) s.0.0,
      find-dropped (finds_altered plugin.service (change plugin.edit)) history plugin.found s.0.1,
    ),
    marked mark history Dropped s.1,
  )
