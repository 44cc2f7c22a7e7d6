-- One cell more.
use Rattle.std.proofs.Common.{◌≡◌, ◌≢◌, ℕ, ◌≤◌, ◌&&◌, Bool, true, false, List, [], ◌∷◌, ◌++◌, length, refl, sym, ◌∙◌, ap, append-nil, arith, length-append, subst, cond, true≢false, Option, None, Some}
use Rattle.std.specs.List.{list_any}
use Rattle.std.proofs.lemmas.Grind.{flat_map-append}
use Rattle.ts_packet.specs.declared.cell.Cell.{Cell}
use Rattle.ts_packet.specs.Cells.{Dropped, Live, live_packets, packet_in}
use Rattle.ts_packet.specs.Header.{pid_of}
use Rattle.plugin_trait.proofs.FindLemmas.{find-dropped, find-first, find-met}
use Rattle.plugin_trait.specs.Finding.{IsFirstFind, first_of}
use Rattle.plugin_trait.specs.Unmarked.{unmarked}
use Rattle.plugin_trait.specs.declared.first_find.FirstFind.{FirstFind}
use Rattle.section_flow.specs.Flow.{alters, completed_by, replaced}
use Rattle.section_flow.specs.declared.flow.Flow.{Flow}
use Rattle.followed_services.specs.declared.named_service.NamedService.{NamedService}
use Rattle.plug_eit.specs.EitRule.{alters_with, eit_edit, finds_altered, is_eit, made_of}
use Rattle.plug_eit.specs.EitState.{Edits, MeetsHistory, StandsFor}
use Rattle.plug_eit.specs.declared.eit.EitSteps.{EitSteps}
use Rattle.plug_eit.specs.declared.eit_conf.EitConf.{EitConf}
use Rattle.plug_eit.specs.declared.numbers.TheConstants.{EIT_PID}

-- a packet on another PID, and one on this
pub other_pid : (packet : List ℕ) → pid_of packet ≢ EIT_PID → is_eit packet ≡ false
other_pid packet h = grind (arith, h)

pub same_pid : (packet : List ℕ) → pid_of packet ≡ EIT_PID → is_eit packet ≡ true
same_pid packet h = grind (arith, h)

-- where nothing is found, nothing is noted
none-noted : (o : Option ℕ) (at : ℕ) → o ≡ first_of o at false
none-noted None at = refl
none-noted (Some first) at = refl

module _ (conf : EitConf) (met : List (List ℕ)) (packet : List ℕ) where
  pub made-other : is_eit packet ≡ false → packet ≡ made_of conf met packet
  made-other e = sym (ap (λ b. cond b (replaced EIT_PID (eit_edit conf) met packet) packet) e)

  pub made-own : is_eit packet ≡ true → (after : List ℕ) → after ≡ replaced EIT_PID (eit_edit conf) met packet → after ≡ made_of conf met packet
  made-own e after is = is ∙ sym (ap (λ b. cond b (replaced EIT_PID (eit_edit conf) met packet) packet) e)

  alters-as : (b : Bool) → is_eit packet ≡ b →
      alters_with conf met packet ≡ (b && list_any (alters (eit_edit conf (met ++ packet ∷ []))) (completed_by EIT_PID met packet))
  alters-as b e = ap (λ t. t && list_any (alters (eit_edit conf (met ++ packet ∷ []))) (completed_by EIT_PID met packet)) e

  pub noted-other : (found : FirstFind) (at : ℕ) → is_eit packet ≡ false → found.at ≡ first_of found.at at (alters_with conf met packet)
  noted-other found at e = none-noted found.at at ∙ ap (first_of found.at at) (sym (alters-as false e))

  pub noted-own : (old new : FirstFind) (at : ℕ) (altered : Bool) → is_eit packet ≡ true → new.at ≡ first_of old.at at altered →
      altered ≡ list_any (alters (eit_edit conf (met ++ packet ∷ []))) (completed_by EIT_PID met packet) →
      new.at ≡ first_of old.at at (alters_with conf met packet)
  noted-own old new at altered e noted is = noted ∙ ap (first_of old.at at) (is ∙ sym (alters-as true e))

-- ---- one cell more

marked : (mark : ℕ) (history : List Cell) (cell : Cell) → mark ≤ length history → mark ≤ length (history ++ cell ∷ [])
marked mark history cell h = omega (arith, h, length-append history (cell ∷ []))

-- what is said of other settings is said of the same ones
same-conf : (conf conf' : EitConf) (history : List Cell) (found : FirstFind) → conf' ≡ conf → IsFirstFind (finds_altered conf) history found → IsFirstFind (finds_altered conf') history found
same-conf conf conf' history found e h = subst (λ (c : EitConf). IsFirstFind (finds_altered c) history found) (sym e) h

-- before the first packet
pub fresh-stands : (conf : EitConf) (service : NamedService) (flow : Flow) (found : FirstFind) (failed : Bool) → Edits conf service flow [] → found.at ≡ None
    → (failed ≡ false → Edits conf service flow []) × IsFirstFind (finds_altered conf) [] found
fresh-stands conf service flow found failed fresh none = (λ works. fresh, find-first _ found none)

module _ (old new : EitSteps) (mark : ℕ) (history : List Cell) (e : new.edit.conf ≡ old.edit.conf) (s : unmarked (MeetsHistory old) history mark) where
  pub met-more :
      (packet : List ℕ) (labels at : ℕ) → length history ≡ at →
      ((met : List (List ℕ)) → StandsFor old met → StandsFor new (met ++ packet ∷ [])) →
      ((met : List (List ℕ)) → StandsFor old met → new.found.at ≡ first_of old.found.at at (alters_with old.edit.conf met packet)) →
      unmarked (MeetsHistory new) (history ++ Live packet labels ∷ []) mark
  met-more packet labels at count stands noted =
      let met = live_packets history in (
        (
          subst (StandsFor new) (sym (flat_map-append packet_in history (Live packet labels ∷ []))) (stands met s.0.0),
          same-conf old.edit.conf new.edit.conf (history ++ Live packet labels ∷ []) new.found e
              (find-met (finds_altered old.edit.conf) history packet labels at (alters_with old.edit.conf met packet) old.found new.found s.0.1 count refl (noted met s.0.0)),
        ),
        marked mark history (Live packet labels) s.1,
      )

  -- memory ran out
  pub met-failed : new.failed ≡ true → new.found ≡ old.found → unmarked (MeetsHistory new) history mark
  met-failed failed found = (
    (
      λ works. absurd (true≢false (sym failed ∙ works)),
      same-conf old.edit.conf new.edit.conf history new.found e (subst (λ f. IsFirstFind (finds_altered old.edit.conf) history f) (sym found) s.0.1),
    ),
    s.1,
  )

pub met-dropped : (steps : EitSteps) (mark : ℕ) (history : List Cell) → unmarked (MeetsHistory steps) history mark → unmarked (MeetsHistory steps) (history ++ Dropped ∷ []) mark
met-dropped steps mark history s = (
  (
    subst (StandsFor steps) (sym (flat_map-append packet_in history (Dropped ∷ []) ∙ append-nil (live_packets history))) s.0.0,
    find-dropped (finds_altered steps.edit.conf) history steps.found s.0.1,
  ),
  marked mark history Dropped s.1,
)
