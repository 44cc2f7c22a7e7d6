-- Whether the service is there, and what the steps stand for, one cell more.
use Rattle.std.proofs.Common.{◌≡◌, ℕ, ◌+◌, ◌<◌, ◌≤◌, ◌&&◌, ◌||◌, Bool, true, false, List, [], ◌∷◌, ◌++◌, length, drop, get_or, refl, sym, ◌∙◌, ap, ap₂, append-nil, arith, length-append, subst, true≢false, Bor}
use Rattle.std.specs.Prelude.{Option, None, Some, is_some, option_map}
use Rattle.std.specs.Option.{option_copied}
use Rattle.std.proofs.lemmas.Grind.{flat_map-append}
use Rattle.std.proofs.lemmas.List.{drop_more, drop_all}
use Rattle.ts_packet.specs.declared.cell.Cell.{Cell}
use Rattle.ts_packet.specs.Cells.{Dropped, Live, live_packets, packet_in}
use Rattle.plugin_trait.proofs.FindLemmas.{find-dropped, find-met}
use Rattle.plugin_trait.specs.Finding.{IsFirstFind, first_of}
use Rattle.plugin_trait.specs.Unmarked.{unmarked}
use Rattle.plugin_trait.specs.declared.first_find.FirstFind.{FirstFind}
use Rattle.ts_table_rows.specs.TableValues.{TableHolding}
use Rattle.plug_psi.specs.InForce.{current_pat, pat_of, pid_for, pmt_of}
use Rattle.plug_psi.specs.SameForce.{SameInForce}
use Rattle.plug_psi.proofs.FoundLemmas.{found-none}
use Rattle.named_services.specs.declared.service_word.ServiceWord.{ServiceWord}
use Rattle.named_services.specs.NamedServices.{services_after}
use Rattle.named_services.specs.NamesStand.{StaysMeant}
use Rattle.service_items.specs.StreamTables.{stream_of}
use Rattle.plug_service.specs.Present.{present_after}
use Rattle.plug_service.specs.declared.present.Present.{Present}
use Rattle.plug_service.specs.Presence.{finds_service, is_any_there, is_there, is_there_after}
use Rattle.plug_service.specs.Actions.{action_of}
use Rattle.plug_service.specs.ActionsState.{ActionsStand}
use Rattle.plug_service.specs.ServiceState.{IsNoted, MeetsHistory, Served, StandsFor}
use Rattle.plug_service.specs.declared.kept.Kept.{Kept}
use Rattle.plug_service.specs.declared.way.Way.{Way}
use Rattle.plug_service.specs.declared.way.Way.TheVariants.{Keep, Remove}
use Rattle.plug_service.specs.declared.pid_actions.PidActions.{PidActions}
use Rattle.plug_service.specs.declared.service_steps.ServiceSteps.{ServiceSteps}

abbrev made : Way → List ℕ → Bool → Option ℕ → Present
made way services unknown stream = record { way = way; services = services; unknown = unknown; stream = stream }

no-pat : pat_of [] ≡ None
unfolding pat_of
no-pat = found-none current_pat 0

-- a service that the PAT lacks is not there
pub not-there : (way : Way) (service : ℕ) (pat pmt : Option TableHolding) → pid_for pat service ≡ None → false ≡ is_there way service pat pmt
not-there (Keep kept) service pat pmt e = sym (ap (λ o. is_some o && is_some pmt) e)
not-there (Remove everywhere) service pat pmt e = sym (ap is_some e)

-- one that it has is there to be kept where there is a PMT
pub there-kept : (kept : Kept) (service : ℕ) (pat pmt : Option TableHolding) → is_some (pid_for pat service) ≡ true → is_some pmt ≡ is_there (Keep kept) service pat pmt
there-kept kept service pat pmt e = sym (ap (λ b. b && is_some pmt) e)

-- a thing that is lent is there as what is seen of it is
pub held-some : {X Y : Type 0} (view : X → Y) (lent : Option (Bor X)) → is_some lent ≡ is_some (option_map view (option_copied lent))
held-some view None = refl
held-some view (Some lent) = refl

-- the PAT has none of the services
none-of : (way : Way) (services : List ℕ) (pat : Option TableHolding) (pmts : ℕ → Option TableHolding) → ((service : ℕ) → pid_for pat service ≡ None) → is_any_there way services pat pmts ≡ false
none-of way [] pat pmts none = refl
none-of way (service ∷ services) pat pmts none = ap₂ (λ a b. a || b) (sym (not-there way service pat (pmts service) (none service))) (none-of way services pat pmts none)

-- before the first packet none is there
pub none-there : (way : Way) (words : List ServiceWord) → is_there_after way words [] ≡ false
none-there way words = none-of way (services_after words []) (pat_of []) (λ service. pmt_of service []) (λ service. ap (λ pat. pid_for pat service) no-pat)

-- with the same PMTs as many are there
same-any : (way : Way) (services : List ℕ) (pat pat' : Option TableHolding) (pmts pmts' : ℕ → Option TableHolding) → pat ≡ pat' → ((service : ℕ) → pmts service ≡ pmts' service) → is_any_there way services pat pmts ≡ is_any_there way services pat' pmts'
same-any way [] pat pat' pmts pmts' e same = refl
same-any way (service ∷ services) pat pat' pmts pmts' e same = ap₂ (λ a b. a || b) (ap₂ (is_there way service) e (same service)) (same-any way services pat pat' pmts pmts' e same)

-- with the same tables in force the actions stand as before
pub same-actions : (actions : PidActions) (present : Present) (met : List (List ℕ)) (p : List ℕ) → SameInForce met p
    → ActionsStand actions present (pat_of met) (λ other. pmt_of other met)
    → ActionsStand actions present (pat_of (met ++ p ∷ [])) (λ other. pmt_of other (met ++ p ∷ []))
same-actions actions present met p same stands pid lt =
    stands pid lt
    ∙ sym (ap (λ pat. action_of present.way present.services pat (λ other. pmt_of other (met ++ p ∷ [])) pid) same.pat
    ∙ ap (λ pmts. action_of present.way present.services (pat_of met) pmts pid) (λ i other. same.pmts other i))

-- and the same is in force as far as edits go by it
same-parts : (way : Way) (a b : List ℕ) (u v : Bool) (s t : Option ℕ) → a ≡ b → u ≡ v → s ≡ t → made way a u s ≡ made way b v t
same-parts way a b u v s t e f g = λ i. made way (e i) (f i) (g i)

pub same-present : (way : Way) (words : List ServiceWord) (met : List (List ℕ)) (p : List ℕ) → SameInForce met p → StaysMeant words met p
    → present_after way words (met ++ p ∷ []) ≡ present_after way words met
same-present way words met p same stays = same-parts way _ _ _ _ _ _ stays.services stays.unknown (ap stream_of same.pat)

-- what the steps stand for says nothing of the latch, and goes by their own services
pub served-latched : (old new : ServiceSteps) (failed : Bool) (met : List (List ℕ)) → new.way ≡ old.way → new.words ≡ old.words
    → Served old.way old.words new met → Served new.way new.words (record new { failed = failed }) met
served-latched old new failed met w s h =
    let own = subst (λ words. Served new.way words new met) (sym s) (subst (λ way. Served way old.words new met) (sym w) h) in
    record { followed = own.followed; edited = own.edited; noted = own.noted }

-- where the same tables are in force, nothing changes
pub same-there : (way : Way) (words : List ServiceWord) (met : List (List ℕ)) (p : List ℕ) → SameInForce met p → StaysMeant words met p
    → is_there_after way words (met ++ p ∷ []) ≡ is_there_after way words met
same-there way words met p same stays =
    ap (λ services. is_any_there way services (pat_of (met ++ p ∷ [])) (λ service. pmt_of service (met ++ p ∷ []))) stays.services
    ∙ same-any way (services_after words met) (pat_of (met ++ p ∷ [])) (pat_of met) (λ service. pmt_of service (met ++ p ∷ [])) (λ service. pmt_of service met) same.pat same.pmts

-- one of some services that are left
module _ (way : Way) (services : List ℕ) (pat : Option TableHolding) (pmts : ℕ → Option TableHolding) (i : ℕ) (d : ℕ) (inside : i < length services) (there : Bool)
    (is : there ≡ is_there way (get_or services i d) pat (pmts (get_or services i d))) where
  any-step : is_any_there way (drop i services) pat pmts ≡ (there || is_any_there way (drop (i + 1) services) pat pmts)
  any-step = ap (λ l. is_any_there way l pat pmts) (drop_more services i d inside) ∙ ap (λ b. b || is_any_there way (drop (i + 1) services) pat pmts) (sym is)

  pub any-next : there ≡ false → is_any_there way (drop i services) pat pmts ≡ is_any_there way services pat pmts → is_any_there way (drop (i + 1) services) pat pmts ≡ is_any_there way services pat pmts
  any-next none so_far = sym (any-step ∙ ap (λ b. b || is_any_there way (drop (i + 1) services) pat pmts) none) ∙ so_far

  pub any-found : there ≡ true → is_any_there way (drop i services) pat pmts ≡ is_any_there way services pat pmts → true ≡ is_any_there way services pat pmts
  any-found one so_far = sym (any-step ∙ ap (λ b. b || is_any_there way (drop (i + 1) services) pat pmts) one) ∙ so_far

pub any-none : (way : Way) (services : List ℕ) (pat : Option TableHolding) (pmts : ℕ → Option TableHolding) (i : ℕ) → length services ≤ i → is_any_there way (drop i services) pat pmts ≡ is_any_there way services pat pmts → false ≡ is_any_there way services pat pmts
any-none way services pat pmts i none so_far = sym (ap (λ l. is_any_there way l pat pmts) (drop_all i services none)) ∙ so_far

-- ---- what is noted

pub noted-none : (found : FirstFind) (there : Bool) → found.at ≡ None → there ≡ false → IsNoted found there
noted-none found there e f = λ at. ap₂ (λ o b. first_of o at b) e f ∙ sym e

once : (o : Option ℕ) (at n : ℕ) (b : Bool) → first_of (first_of o at b) n b ≡ first_of o at b
once None at n true = refl
once None at n false = refl
once (Some first) at n b = refl

pub noted-after : (old new : FirstFind) (at : ℕ) (there : Bool) → new.at ≡ first_of old.at at there → IsNoted new there
noted-after old new at there e = λ n. ap (λ o. first_of o n there) e ∙ once old.at at n there ∙ sym e

-- ---- one cell more

marked : (mark : ℕ) (history : List Cell) (cell : Cell) → mark ≤ length history → mark ≤ length (history ++ cell ∷ [])
marked mark history cell h = omega (arith, h, length-append history (cell ∷ []))

-- the position that is kept does not depend on how the services are named
renamed : (way way' : Way) (services services' : List ServiceWord) (history : List Cell) (found : FirstFind) → way' ≡ way → services' ≡ services →
    IsFirstFind (finds_service way services) history found → IsFirstFind (finds_service way' services') history found
renamed way way' services services' history found e f h =
    subst (λ w. IsFirstFind (finds_service w services') history found) (sym e) (subst (λ s. IsFirstFind (finds_service way s) history found) (sym f) h)

module _ (old new : ServiceSteps) (mark : ℕ) (history : List Cell) (e : new.way ≡ old.way) (f : new.words ≡ old.words)
    (s : unmarked (MeetsHistory old) history mark) where
  pub met-more :
      (packet : List ℕ) (labels at : ℕ) → length history ≡ at →
      ((met : List (List ℕ)) → StandsFor old met → StandsFor new (met ++ packet ∷ [])) →
      ((met : List (List ℕ)) → StandsFor old met → new.found.at ≡ first_of old.found.at at (is_there_after old.way old.words (met ++ packet ∷ []))) →
      unmarked (MeetsHistory new) (history ++ Live packet labels ∷ []) mark
  met-more packet labels at count stands noted =
      let met = live_packets history in (
        (
          subst (StandsFor new) (sym (flat_map-append packet_in history (Live packet labels ∷ []))) (stands met s.0.0),
          renamed old.way new.way old.words new.words (history ++ Live packet labels ∷ []) new.found e f
              (find-met (finds_service old.way old.words) history packet labels at (is_there_after old.way old.words (met ++ packet ∷ [])) old.found new.found s.0.1 count refl (noted met s.0.0)),
        ),
        marked mark history (Live packet labels) s.1,
      )

  -- memory ran out
  pub met-failed : new.failed ≡ true → new.found ≡ old.found → unmarked (MeetsHistory new) history mark
  met-failed failed found = (
    (
      λ works. absurd (true≢false (sym failed ∙ works)),
      renamed old.way new.way old.words new.words history new.found e f
          (subst (λ g. IsFirstFind (finds_service old.way old.words) history g) (sym found) s.0.1),
    ),
    s.1,
  )

pub met-dropped : (plugin : ServiceSteps) (mark : ℕ) (history : List Cell) → unmarked (MeetsHistory plugin) history mark → unmarked (MeetsHistory plugin) (history ++ Dropped ∷ []) mark
met-dropped plugin mark history s = (
  (
    subst (StandsFor plugin) (sym (flat_map-append packet_in history (Dropped ∷ []) ∙ append-nil (live_packets history))) s.0.0,
    find-dropped (finds_service plugin.way plugin.words) history plugin.found s.0.1,
  ),
  marked mark history Dropped s.1,
)
