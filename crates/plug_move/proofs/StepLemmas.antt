-- What `remap` is made of its settings, and what it makes where memory is there.
use Rattle.std.proofs.Common.{◌≡◌, ℕ, ◌+◌, ◌≤◌, ◌<◌, Bool, true, false, List, [], ◌∷◌, ◌++◌, length, length-append, Option, None, Some, refl, sym, ◌∙◌, ap, subst, arith, true≢false}
use Rattle.std.specs.Prelude.{is_none, is_some, if◌then◌else◌, IfSome}
use Rattle.std.proofs.lemmas.Grind.{flat_map-append}
use Rattle.ts_packet.specs.declared.cell.Cell.{Cell}
use Rattle.ts_packet.specs.Cells.{Live, live_packets, packet_in}
use Rattle.ts_packet.specs.Header.{pid_of}
use Rattle.plugin_trait.specs.declared.first_find.FirstFind.{FirstFind}
use Rattle.plugin_trait.specs.declared.outcome.Outcome.{Outcome}
use Rattle.plugin_trait.specs.declared.outcome.Outcome.TheVariants.{Pass, Drop, Last, Stop, Refuse, NoMemory}
use Rattle.plugin_trait.specs.Finding.{first_of, none_below, IsFirstFind}
use Rattle.plugin_trait.specs.Steps.{met_after}
use Rattle.plug_move.specs.MapperState.{StandsFor, has_failed}
use Rattle.plug_move.specs.RemapRule.{moved_to, moves, remap_rule, with_tables}
use Rattle.plug_move.specs.RemapState.{GoesOn, HasFailed, MapperStands, TablesStand}
use Rattle.plug_move.specs.MoveTables.{move_by}
use Rattle.plug_move.specs.Targets.{target_of}
use Rattle.plug_move.specs.declared.move_table.Move.TheVariants.{Keep, To}
use Rattle.plug_move.specs.declared.remap_conf.RemapConf.{RemapConf}
use Rattle.plug_move.specs.declared.table_mapper.TableMapper.{TableMapper}

-- settings with a table and whether tables stay
abbrev conf_with : List (ℕ × ℕ) × Bool → Bool → RemapConf
conf_with table none = record { operand = table.0; no_psi = none; unchecked = table.1 }

-- the rule is that of the settings
pub same-rule : (table : List (ℕ × ℕ) × Bool) (none : Bool) (conf : RemapConf) → table ≡ (conf.operand, conf.unchecked) → none ≡ conf.no_psi → remap_rule (conf_with table none) ≡ remap_rule conf
same-rule table none conf e f =
    ap (λ t. remap_rule (conf_with t none)) e ∙ ap (λ b. remap_rule (conf_with (conf.operand, conf.unchecked) b)) f

not_true : (b : Bool) → (b ≡ true → false ≡ true) → b ≡ false
not_true true h = sym (h refl)
not_true false h = refl

-- where memory was there, what edits tables goes on
pub went-on :
    (old : Option TableMapper) (mapper new : TableMapper) (target : Option ℕ) (packet made : List ℕ) → old ≡ Some mapper → (has_failed mapper ≡ true → false ≡ true) →
    ((pairs : List (ℕ × ℕ)) (met : List (List ℕ)) → StandsFor pairs mapper met → target ≡ target_of pairs (pid_of packet) → made ≡ with_tables pairs met packet) →
    ((pairs : List (ℕ × ℕ)) (met : List (List ℕ)) → StandsFor pairs mapper met → StandsFor pairs new (met ++ packet ∷ [])) →
    GoesOn old (Some new) target packet made Pass
went-on old mapper new target packet made is works mapped stands = λ pairs met h.
    let held = subst (λ o. MapperStands pairs o met) is h (not_true (has_failed mapper) works) in (
      λ e. mapped pairs met held e ∙ sym (ap (λ o. if is_none o then moved_to target packet else with_tables pairs met packet) is),
      λ _. stands pairs met held,
    )

-- ---- one packet more

-- a PID that is kept is not moved, and one with a target is
pub keeps : (target : Option ℕ) (refused : Bool) → move_by target refused ≡ Keep → is_some target ≡ false
keeps None refused e = refl
keeps (Some pid) refused e = cc

pub leads : (target : Option ℕ) (refused : Bool) (pid : ℕ) → move_by target refused ≡ To pid → is_some target ≡ true
leads None true pid e = cc
leads None false pid e = cc
leads (Some other) refused pid e = refl

unfound : (found : Option ℕ) (at : ℕ) → first_of found at false ≡ found
unfound None at = refl
unfound (Some first) at = refl

-- the same position is the same find
pub same-find : (test : List Cell → List ℕ → ℕ → Bool) (history : List Cell) (old new : FirstFind) (at : ℕ) → IsFirstFind test history old → new.at ≡ first_of old.at at false → IsFirstFind test history new
same-find test history old new at stands e =
    let kept : new.at ≡ old.at = e ∙ unfound old.at at in
    record {
      met = subst (λ (o : Option ℕ). IfSome o (λ first. first < length history)) (sym kept) stands.met;
      tells = λ cut le. stands.tells cut le ∙ ap (λ (o : Option ℕ). none_below o cut) (sym kept);
    }

pub marks-more : (history : List Cell) (cell : Cell) (mark : ℕ) → mark ≤ length history → mark ≤ length (history ++ cell ∷ [])
marks-more history cell mark le = let h : length (history ++ cell ∷ []) ≡ length history + 1 = length-append history (cell ∷ []) in omega (arith, h, le)

failed-stands : (pairs : List (ℕ × ℕ)) (tables : Option TableMapper) (met : List (List ℕ)) → HasFailed tables → MapperStands pairs tables met
failed-stands pairs None met failed = absurd failed
failed-stands pairs (Some mapper) met failed = λ works. absurd (true≢false (sym failed ∙ works))

-- what it stands for after a packet that is not refused
pub met-on :
    (pairs : List (ℕ × ℕ)) (old new : Option TableMapper) (found : FirstFind) (target : Option ℕ) (packet made : List ℕ) (labels : ℕ) (history : List Cell) (mark : ℕ) (outcome : Outcome) →
    GoesOn old new target packet made outcome → TablesStand pairs old history → mark ≤ length history →
    (outcome ≡ Pass → IsFirstFind (moves pairs) (history ++ Live packet labels ∷ []) found) → (outcome ≡ NoMemory → IsFirstFind (moves pairs) history found) →
    (TablesStand pairs new (met_after outcome history (Live packet labels)) × IsFirstFind (moves pairs) (met_after outcome history (Live packet labels)) found)
    × (mark ≤ length (met_after outcome history (Live packet labels)))
met-on pairs old new found target packet made labels history mark Pass goes stands le passed failed = (
  (
    subst (λ (met : List (List ℕ)). MapperStands pairs new met) (sym (flat_map-append packet_in history (Live packet labels ∷ []))) (goes pairs (live_packets history) stands).1,
    passed refl,
  ),
  marks-more history (Live packet labels) mark le,
)
met-on pairs old new found target packet made labels history mark NoMemory goes stands le passed failed =
    ((failed-stands pairs new (live_packets history) goes.1, failed refl), le)
met-on pairs old new found target packet made labels history mark Drop goes stands le passed failed = absurd goes
met-on pairs old new found target packet made labels history mark Last goes stands le passed failed = absurd goes
met-on pairs old new found target packet made labels history mark Stop goes stands le passed failed = absurd goes
met-on pairs old new found target packet made labels history mark (Refuse reason) goes stands le passed failed = absurd goes
