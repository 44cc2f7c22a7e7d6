-- One cell more.
use Rattle.std.proofs.Common.{◌≡◌, ◌≢◌, ℕ, ◌<◌, ◌≤◌, Bool, true, false, List, [], ◌∷◌, ◌++◌, length, filter, refl, sym, ◌∙◌, ap, append-nil, arith, length-append, subst}
use Rattle.std.specs.Prelude.{◌==◌, ◌&&◌, None, nat_eq, nat_lt}
use Rattle.std.proofs.lemmas.Grind.{flat_map-append}
use Rattle.ts_packet.specs.declared.cell.Cell.{Cell}
use Rattle.ts_packet.specs.Cells.{Dropped, Live, live_packets, packet_in}
use Rattle.ts_packet.specs.declared.numbers.TheConstants.{NULL_PID}
use Rattle.ts_packet.specs.Header.{pid_of}
use Rattle.ts_demux.specs.TablesOn.{tables_on}
use Rattle.ts_demux.specs.TakenWhere.{taken_on}
use Rattle.ts_demux.proofs.TakenLemmas.{taken-filter, taken-more, taken-none, with_if}
use Rattle.plugin_trait.proofs.FindLemmas.{find-dropped, find-first, find-met, find-nothing}
use Rattle.plugin_trait.specs.Finding.{first_of}
use Rattle.plugin_trait.specs.Unmarked.{unmarked}
use Rattle.plugin_trait.specs.declared.first_find.FirstFind.{FirstFind}
use Rattle.plug_psi.specs.AlteredTables.{alters_one}
use Rattle.plug_psi.specs.Edits.{Change}
use Rattle.plug_psi.specs.EditorStands.{StandsFor, edit_of, has_failed}
use Rattle.plug_psi.specs.declared.editor.Editor.{Editor}
use Rattle.plug_edit.specs.EditRule.{finds_altered, is_taken, taken_of, takes}
use Rattle.plug_edit.specs.EditState.{StandsWith}

-- a packet on another PID
pub other_pid : (pid : ℕ) (packet : List ℕ) → pid_of packet ≢ pid → is_taken pid packet ≡ false
other_pid pid packet h = ap (λ b. b && nat_lt pid NULL_PID) (differ (pid_of packet) pid h)
  where
    differ : (a b : ℕ) → a ≢ b → nat_eq a b ≡ false
    differ a b h = grind (arith, h)

-- a packet on the PID of an editor
pub same_pid : (pid : ℕ) (packet : List ℕ) → pid_of packet ≡ pid → pid < NULL_PID → is_taken pid packet ≡ true
same_pid pid packet same below = ap (λ b. b && nat_lt pid NULL_PID) (equal (pid_of packet) pid same) ∙ told below
  where
    equal : (a b : ℕ) → a ≡ b → nat_eq a b ≡ true
    equal a b h = grind (arith, h)

    told : pid < NULL_PID → nat_lt pid NULL_PID ≡ true
    told h = grind (arith, h)

-- no packet is taken by an editor of null packets
pub null_pid : (pid : ℕ) (packet : List ℕ) → NULL_PID ≤ pid → is_taken pid packet ≡ false
null_pid pid packet above = ap (λ b. nat_eq (pid_of packet) pid && b) (told above) ∙ neither (nat_eq (pid_of packet) pid)
  where
    told : NULL_PID ≤ pid → nat_lt pid NULL_PID ≡ false
    told h = grind (arith, h)

    neither : (b : Bool) → (b && false) ≡ false
    neither true = refl
    neither false = refl

-- what is taken are the packets that pass the test of each
pub filtered : (pid : ℕ) (history : List Cell) → taken_of pid history ≡ filter (is_taken pid) (live_packets history)
filtered pid history = taken-filter (is_taken pid) [] (live_packets history)

one-more : (pid : ℕ) (history : List Cell) (packet : List ℕ) (labels : ℕ) → taken_of pid (history ++ Live packet labels ∷ []) ≡ with_if (is_taken pid packet) (taken_of pid history) packet
one-more pid history packet labels =
    ap (taken_on takes pid) (flat_map-append packet_in history (Live packet labels ∷ []))
    ∙ taken-more (λ upto packet. (pid_of packet == pid) && takes pid upto) (live_packets history) packet

other-more : (pid : ℕ) (history : List Cell) (packet : List ℕ) (labels : ℕ) → is_taken pid packet ≡ false → taken_of pid (history ++ Live packet labels ∷ []) ≡ taken_of pid history
other-more pid history packet labels e = one-more pid history packet labels ∙ ap (λ b. with_if b (taken_of pid history) packet) e

own-more : (pid : ℕ) (history : List Cell) (packet : List ℕ) (labels : ℕ) → is_taken pid packet ≡ true → taken_of pid (history ++ Live packet labels ∷ []) ≡ taken_of pid history ++ packet ∷ []
own-more pid history packet labels e = one-more pid history packet labels ∙ ap (λ b. with_if b (taken_of pid history) packet) e

marked : (mark : ℕ) (history : List Cell) (cell : Cell) → mark ≤ length history → mark ≤ length (history ++ cell ∷ [])
marked mark history cell h = omega (arith, h, length-append history (cell ∷ []))

dropped-more : (pid : ℕ) (history : List Cell) → taken_of pid (history ++ Dropped ∷ []) ≡ taken_of pid history
dropped-more pid history = ap (taken_on takes pid) (flat_map-append packet_in history (Dropped ∷ []) ∙ append-nil (live_packets history))

-- whether something is found, where it is known whether the packet is taken
found-as : (pid : ℕ) (edit : List (List ℕ) → Change) (history : List Cell) (packet : List ℕ) (labels : ℕ) (b : Bool) → is_taken pid packet ≡ b →
    finds_altered pid edit history packet labels ≡ (b && alters_one edit (tables_on pid (taken_of pid history ++ packet ∷ [])))
found-as pid edit history packet labels b e = ap (λ t. t && alters_one edit (tables_on pid (taken_of pid history ++ packet ∷ []))) e

-- before the first packet
pub fresh-stands :
    {E : Type 0} (change : E → List (List ℕ) → Change) (editor : Editor E) (edit : E) (pid : ℕ) (found : FirstFind) → edit_of editor ≡ edit →
    (pid < NULL_PID → StandsFor (change edit) editor pid []) → found.at ≡ None → StandsWith (change (edit_of editor)) editor pid found []
fresh-stands change editor edit pid found e fresh none = (
  λ works below. subst (λ x. StandsFor (change x) editor pid (taken_of pid [])) (sym e) (subst (StandsFor (change edit) editor pid) (sym (taken-none _)) (fresh below)),
  find-first _ found none,
)

module _ {E : Type 0} (change : List (List ℕ) → Change) where
  pub meets_dropped :
      (editor : Editor E) (pid mark : ℕ) (found : FirstFind) (history : List Cell) →
      unmarked (StandsWith change editor pid found) history mark → unmarked (StandsWith change editor pid found) (history ++ Dropped ∷ []) mark
  meets_dropped editor pid mark found history s = (
    (
      λ works below. subst (StandsFor change editor pid) (sym (dropped-more pid history)) (s.0.0 works below),
      find-dropped (finds_altered pid change) history found s.0.1,
    ),
    marked mark history Dropped s.1,
  )

  pub meets_other :
      (editor : Editor E) (pid mark : ℕ) (found : FirstFind) (history : List Cell) (packet : List ℕ) (labels : ℕ) →
      is_taken pid packet ≡ false → unmarked (StandsWith change editor pid found) history mark → unmarked (StandsWith change editor pid found) (history ++ Live packet labels ∷ []) mark
  meets_other editor pid mark found history packet labels e s = (
    (
      λ works below. subst (StandsFor change editor pid) (sym (other-more pid history packet labels e)) (s.0.0 works below),
      find-nothing (finds_altered pid change) history packet labels found s.0.1 (found-as pid change history packet labels false e),
    ),
    marked mark history (Live packet labels) s.1,
  )

  pub meets_taken :
      (change' : List (List ℕ) → Change) (old new : Editor E) (pid mark at : ℕ) (before after : FirstFind) (altered : Bool) (history : List Cell) (packet : List ℕ) (labels : ℕ) →
      is_taken pid packet ≡ true → pid < NULL_PID → change ≡ change' → has_failed old ≡ false →
      ((q : ℕ) (taken : List (List ℕ)) → StandsFor change old q taken → StandsFor change new q (taken ++ packet ∷ [])) →
      ((edit : List (List ℕ) → Change) (q : ℕ) (taken : List (List ℕ)) → StandsFor edit new q taken → altered ≡ alters_one edit (tables_on q taken)) →
      length history ≡ at → after.at ≡ first_of before.at at altered →
      unmarked (StandsWith change old pid before) history mark → unmarked (StandsWith change' new pid after) (history ++ Live packet labels ∷ []) mark
  meets_taken change' old new pid mark at before after altered history packet labels e below same works step told count noted s =
      let stepped : StandsFor change new pid (taken_of pid history ++ packet ∷ []) = step pid (taken_of pid history) (s.0.0 works below) in
      let finds : altered ≡ finds_altered pid change history packet labels = told change pid (taken_of pid history ++ packet ∷ []) stepped ∙ sym (found-as pid change history packet labels true e) in (
        subst (λ c. StandsWith c new pid after (history ++ Live packet labels ∷ [])) same (
          λ _ _. subst (StandsFor change new pid) (sym (own-more pid history packet labels e)) stepped,
          find-met (finds_altered pid change) history packet labels at altered before after s.0.1 count finds noted,
        ),
        marked mark history (Live packet labels) s.1,
      )

pub not_true : (b : Bool) → (b ≡ true → false ≡ true) → b ≡ false
not_true true h = sym (h refl)
not_true false h = refl
