-- Lemmas on what one packet tells.
use Rattle.std.proofs.Common.{◌≡◌, ℕ, ◌<◌, List, [], ◌∷◌, ◌++◌, length, ap, inl, inr, refl, sym, subst, ◌∙◌, true, false, if◌then◌else◌, append-nil, arith}
use Rattle.std.specs.List.{All, flat_map}
use Rattle.std.proofs.lemmas.List.Elements.{All-push}
use Rattle.ts_bit_rows.proofs.Fields.{field-below}
use Rattle.ts_packet.specs.declared.cell.Cell.{Cell}
use Rattle.ts_packet.specs.declared.numbers.TheConstants.{PID_COUNT}
use Rattle.ts_packet.specs.Header.{pid_of}
use Rattle.plugin_options.specs.Selection.{is_selected}
use Rattle.plugin_trait.specs.PlacedLines.{placed_at}
use Rattle.plugin_notes.proofs.Noting.{IsNoteAt}
use Rattle.plug_times.specs.StampTexts.{lines_of_stamp, pid_in, place_of, stamp_texts}
use Rattle.plug_times.specs.Stamps.{is_empty, stamp_at, stamps_on, told_at}
use Rattle.plug_times.specs.declared.shown.Shown.{Shown}
use Rattle.plug_times.specs.declared.stamp.Stamp.{Stamp}
use Rattle.plug_times.specs.declared.timestamps_conf.TimestampsConf.{TimestampsConf}

-- at most one stamp
told_one : (at : ℕ) (packet : List ℕ) → IsNoteAt place_of at (told_at at packet)
told_one at packet =
    elim (is_empty (stamp_at at packet)) as (λ b. IsNoteAt place_of at (if b then [] else stamp_at at packet ∷ [])) [
      | true ↦ record { one = inl refl }
      | false ↦ record { one = inr (stamp_at at packet, refl, refl) }
    ]

pub one_note : (conf : TimestampsConf) (history : List Cell) (packet : List ℕ) → IsNoteAt place_of (length history) (stamps_on conf history packet)
one_note conf history packet =
    elim (is_selected conf.pid false (pid_of packet)) as (λ b. IsNoteAt place_of (length history) (if b then told_at (length history) packet else [])) [
      | true ↦ told_one (length history) packet
      | false ↦ record { one = inl refl }
    ]

-- it is on a PID
told_on_pid : (at : ℕ) (packet : List ℕ) → All (λ (s : Stamp). pid_in s < PID_COUNT) (told_at at packet)
told_on_pid at packet =
    elim (is_empty (stamp_at at packet)) as (λ b. All (λ (s : Stamp). pid_in s < PID_COUNT) (if b then [] else stamp_at at packet ∷ [])) [
      | true ↦ none
      | false ↦ All-push (λ (s : Stamp). pid_in s < PID_COUNT) [] (stamp_at at packet) none (field-below packet 11 13)
    ]
  where
    none : All (λ (s : Stamp). pid_in s < PID_COUNT) []
    none = λ k d lt. absurd (let less : ⊥ = omega (arith, lt) in less)

pub on_pids : (conf : TimestampsConf) (history : List Cell) (packet : List ℕ) → All (λ (s : Stamp). pid_in s < PID_COUNT) (stamps_on conf history packet)
on_pids conf history packet =
    elim (is_selected conf.pid false (pid_of packet)) as (λ b. All (λ (s : Stamp). pid_in s < PID_COUNT) (if b then told_at (length history) packet else [])) [
      | true ↦ told_on_pid (length history) packet
      | false ↦ (λ k d lt. absurd (let less : ⊥ = omega (arith, lt) in less))
    ]

-- the texts of a stamp at its position are its lines
one_placed : (shown : Shown) (at : ℕ) (stamp : Stamp) → place_of stamp ≡ at → placed_at at (stamp_texts shown stamp ++ []) ≡ lines_of_stamp shown stamp ++ []
one_placed shown at stamp is =
    ap (placed_at at) (append-nil (stamp_texts shown stamp))
    ∙ (ap (λ (p : ℕ). placed_at p (stamp_texts shown stamp)) (sym is)
    ∙ sym (append-nil (lines_of_stamp shown stamp)))

pub stamp_lines : (shown : Shown) (at : ℕ) (stamps : List Stamp) → IsNoteAt place_of at stamps
    → placed_at at (flat_map (stamp_texts shown) stamps) ≡ flat_map (lines_of_stamp shown) stamps
stamp_lines shown at stamps one =
    let Same : List Stamp → Type 0 = λ ns. placed_at at (flat_map (stamp_texts shown) ns) ≡ flat_map (lines_of_stamp shown) ns in
    elim one.one [
      | inl e ↦ subst Same (sym e) refl
      | inr e ↦ subst Same (sym e.1) (one_placed shown at e.0 e.2)
    ]
