-- The due packets of a list of cells.
use Rattle.std.proofs.Common.{◌≡◌, ℕ, suc, ◌+◌, ◌≤◌, List, [], ◌∷◌, ◌++◌, length, take, Bool, true, false, if◌then◌else◌, inl, inr, refl, ap, sym, ◌∙◌, arith, length-append, append_assoc, append-nil}
use Rattle.std.specs.Prelude.{zero, ◌%◌, ◌==◌, Some, None, option_to_list}
use Rattle.std.proofs.lemmas.List.Concat.{flat_map-append}
use Rattle.ts_packet.specs.declared.cell.Cell.{Cell}
use Rattle.ts_packet.specs.Cells.{Live, Dropped, live_packets, packet_in}
use Rattle.chain_model.specs.PluginRule.{PluginRule}
use Rattle.plugin_trait.specs.LiveCount.{live_count}
use Rattle.plugin_trait.specs.PlacedLines.{placed_at, placed_after}
use Rattle.plugin_trait.specs.declared.line.Line.{Line}
use Rattle.plugin_trait.proofs.Giving.{placed_after-append}
use Rattle.plugin_notes.specs.Notes.{notes_after}
use Rattle.plugin_notes.specs.NotesKept.{StartsFrom}
use Rattle.plugin_notes.proofs.Noting.{IsNoteAt}
use Rattle.plug_every.specs.EveryRule.{every_rule, is_due, summed_up}
use Rattle.plug_every.specs.DueNotes.{due_on, place_of}
use Rattle.plug_every.specs.declared.due.Due.{Due}

-- one live packet more, and one dropped one
pub count-live : (history : List Cell) (packet : List ℕ) (labels : ℕ) → live_count (history ++ Live packet labels ∷ []) ≡ live_count history + 1
count-live history packet labels =
    ap length (flat_map-append packet_in history (Live packet labels ∷ [])) ∙ length-append (live_packets history) (packet ∷ [])

-- a note has its position
pub at_place : (n : ℕ) (history : List Cell) (packet : List ℕ) → IsNoteAt place_of (length history) (due_on n history packet)
at_place n history packet = go (is_due n history)
  where
    go : (b : Bool) → IsNoteAt place_of (length history) (if b then record { at = length history; seen = live_count history + 1 } ∷ [] else [])
    go true = record { one = inr (record { at = length history; seen = live_count history + 1 }, refl, refl) }
    go false = record { one = inl refl }

-- the note on one packet, as the code makes it
pub noted : (n seen at : ℕ) (history : List Cell) (packet : List ℕ) (labels : ℕ) → seen ≡ live_count history → at ≡ length history
    → option_to_list (if (seen + 1) % n == 0 then Some (record { at = at; seen = seen + 1 }) else None) ≡ notes_after (due_on n) history (Live packet labels ∷ [])
noted n seen at history packet labels e f =
    ap (λ (k : ℕ). option_to_list (if (k + 1) % n == 0 then Some (let due : Due = record { at = at; seen = k + 1 } in due) else None)) e
    ∙ (ap (λ (p : ℕ). option_to_list (if is_due n history then Some (let due : Due = record { at = p; seen = live_count history + 1 } in due) else None)) f
    ∙ go (is_due n history))
  where
    go : (b : Bool) → option_to_list (if b then Some (let due : Due = record { at = length history; seen = live_count history + 1 } in due) else None)
        ≡ (if b then record { at = length history; seen = live_count history + 1 } ∷ [] else []) ++ []
    go true = refl
    go false = refl

module _ (n : ℕ) (counts : Bool) (rule : PluginRule) where
  -- where the first due packet is, and what is before and behind it
  pub record FirstDue (history cells : List Cell) (due : Due) (rest : List Due) : Type 0 where
    pub before : List Cell
    pub packet : List ℕ
    pub labels : ℕ
    pub after : List Cell
    pub split : cells ≡ before ++ Live packet labels ∷ after
    pub none : placed_after (every_rule n counts rule) history before ≡ placed_after rule history before
    pub is : is_due n (history ++ before) ≡ true
    pub place : due.at ≡ length (history ++ before)
    pub seen : due.seen ≡ live_count (history ++ before) + 1
    pub rest_is : rest ≡ notes_after (due_on n) ((history ++ before) ++ Live packet labels ∷ []) after

  -- it is behind a cell that is not due
  behind_live : (history cells : List Cell) (packet : List ℕ) (labels : ℕ) (due : Due) (rest : List Due) → is_due n history ≡ false
      → FirstDue (history ++ Live packet labels ∷ []) cells due rest → FirstDue history (Live packet labels ∷ cells) due rest
  behind_live history cells packet labels due rest not_due first =
      let more : (history ++ Live packet labels ∷ []) ++ first.before ≡ history ++ Live packet labels ∷ first.before = append_assoc history (Live packet labels ∷ []) first.before in
      record {
        before = Live packet labels ∷ first.before;
        packet = first.packet;
        labels = first.labels;
        after = first.after;
        split = ap (λ (c : List Cell). Live packet labels ∷ c) first.split;
        none = ap (λ (b : Bool). placed_at (length history) (rule.lines_of history packet labels ++ (if b then summed_up counts rule (history ++ Live packet labels ∷ []) else []))
            ++ placed_after (every_rule n counts rule) (history ++ Live packet labels ∷ []) first.before) not_due
            ∙ (ap (λ (texts : List (List ℕ)). placed_at (length history) texts ++ placed_after (every_rule n counts rule) (history ++ Live packet labels ∷ []) first.before)
            (append-nil (rule.lines_of history packet labels))
            ∙ ap (λ (lines : List Line). placed_at (length history) (rule.lines_of history packet labels) ++ lines) first.none);
        is = ap (is_due n) (sym more) ∙ first.is;
        place = first.place ∙ ap length more;
        seen = first.seen ∙ ap (λ (h : List Cell). live_count h + 1) more;
        rest_is = first.rest_is ∙ ap (λ (h : List Cell). notes_after (due_on n) (h ++ Live first.packet first.labels ∷ []) first.after) more;
      }

  behind_dropped : (history cells : List Cell) (due : Due) (rest : List Due)
      → FirstDue (history ++ Dropped ∷ []) cells due rest → FirstDue history (Dropped ∷ cells) due rest
  behind_dropped history cells due rest first =
      let more : (history ++ Dropped ∷ []) ++ first.before ≡ history ++ Dropped ∷ first.before = append_assoc history (Dropped ∷ []) first.before in
      record {
        before = Dropped ∷ first.before;
        packet = first.packet;
        labels = first.labels;
        after = first.after;
        split = ap (λ (c : List Cell). let cs : List Cell = Dropped ∷ c in cs) first.split;
        none = first.none;
        is = ap (is_due n) (sym more) ∙ first.is;
        place = first.place ∙ ap length more;
        seen = first.seen ∙ ap (λ (h : List Cell). live_count h + 1) more;
        rest_is = first.rest_is ∙ ap (λ (h : List Cell). notes_after (due_on n) (h ++ Live first.packet first.labels ∷ []) first.after) more;
      }

  -- this cell is due
  right_here : (history cells : List Cell) (packet : List ℕ) (labels : ℕ) (due : Due) (rest : List Due) → is_due n history ≡ true
      → due ≡ record { at = length history; seen = live_count history + 1 } → rest ≡ notes_after (due_on n) (history ++ Live packet labels ∷ []) cells
      → FirstDue history (Live packet labels ∷ cells) due rest
  right_here history cells packet labels due rest is_due_here e left = record {
    before = [];
    packet = packet;
    labels = labels;
    after = cells;
    split = refl;
    none = refl;
    is = ap (is_due n) (append-nil history) ∙ is_due_here;
    place = ap (λ (d : Due). d.at) e ∙ sym (ap length (append-nil history));
    seen = ap (λ (d : Due). d.seen) e ∙ sym (ap (λ (h : List Cell). live_count h + 1) (append-nil history));
    rest_is = left ∙ sym (ap (λ (h : List Cell). notes_after (due_on n) (h ++ Live packet labels ∷ []) cells) (append-nil history));
  }

  pub first_due : (history cells : List Cell) (due : Due) (rest : List Due) → notes_after (due_on n) history cells ≡ due ∷ rest → FirstDue history cells due rest
  first_due history [] due rest e = cc
  first_due history (Live packet labels ∷ cells) due rest e =
      go (is_due n history) refl (first_due (history ++ Live packet labels ∷ []) cells due rest) e
    where
      go : (b : Bool) → is_due n history ≡ b
          → (notes_after (due_on n) (history ++ Live packet labels ∷ []) cells ≡ due ∷ rest → FirstDue (history ++ Live packet labels ∷ []) cells due rest)
          → (if b then record { at = length history; seen = live_count history + 1 } ∷ [] else []) ++ notes_after (due_on n) (history ++ Live packet labels ∷ []) cells ≡ due ∷ rest
          → FirstDue history (Live packet labels ∷ cells) due rest
      go true is_due_here later same = right_here history cells packet labels due rest is_due_here
          (let e : due ≡ record { at = length history; seen = live_count history + 1 } = cc in e) (let e : rest ≡ notes_after (due_on n) (history ++ Live packet labels ∷ []) cells = cc in e)
      go false not_due later same = behind_live history cells packet labels due rest not_due (later same)
  first_due history (Dropped ∷ cells) due rest e = behind_dropped history cells due rest (first_due (history ++ Dropped ∷ []) cells due rest e)

  -- up to that packet and with it there are the plugin's own lines, and then those that are due
  pub lines_to_due : (history cells : List Cell) (due : Due) (rest : List Due) (first : FirstDue history cells due rest)
      → placed_after (every_rule n counts rule) history (first.before ++ Live first.packet first.labels ∷ [])
      ≡ placed_after rule history (first.before ++ Live first.packet first.labels ∷ []) ++ placed_at due.at (summed_up counts rule ((history ++ first.before) ++ Live first.packet first.labels ∷ []))
  lines_to_due history cells due rest first =
      let met : List Cell = history ++ first.before in
      let cell : Cell = Live first.packet first.labels in
      let own : List (List ℕ) = rule.lines_of met first.packet first.labels in
      let more : List (List ℕ) = summed_up counts rule (met ++ cell ∷ []) in
      placed_after-append (every_rule n counts rule) history first.before (cell ∷ [])
      ∙ (ap (λ (lines : List Line). lines ++ placed_after (every_rule n counts rule) met (cell ∷ [])) first.none
      ∙ (ap (λ (b : Bool). placed_after rule history first.before ++ (placed_at (length met) (own ++ (if b then more else [])) ++ [])) first.is
      ∙ (ap (λ (lines : List Line). placed_after rule history first.before ++ lines) (append-nil (placed_at (length met) (own ++ more)) ∙ placed-append (length met) own more)
      ∙ (sym (append_assoc (placed_after rule history first.before) (placed_at (length met) own) (placed_at (length met) more))
      ∙ (ap (λ (lines : List Line). lines ++ placed_at (length met) more)
      (ap (λ (lines : List Line). placed_after rule history first.before ++ lines) (sym (append-nil (placed_at (length met) own))) ∙ sym (placed_after-append rule history first.before (cell ∷ [])))
      ∙ ap (λ (p : ℕ). placed_after rule history (first.before ++ cell ∷ []) ++ placed_at p more) (sym first.place))))))
    where
      placed-append : (p : ℕ) (xs ys : List (List ℕ)) → placed_at p (xs ++ ys) ≡ placed_at p xs ++ placed_at p ys
      placed-append p [] ys = refl
      placed-append p (x ∷ xs) ys = ap (λ (lines : List Line). (let l : Line = record { at = p; text = x } in l) ∷ lines) (placed-append p xs ys)

  -- where no due packet is below a position, there are the plugin's own lines alone
  pub lines_without : (history cells : List Cell) (k written : ℕ) → length history + k ≤ written → StartsFrom place_of written (notes_after (due_on n) history cells)
      → placed_after (every_rule n counts rule) history (take k cells) ≡ placed_after rule history (take k cells)
  lines_without history [] zero written le starts = refl
  lines_without history [] (suc k) written le starts = refl
  lines_without history (cell ∷ cells) zero written le starts = refl
  lines_without history (Dropped ∷ cells) (suc k) written le starts =
      lines_without (history ++ Dropped ∷ []) cells k written (omega (arith, le, length-append history (Dropped ∷ []))) starts
  lines_without history (Live packet labels ∷ cells) (suc k) written le starts =
      go (is_due n history) refl (lines_without (history ++ Live packet labels ∷ []) cells k written (omega (arith, le, length-append history (Live packet labels ∷ [])))) starts
    where
      go : (b : Bool) → is_due n history ≡ b
          → (StartsFrom place_of written (notes_after (due_on n) (history ++ Live packet labels ∷ []) cells)
          → placed_after (every_rule n counts rule) (history ++ Live packet labels ∷ []) (take k cells) ≡ placed_after rule (history ++ Live packet labels ∷ []) (take k cells))
          → StartsFrom place_of written ((if b then record { at = length history; seen = live_count history + 1 } ∷ [] else []) ++ notes_after (due_on n) (history ++ Live packet labels ∷ []) cells)
          → placed_after (every_rule n counts rule) history (Live packet labels ∷ take k cells) ≡ placed_after rule history (Live packet labels ∷ take k cells)
      go true is_due_here later from = absurd (let none : ⊥ = omega (arith, from, le) in none)
      go false not_due later from =
          ap (λ (b : Bool). placed_at (length history) (rule.lines_of history packet labels ++ (if b then summed_up counts rule (history ++ Live packet labels ∷ []) else []))
          ++ placed_after (every_rule n counts rule) (history ++ Live packet labels ∷ []) (take k cells)) not_due
          ∙ (ap (λ (texts : List (List ℕ)). placed_at (length history) texts ++ placed_after (every_rule n counts rule) (history ++ Live packet labels ∷ []) (take k cells))
          (append-nil (rule.lines_of history packet labels))
          ∙ ap (λ (lines : List Line). placed_at (length history) (rule.lines_of history packet labels) ++ lines) (later from))
