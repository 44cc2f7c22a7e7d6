-- The proof of the law of `restuff`, cell by cell.
use Rattle.std.proofs.Common.{◌≡◌, ℕ, ◌+◌, ◌<◌, ◌≤◌, List, [], ◌∷◌, ◌++◌, length, take, drop, slice_get, Bool, Option, Some, None, refl, ap, sym, ◌∙◌, subst, inl, inr, arith, append-nil, append_assoc, length-append, if◌then◌else◌}
use Rattle.std.specs.Prelude.{option_to_list}
use Rattle.std.specs.List.{flat_map}
use Rattle.std.proofs.lemmas.Bool.{cases_Bool, cond-true, cond-false}
use Rattle.std.proofs.lemmas.Grind.{flat_map-append}
use Rattle.ts_packet.specs.declared.cell.Cell.{Cell}
use Rattle.ts_packet.specs.declared.labelled.Labelled.{Labelled}
use Rattle.ts_packet.specs.Cells.{Live, Dropped}
use Rattle.ts_packet.specs.Header.{pid_of}
use Rattle.ts_packet.specs.LiveRows.{labelled, live_rows, row_in}
use Rattle.chain_model.specs.declared.reason.Reason.TheVariants.{Pid}
use Rattle.chain_model.specs.Apply.{StageList, outcome_of_live, onto, apply_after, apply}
use Rattle.chain_model.specs.PluginRule.{RuleOutcome, refuses}
use Rattle.plug_restuff.specs.RestuffLaw.{IsRestuffed, carried_from, filled_from}
use Rattle.plug_restuff.specs.RestuffRule.{filled, is_null, is_refused, labels_of, left_after, outcome_of, put_in, restuff_rule, waits_after, with_came}
use Rattle.plug_restuff.specs.RestuffSettings.{IsValidRestuff}
use Rattle.plug_restuff.specs.Slots.{is_slot, slots_before}
use Rattle.plug_restuff.specs.declared.restuff_conf.RestuffConf.{RestuffConf}
use Rattle.plug_restuff.specs.declared.waiting.Waiting.{Waiting}
use Rattle.plug_restuff.proofs.SlotLemmas.{next-is}
use Rattle.plug_restuff.proofs.WaitLemmas.{drop-few, first-others, has_room, waits-more}

-- the law from a cell and a slot on, where some packets wait
pub record Filled (conf : RestuffConf) (cell slot : ℕ) (waiting : List Waiting) (came left : List Labelled) : Type 0 where
  pub slots : List (Option Waiting)
  pub rest : List Waiting
  pub one_each : slot + length slots ≡ slots_before conf.from conf.to (cell + length came)
  pub in_order : waiting ++ carried_from cell came ≡ flat_map option_to_list slots ++ rest
  pub given : left ≡ filled_from conf slot slots
  pub bounded : length rest ≤ conf.window

-- a packet that waits comes before those after it
carried-step : (cell : ℕ) (waiting : List Waiting) (row : Labelled) (rows : List Labelled)
    → waiting ++ carried_from cell (row ∷ rows) ≡ with_came cell row waiting ++ carried_from (cell + 1) rows
carried-step cell waiting row rows =
    let here : Waiting = record { cell = cell; row = row } in
    let more = carried_from (cell + 1) rows in
    elim (cases_Bool (is_null row)) [
      | inl yes_ ↦ ap (λ (b : Bool). waiting ++ (if b then more else here ∷ more)) yes_
          ∙ sym (ap (λ (b : Bool). (if b then waiting else waiting ++ here ∷ []) ++ more) yes_)
      | inr no_ ↦ ap (λ (b : Bool). waiting ++ (if b then more else here ∷ more)) no_
          ∙ (sym (append_assoc waiting (here ∷ []) more)
          ∙ sym (ap (λ (b : Bool). (if b then waiting else waiting ++ here ∷ []) ++ more) no_))
    ]

-- no further packet came
ends : (conf : RestuffConf) (cell : ℕ) (waiting : List Waiting) → length waiting ≤ conf.window
    → Filled conf cell (slots_before conf.from conf.to cell) waiting [] []
ends conf cell waiting le = record {
  slots = [];
  rest = waiting;
  one_each = let e : cell ≡ cell + 0 = omega arith in let h = ap (slots_before conf.from conf.to) e in omega (arith, h);
  in_order = append-nil waiting;
  given = refl;
  bounded = le;
}

-- a cell that is no slot
no-slot : (conf : RestuffConf) (cell : ℕ) (waiting : List Waiting) (row : Labelled) (came left : List Labelled)
    → slots_before conf.from conf.to (cell + 1) ≡ slots_before conf.from conf.to cell
    → Filled conf (cell + 1) (slots_before conf.from conf.to (cell + 1)) (with_came cell row waiting) came left
    → Filled conf cell (slots_before conf.from conf.to cell) waiting (row ∷ came) left
no-slot conf cell waiting row came left same after = record {
  slots = after.slots;
  rest = after.rest;
  one_each =
      let e : cell + 1 + length came ≡ cell + length (row ∷ came) = omega arith in
      ap (λ (n : ℕ). n + length after.slots) (sym same) ∙ (after.one_each ∙ ap (slots_before conf.from conf.to) e);
  in_order = carried-step cell waiting row came ∙ after.in_order;
  given = after.given ∙ ap (λ (n : ℕ). filled_from conf n after.slots) same;
  bounded = after.bounded;
}

-- a slot takes the first packet that waits
a-slot : (conf : RestuffConf) (cell : ℕ) (waiting : List Waiting) (row : Labelled) (came left : List Labelled)
    → slots_before conf.from conf.to (cell + 1) ≡ slots_before conf.from conf.to cell + 1
    → Filled conf (cell + 1) (slots_before conf.from conf.to (cell + 1)) (drop 1 (with_came cell row waiting)) came left
    → Filled conf cell (slots_before conf.from conf.to cell) waiting (row ∷ came)
    (filled conf (slots_before conf.from conf.to cell) (slice_get (with_came cell row waiting) 0) ∷ left)
a-slot conf cell waiting row came left next after =
    let slot = slots_before conf.from conf.to cell in
    let wait = with_came cell row waiting in
    let first = slice_get wait 0 in
    record {
      slots = first ∷ after.slots;
      rest = after.rest;
      one_each =
          let e : cell + 1 + length came ≡ cell + length (row ∷ came) = omega arith in
          let h : slots_before conf.from conf.to (cell + 1) + length after.slots ≡ slots_before conf.from conf.to (cell + length (row ∷ came)) = after.one_each ∙ ap (slots_before conf.from conf.to) e in
          let s : slot + length (first ∷ after.slots) ≡ slots_before conf.from conf.to (cell + 1) + length after.slots = omega (arith, next) in
          s ∙ h;
      in_order =
          carried-step cell waiting row came
          ∙ (ap (λ (w : List Waiting). w ++ carried_from (cell + 1) came) (first-others wait)
          ∙ (append_assoc (option_to_list first) (drop 1 wait) (carried_from (cell + 1) came)
          ∙ (ap (λ (w : List Waiting). option_to_list first ++ w) after.in_order
          ∙ sym (append_assoc (option_to_list first) (flat_map option_to_list after.slots) after.rest))));
      given = ap (λ (rows : List Labelled). filled conf slot first ∷ rows) (after.given ∙ ap (λ (n : ℕ). filled_from conf n after.slots) next);
      bounded = after.bounded;
    }

-- what is made of the cells after a history
abbrev made : RestuffConf → List Cell → List Cell → StageList
made conf history cells = apply_after (restuff_rule conf) history cells

-- the law after a history whose packets are these, where these packets wait
abbrev Law : RestuffConf → List Labelled → List Waiting → List Cell → StageList → Type 0
Law conf rows waiting cells list =
    Filled conf (length rows) (slots_before conf.from conf.to (length rows)) waiting
    (live_rows (take (length list.cells) cells)) (live_rows list.cells)

module _ (conf : RestuffConf) (valid : IsValidRestuff conf) where
  -- at one packet, given the law after it
  at-packet : (rows : List Labelled) (waiting : List Waiting) (packet : List ℕ) (labels : ℕ) (cells : List Cell) (rest : StageList)
      → length waiting ≤ conf.window
      → (length (left_after conf (length rows) (with_came (length rows) (labelled packet labels) waiting)) ≤ conf.window
      → Law conf (rows ++ labelled packet labels ∷ []) (left_after conf (length rows) (with_came (length rows) (labelled packet labels) waiting)) cells rest)
      → Law conf rows waiting (Live packet labels ∷ cells)
      (onto (outcome_of_live
      (if is_refused conf.window waiting (labelled packet labels) then refuses (Pid (pid_of packet))
      else outcome_of (put_in conf (length rows) (with_came (length rows) (labelled packet labels) waiting)))
      (labels_of labels (put_in conf (length rows) (with_came (length rows) (labelled packet labels) waiting)))) rest)
  at-packet rows waiting packet labels cells rest le after =
      let row = labelled packet labels in
      let cell = length rows in
      let wait = with_came cell row waiting in
      let put = put_in conf cell wait in
      let fill = filled conf (slots_before conf.from conf.to cell) (slice_get wait 0) in
      let count : length (rows ++ row ∷ []) ≡ cell + 1 = length-append rows (row ∷ []) in
      let refuse = refuses (Pid (pid_of packet)) in
      let some : 0 < conf.from = let least = valid.least in let lower = valid.lower in omega (arith, least, lower) in
      elim (cases_Bool (is_refused conf.window waiting row)) [
        | inl yes_ ↦ subst (λ (o : RuleOutcome). Law conf rows waiting (Live packet labels ∷ cells) (onto (outcome_of_live o (labels_of labels put)) rest))
            (sym (cond-true (is_refused conf.window waiting row) refuse (outcome_of put) yes_))
            (ends conf cell waiting le)
        | inr no_ ↦ subst (λ (o : RuleOutcome). Law conf rows waiting (Live packet labels ∷ cells) (onto (outcome_of_live o (labels_of labels put)) rest))
            (sym (cond-false (is_refused conf.window waiting row) refuse (outcome_of put) no_))
            (let room = has_room conf.window cell waiting row no_ le in
            elim (next-is conf.from conf.to cell some valid.lower) [
              | inl none_ ↦
                  let stays : left_after conf cell wait ≡ wait = cond-false (is_slot conf.from conf.to cell) (drop 1 wait) wait none_.0 in
                  let later = after (subst (λ (w : List Waiting). length w ≤ conf.window) (sym stays) room) in
                  let there : Filled conf (cell + 1) (slots_before conf.from conf.to (cell + 1)) wait (live_rows (take (length rest.cells) cells)) (live_rows rest.cells) =
                  subst (λ (n : ℕ). Filled conf n (slots_before conf.from conf.to n) wait (live_rows (take (length rest.cells) cells)) (live_rows rest.cells)) count
                  (subst (λ (w : List Waiting). Law conf (rows ++ row ∷ []) w cells rest) stays later) in
                  subst (λ (o : Option Labelled). Law conf rows waiting (Live packet labels ∷ cells) (onto (outcome_of_live (outcome_of o) (labels_of labels o)) rest))
                  (sym (cond-false (is_slot conf.from conf.to cell) (Some fill) None none_.0))
                  (no-slot conf cell waiting row (live_rows (take (length rest.cells) cells)) (live_rows rest.cells) none_.1 there)
              | inr one_ ↦
                  let taken : left_after conf cell wait ≡ drop 1 wait = cond-true (is_slot conf.from conf.to cell) (drop 1 wait) wait one_.0 in
                  let later = after (subst (λ (w : List Waiting). length w ≤ conf.window) (sym taken) (drop-few conf.window wait room)) in
                  let there : Filled conf (cell + 1) (slots_before conf.from conf.to (cell + 1)) (drop 1 wait) (live_rows (take (length rest.cells) cells)) (live_rows rest.cells) =
                  subst (λ (n : ℕ). Filled conf n (slots_before conf.from conf.to n) (drop 1 wait) (live_rows (take (length rest.cells) cells)) (live_rows rest.cells)) count
                  (subst (λ (w : List Waiting). Law conf (rows ++ row ∷ []) w cells rest) taken later) in
                  subst (λ (o : Option Labelled). Law conf rows waiting (Live packet labels ∷ cells) (onto (outcome_of_live (outcome_of o) (labels_of labels o)) rest))
                  (sym (cond-true (is_slot conf.from conf.to cell) (Some fill) None one_.0))
                  (a-slot conf cell waiting row (live_rows (take (length rest.cells) cells)) (live_rows rest.cells) one_.1 there)
            ])
      ]

  rows-behind : (history : List Cell) (cell : Cell) → live_rows (history ++ cell ∷ []) ≡ live_rows history ++ live_rows (cell ∷ [])
  rows-behind history cell = flat_map-append row_in history (cell ∷ [])

  after : (history cells : List Cell) → length (waits_after conf (live_rows history)) ≤ conf.window
      → Law conf (live_rows history) (waits_after conf (live_rows history)) cells (made conf history cells)
  after history [] le = ends conf (length (live_rows history)) (waits_after conf (live_rows history)) le
  after history (Dropped ∷ cells) le =
      let same : live_rows (history ++ Dropped ∷ []) ≡ live_rows history = rows-behind history Dropped ∙ append-nil (live_rows history) in
      let later = after (history ++ Dropped ∷ []) cells (subst (λ (rows : List Labelled). length (waits_after conf rows) ≤ conf.window) (sym same) le) in
      subst (λ (rows : List Labelled). Law conf rows (waits_after conf rows) cells (made conf (history ++ Dropped ∷ []) cells)) same later
  after history (Live packet labels ∷ cells) le =
      let rows = live_rows history in
      let row = labelled packet labels in
      let next : live_rows (history ++ Live packet labels ∷ []) ≡ rows ++ row ∷ [] = rows-behind history (Live packet labels) in
      let wait : waits_after conf (rows ++ row ∷ []) ≡ left_after conf (length rows) (with_came (length rows) row (waits_after conf rows)) = waits-more conf rows row in
      at-packet rows (waits_after conf rows) packet labels cells (made conf (history ++ Live packet labels ∷ []) cells) le (λ few.
      subst (λ (w : List Waiting). Law conf (rows ++ row ∷ []) w cells (made conf (history ++ Live packet labels ∷ []) cells)) wait
      (subst (λ (r : List Labelled). Law conf r (waits_after conf r) cells (made conf (history ++ Live packet labels ∷ []) cells)) next
      (after (history ++ Live packet labels ∷ []) cells (subst (λ (r : List Labelled). length (waits_after conf r) ≤ conf.window) (sym next)
      (subst (λ (w : List Waiting). length w ≤ conf.window) (sym wait) few)))))

pub is-restuffed : (conf : RestuffConf) (cells : List Cell) → IsValidRestuff conf
    → IsRestuffed conf (live_rows (take (length (apply (restuff_rule conf) cells).cells) cells)) (live_rows (apply (restuff_rule conf) cells).cells)
is-restuffed conf cells valid =
    let whole = after conf valid [] cells (omega arith) in
    let first : slots_before conf.from conf.to 0 ≡ 0 = omega arith in
    record {
      slots = whole.slots;
      waiting = whole.rest;
      one_each =
          let came = length (live_rows (take (length (apply (restuff_rule conf) cells).cells) cells)) in
          let h : slots_before conf.from conf.to 0 + length whole.slots ≡ slots_before conf.from conf.to (0 + came) = whole.one_each in
          let all : 0 + came ≡ came = omega arith in
          let none_ : length whole.slots ≡ slots_before conf.from conf.to 0 + length whole.slots = omega (arith, first) in
          none_ ∙ (h ∙ ap (slots_before conf.from conf.to) all);
      in_order = whole.in_order;
      given = whole.given ∙ ap (λ (n : ℕ). filled_from conf n whole.slots) first;
      bounded = whole.bounded;
    }
