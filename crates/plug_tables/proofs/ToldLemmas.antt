-- Lines of tables, one packet after another, and those below a position.
use Rattle.std.proofs.Common.{◌≡◌, ℕ, suc, ◌+◌, ◌-◌, ◌<◌, ◌≤◌, List, [], ◌∷◌, ◌++◌, length, take, drop, map, filter, ap, sym, subst, ◌∙◌, inl, inr, refl, Bool, true, false, nat_lt, if◌then◌else◌, append_assoc, append-nil, arith, length-append, get_or}
use Rattle.std.specs.List.{take_while}
use Rattle.std.proofs.Math.Seq.{take-nil}
use Rattle.std.proofs.lemmas.Bool.{cases_lt}
use Rattle.std.proofs.lemmas.Bool.Decides.{nat_tests}
use Rattle.std.proofs.lemmas.Grind.{flat_map-append}
use Rattle.std.proofs.lemmas.List.{append_cancel_left, drop-append-le, drop-take, length-take-le, map-append, take-append-drop, take-append-le, take_all, take_more}
use Rattle.std.proofs.lemmas.List.Elements.{filter-append}
use Rattle.std.proofs.lemmas.List.Sums.{take_while-cons}
use Rattle.ts_packet.specs.declared.cell.Cell.{Cell}
use Rattle.ts_packet.specs.Cells.{Live, Dropped, live_packets, packet_in}
use Rattle.ts_packet.specs.Header.{pid_of}
use Rattle.chain_model.specs.PluginRule.{PluginRule}
use Rattle.plugin_trait.specs.declared.line.Line.{Line}
use Rattle.plugin_trait.specs.PlacedLines.{placed_after, placed_at, placed_between}
use Rattle.plugin_trait.proofs.Giving.{joined, placed_after-append}
use Rattle.plug_tables.specs.TablesRule.{is_told, rule_with, table_text, table_texts}
use Rattle.plug_tables.specs.TablesState.{TellsTables}
use Rattle.plug_tables.specs.WatchedPackets.{Choice, tables_with}
use Rattle.plug_tables.specs.TableReaderState.{HasMet, choice_in}
use Rattle.plug_tables.specs.declared.table_reader.TableReader.{TableReader}

not_below : (m n : ℕ) → n ≤ m → nat_lt m n ≡ false
not_below m n h = grind (arith, nat_tests)

is_below : (m n : ℕ) → m < n → nat_lt m n ≡ true
is_below m n h = grind (arith, nat_tests)

placed_at-append : (at : ℕ) (xs ys : List (List ℕ)) → placed_at at (xs ++ ys) ≡ placed_at at xs ++ placed_at at ys
placed_at-append at xs ys = map-append (λ (text : List ℕ). let line : Line = record { at = at; text = text } in line) xs ys

-- the lines with those of one table more
pub texts_more : (tids : List (ℕ × ℕ)) (at pid i : ℕ) (tables : List (List (List ℕ))) (table : List (List ℕ)) (before told told_new : List Line) → i < length tables
    → table ≡ get_or tables i table
    → told ≡ before ++ placed_at at (table_texts tids at pid (take i tables))
    → told_new ≡ told ++ placed_at at (table_texts tids at pid (table ∷ []))
    → told_new ≡ before ++ placed_at at (table_texts tids at pid (take (i + 1) tables))
texts_more tids at pid i tables table before told told_new lt is so_far pushed =
    let f : List (List (List ℕ)) → List (List ℕ) = table_texts tids at pid in
    pushed
    ∙ (ap (λ (ls : List Line). ls ++ placed_at at (f (table ∷ []))) so_far
    ∙ (append_assoc before (placed_at at (f (take i tables))) (placed_at at (f (table ∷ [])))
    ∙ ap (λ (ls : List Line). before ++ ls)
    (sym (placed_at-append at (f (take i tables)) (f (table ∷ [])))
    ∙ ap (placed_at at)
    (sym (map-append (table_text at pid) (filter (is_told tids) (take i tables)) (filter (is_told tids) (table ∷ [])))
    ∙ ap (map (table_text at pid))
    (sym (filter-append (is_told tids) (take i tables) (table ∷ []))
    ∙ ap (filter (is_told tids))
    (ap (λ (t : List (List ℕ)). take i tables ++ t ∷ []) is ∙ sym (take_more tables i table lt)))))))

-- the lines from a mark on
from_mark : (rule : PluginRule) (history : List Cell) (mark : ℕ) → placed_between rule history mark (length history) ≡ placed_after rule (take mark history) (drop mark history)
from_mark rule history mark = ap (λ (cells : List Cell). placed_after rule (take mark history) (drop mark cells)) (take_all (length history) history (omega arith))

-- those of one cell more come last
one_more : (rule : PluginRule) (history : List Cell) (cell : Cell) (mark : ℕ) → mark ≤ length history
    → placed_between rule (history ++ cell ∷ []) mark (length (history ++ cell ∷ [])) ≡ placed_between rule history mark (length history) ++ placed_after rule history (cell ∷ [])
one_more rule history cell mark within =
    from_mark rule (history ++ cell ∷ []) mark
    ∙ (ap (λ (h : List Cell). placed_after rule h (drop mark (history ++ cell ∷ []))) (take-append-le mark history (cell ∷ []) within)
    ∙ (ap (placed_after rule (take mark history)) (drop-append-le mark history (cell ∷ []) within)
    ∙ (placed_after-append rule (take mark history) (drop mark history) (cell ∷ [])
    ∙ (ap (λ (h : List Cell). placed_after rule (take mark history) (drop mark history) ++ placed_after rule h (cell ∷ [])) (take-append-drop mark history)
    ∙ ap (λ (ls : List Line). ls ++ placed_after rule history (cell ∷ [])) (sym (from_mark rule history mark))))))

live-live : (history : List Cell) (packet : List ℕ) (labels : ℕ) → live_packets (history ++ Live packet labels ∷ []) ≡ live_packets history ++ packet ∷ []
live-live history packet labels = flat_map-append packet_in history (Live packet labels ∷ [])

live-dropped : (history : List Cell) → live_packets (history ++ Dropped ∷ []) ≡ live_packets history
live-dropped history = flat_map-append packet_in history (Dropped ∷ []) ∙ append-nil (live_packets history)

-- a dropped cell
pub tells_dropped : (reader : TableReader) (tids : List (ℕ × ℕ)) (told : List Line) (history : List Cell) (mark : ℕ) → TellsTables reader tids told history mark
    → TellsTables reader tids told (history ++ Dropped ∷ []) mark
tells_dropped reader tids told history mark w = record {
  met = subst (HasMet reader) (sym (live-dropped history)) w.met;
  lines = w.lines ∙ sym (one_more (rule_with (choice_in reader) tids) history Dropped mark w.marked ∙ append-nil (placed_between (rule_with (choice_in reader) tids) history mark (length history)));
  marked = omega (arith, w.marked, length-append history (Dropped ∷ []));
}

-- a packet
pub tells_live : (reader reader_new : TableReader) (tids : List (ℕ × ℕ)) (told told_new : List Line) (history : List Cell) (mark : ℕ) (packet : List ℕ) (labels at pid : ℕ) (tables : List (List (List ℕ)))
    → TellsTables reader tids told history mark → HasMet reader_new (live_packets history ++ packet ∷ []) → choice_in reader_new ≡ choice_in reader
    → at ≡ length history → pid ≡ pid_of packet → tables ≡ tables_with (choice_in reader) (live_packets history) packet
    → told_new ≡ told ++ placed_at at (table_texts tids at pid tables)
    → TellsTables reader_new tids told_new (history ++ Live packet labels ∷ []) mark
tells_live reader reader_new tids told told_new history mark packet labels at pid tables w met same at_is pid_is tables_are pushed =
    let rule : PluginRule = rule_with (choice_in reader) tids in
    let before : List Line = placed_between rule history mark (length history) in
    record {
      met = subst (HasMet reader_new) (sym (live-live history packet labels)) met;
      lines =
          pushed
          ∙ (ap (λ (ls : List Line). ls ++ placed_at at (table_texts tids at pid tables)) w.lines
          ∙ (ap (λ (n : ℕ). before ++ placed_at n (table_texts tids n pid tables)) at_is
          ∙ (ap (λ (n : ℕ). before ++ placed_at (length history) (table_texts tids (length history) n tables)) pid_is
          ∙ (ap (λ (ts : List (List (List ℕ))). before ++ placed_at (length history) (table_texts tids (length history) (pid_of packet) ts)) tables_are
          ∙ (ap (λ (ls : List Line). before ++ ls) (sym (append-nil (placed_at (length history) (rule.lines_of history packet labels))))
          ∙ (sym (one_more rule history (Live packet labels) mark w.marked)
          ∙ ap (λ (c : Choice). placed_between (rule_with c tids) (history ++ Live packet labels ∷ []) mark (length (history ++ Live packet labels ∷ []))) (sym same)))))));
      marked = omega (arith, w.marked, length-append history (Live packet labels ∷ []));
    }

-- lines at a position that is below another are in front
front_below : (cut at : ℕ) (texts : List (List ℕ)) (rest : List Line) → at < cut
    → take_while (λ (l : Line). nat_lt l.at cut) (placed_at at texts ++ rest) ≡ placed_at at texts ++ take_while (λ (l : Line). nat_lt l.at cut) rest
front_below cut at [] rest lt = refl
front_below cut at (text ∷ texts) rest lt =
    let line : Line = record { at = at; text = text } in
    let test : Line → Bool = λ l. nat_lt l.at cut in
    take_while-cons test line (placed_at at texts ++ rest)
    ∙ (ap (λ (b : Bool). if b then line ∷ take_while test (placed_at at texts ++ rest) else []) (is_below at cut lt)
    ∙ ap (λ (ls : List Line). line ∷ ls) (front_below cut at texts rest lt))

front_late : (cut at : ℕ) (texts : List (List ℕ)) (rest : List Line) → cut ≤ at → take_while (λ (l : Line). nat_lt l.at cut) rest ≡ []
    → take_while (λ (l : Line). nat_lt l.at cut) (placed_at at texts ++ rest) ≡ []
front_late cut at [] rest le none = none
front_late cut at (text ∷ texts) rest le none =
    let line : Line = record { at = at; text = text } in
    let test : Line → Bool = λ l. nat_lt l.at cut in
    take_while-cons test line (placed_at at texts ++ rest)
    ∙ ap (λ (b : Bool). if b then line ∷ take_while test (placed_at at texts ++ rest) else []) (not_below at cut le)

-- after a history that is long enough there is none
placed_late : (rule : PluginRule) (cut : ℕ) (history cells : List Cell) → cut ≤ length history → take_while (λ (l : Line). nat_lt l.at cut) (placed_after rule history cells) ≡ []
placed_late rule cut history [] le = refl
placed_late rule cut history (Live packet labels ∷ cells) le =
    front_late cut (length history) (rule.lines_of history packet labels) (placed_after rule (history ++ Live packet labels ∷ []) cells) le
    (placed_late rule cut (history ++ Live packet labels ∷ []) cells (omega (arith, length-append history (Live packet labels ∷ []))))
placed_late rule cut history (Dropped ∷ cells) le =
    placed_late rule cut (history ++ Dropped ∷ []) cells (omega (arith, length-append history (Dropped ∷ [])))

late_take : (rule : PluginRule) (cut : ℕ) (history cells : List Cell) → cut ≤ length history
    → take_while (λ (l : Line). nat_lt l.at cut) (placed_after rule history cells) ≡ placed_after rule history (take (cut - length history) cells)
late_take rule cut history cells late =
    placed_late rule cut history cells late
    ∙ ap (λ (k : ℕ). placed_after rule history (take k cells)) (let none : 0 ≡ cut - length history = omega arith in none)

-- the lines below a position are those of the cells before it
below_placed : (rule : PluginRule) (cut : ℕ) (history cells : List Cell)
    → take_while (λ (l : Line). nat_lt l.at cut) (placed_after rule history cells) ≡ placed_after rule history (take (cut - length history) cells)
below_placed rule cut history [] = ap (placed_after rule history) (sym (take-nil (cut - length history)))
below_placed rule cut history (Live packet labels ∷ cells) =
    elim (cases_lt (length history) cut) [
      | inl below ↦
          let next = history ++ Live packet labels ∷ [] in
          let more : cut - length history ≡ suc (cut - length next) = omega (arith, length-append history (Live packet labels ∷ [])) in
          front_below cut (length history) (rule.lines_of history packet labels) (placed_after rule next cells) below
          ∙ (ap (λ (ls : List Line). placed_at (length history) (rule.lines_of history packet labels) ++ ls) (below_placed rule cut next cells)
          ∙ ap (λ (k : ℕ). placed_after rule history (take k (Live packet labels ∷ cells))) (sym more))
      | inr late ↦ late_take rule cut history (Live packet labels ∷ cells) late
    ]
below_placed rule cut history (Dropped ∷ cells) =
    elim (cases_lt (length history) cut) [
      | inl below ↦
          let next = history ++ Dropped ∷ [] in
          let more : cut - length history ≡ suc (cut - length next) = omega (arith, length-append history (Dropped ∷ [])) in
          below_placed rule cut next cells
          ∙ ap (λ (k : ℕ). placed_after rule history (take k (Dropped ∷ cells))) (sym more)
      | inr late ↦ late_take rule cut history (Dropped ∷ cells) late
    ]

-- of the lines from a mark on, those below a later mark are those between the two
pub below_is : (rule : PluginRule) (told : List Line) (history : List Cell) (mark written : ℕ) → told ≡ placed_between rule history mark (length history) → mark ≤ written → written ≤ length history
    → take_while (λ (l : Line). nat_lt l.at written) told ≡ placed_between rule history mark written
below_is rule told history mark written is le within =
    let far : length (take mark history) ≡ mark = length-take-le mark history (omega arith) in
    let more : mark + (written - mark) ≡ written = omega arith in
    ap (take_while (λ (l : Line). nat_lt l.at written)) (is ∙ from_mark rule history mark)
    ∙ (below_placed rule written (take mark history) (drop mark history)
    ∙ ap (placed_after rule (take mark history))
    (ap (λ (n : ℕ). take (written - n) (drop mark history)) far
    ∙ (sym (drop-take mark (written - mark) history)
    ∙ ap (λ (n : ℕ). drop mark (take n history)) more)))

-- after those were taken off, the rest are the lines from the later mark on
pub gives : (reader : TableReader) (tids : List (ℕ × ℕ)) (told told_new : List Line) (history : List Cell) (mark written : ℕ) → TellsTables reader tids told history mark → mark ≤ written → written ≤ length history
    → take_while (λ (l : Line). nat_lt l.at written) told ++ told_new ≡ told → TellsTables reader tids told_new history written
gives reader tids told told_new history mark written w le within left =
    let rule : PluginRule = rule_with (choice_in reader) tids in
    let given : List Line = placed_between rule history mark written in
    record {
      met = w.met;
      lines = append_cancel_left given told_new (placed_between rule history written (length history))
          (ap (λ (ls : List Line). ls ++ told_new) (sym (below_is rule told history mark written w.lines le within))
          ∙ (left ∙ (w.lines ∙ sym (joined rule history mark written (length history) le within))));
      marked = within;
    }

-- one line below the position is taken off
pub one_below : (cut : ℕ) (taken rest : List Line) (line : Line) → taken ≡ line ∷ rest → line.at < cut
    → take_while (λ (l : Line). nat_lt l.at cut) taken ≡ line ∷ take_while (λ (l : Line). nat_lt l.at cut) rest
one_below cut taken rest line is lt =
    let test : Line → Bool = λ l. nat_lt l.at cut in
    ap (take_while test) is
    ∙ (take_while-cons test line rest
    ∙ ap (λ (b : Bool). if b then line ∷ take_while test rest else []) (is_below line.at cut lt))

-- lines moved from the front of some to the end of others, one after another
pub record Moved (cut : ℕ) (told_old lines_old told lines : List Line) : Type 0 where
  pub moved : List Line
  pub split : told_old ≡ moved ++ told
  pub below : take_while (λ (l : Line). nat_lt l.at cut) told_old ≡ moved ++ take_while (λ (l : Line). nat_lt l.at cut) told
  pub pushed : lines ≡ lines_old ++ moved

-- one more
pub one_moved : (cut : ℕ) (told_old lines_old told lines told_new lines_new : List Line) (line : Line) → Moved cut told_old lines_old told lines → told ≡ line ∷ told_new → line.at < cut → lines_new ≡ lines ++ line ∷ []
    → Moved cut told_old lines_old told_new lines_new
one_moved cut told_old lines_old told lines told_new lines_new line so_far is lt pushed = record {
  moved = so_far.moved ++ line ∷ [];
  split = so_far.split ∙ (ap (λ (ls : List Line). so_far.moved ++ ls) is ∙ sym (append_assoc so_far.moved (line ∷ []) told_new));
  below = so_far.below
      ∙ (ap (λ (ls : List Line). so_far.moved ++ ls) (one_below cut told told_new line is lt)
      ∙ sym (append_assoc so_far.moved (line ∷ []) (take_while (λ (l : Line). nat_lt l.at cut) told_new)));
  pushed = pushed ∙ (ap (λ (ls : List Line). ls ++ line ∷ []) so_far.pushed ∙ append_assoc lines_old so_far.moved (line ∷ []));
}
