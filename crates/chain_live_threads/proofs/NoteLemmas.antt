-- The stage of a plugin that is given its mark, or of which lines are taken away, between two of its turns.
use Rattle.std.proofs.Common.{◌≡◌, ℕ, suc, ◌+◌, ◌<◌, ◌≤◌, List, ◌++◌, length, take, Option, Bool, true, false, Result, is_ok, if◌then◌else◌, refl, ap, sym, ◌∙◌, subst, arith, length-append, length-take}
use Rattle.std.specs.declared.alloc.AllocError.{AllocError}
use Rattle.std.proofs.lemmas.List.{take-take}
use Rattle.cell_land.specs.declared.cell_window.Bases.{Bases}
use Rattle.atomic_table.specs.Seated.{TableId}
use Rattle.ts_packet.specs.declared.cell.Cell.{Cell}
use Rattle.chain_model.specs.Apply.{StageList}
use Rattle.chain_model.specs.PluginRule.{PluginRule}
use Rattle.chain_model.specs.StageLists.{rule_after}
use Rattle.chain_core.specs.declared.stage_end.StageEnd.{StageEnd}
use Rattle.chain_core.specs.Machine.{ChainState, Visit}
use Rattle.chain_core.specs.ChainRun.{ChainRun, state_after}
use Rattle.plugin_trait.specs.PlacedLines.{placed_between}
use Rattle.plugin_trait.specs.declared.line.Line.{Line}
use Rattle.stage_run.specs.Seeing.{Seeing}
use Rattle.stage_run.specs.declared.stage_part.StagePart.{StagePart}
use Rattle.stage_run.specs.PartLists.{PartLists, marked_by, lines_taken}
use Rattle.stage_run.specs.PartStands.{PartStands, kind_of, rule_of, a_plugin}
use Rattle.stage_run.specs.Noting.{AllowsNote, Noted}
use Rattle.chain_run.specs.OneStage.{SoFarUpTo, Doing, IsPlugin}
use Rattle.chain_run.specs.Runs.{RunStart, told_to}
use Rattle.chain_run.proofs.MarkLemmas.{valid-told}
use Rattle.chain_run.proofs.NumberLaws.{given-falls}
use Rattle.chain_tells.specs.Taking.{met_in}
use Rattle.chain_tells.proofs.MetLemmas.{written-is}
use Rattle.window_ring.specs.Seats.{seen_of}
use Rattle.chain_threads.specs.Standing.{StandsAt, IsOver, gave_by, written_by}
use Rattle.chain_threads.specs.RunLaws.{RunLaws}
use Rattle.chain_live_threads.specs.declared.live_stage.LiveStage.{LiveStage}
use Rattle.chain_live_threads.specs.Serving.{ServesBy, Serves}
use Rattle.chain_live_threads.specs.Marking.{IsPluginAt, GaveLines}

not-first : {A : Type 0} (k j : ℕ) → k ≡ suc j → 0 ≡ k → A
not-first k j is zero = absurd (omega arith)

module _ {S K P : Type 0} (see : Seeing S K P) (begun : RunStart S K) (told : ℕ → ℕ) (j : ℕ) (old new : StagePart S K P)
    (change : PartLists → PartLists) (Allows : PartLists → Type 0) (noted : Noted see old new change Allows) (lists : PartLists) (allows : Allows lists)
    (met_same : (change lists).met ≡ lists.met) (given_same : (change lists).given ≡ lists.given) (own : (change lists).from ≡ told j) where
  -- what it stands for, with the change
  doing-noted : (k : ℕ) → k ≡ suc j → (given : List Cell) (ended : Option StageEnd) (low taken : ℕ) (gave : ℕ → List Cell) (Gives : StageList → Type 0)
      → (change lists).mark ≤ low → j < begun.plan.plugins
      → Doing see begun old k lists given ended low taken gave Gives → Doing see (told_to begun told) new k (change lists) given ended low taken gave Gives
  doing-noted k is given ended low taken gave Gives few lt d = record {
    stands_for = noted.stands lists ended allows d.stands_for;
    given_is = given_same ∙ d.given_is;
    mark = few;
    memory = λ e. noted.memory begun.plan.buffer (d.memory e);
    input = λ e. not-first k j is e;
    plugin = λ i e less. let p = d.plugin i e less in let same : i ≡ j = omega (arith, e, is) in
        record { kind = noted.kind; rule_is = noted.same_rule ∙ p.rule_is; room_is = noted.same_preallocated ∙ p.room_is; met = met_same ∙ p.met; since = own ∙ sym (ap told same) };
    output = λ e. absurd (omega (arith, e, is, lt));
  }

  module _ (base : Bases) (table : TableId) (stage : LiveStage S K P) (number : stage.seat.stage ≡ suc j) (among : j < begun.plan.plugins) (is_old : stage.part ≡ old)
      (few : (change lists).mark ≤ written_by see begun (seen_of stage.seat)) (serves : ServesBy see begun base table lists stage) where
    abbrev changed : LiveStage S K P
    changed = record { seat = stage.seat; part = new; done = stage.done; word = stage.word; over = stage.over; written = stage.written }

    goes : (st : StandsAt see begun base table stage.seat stage.part stage.done stage.word) → st.standing.lists ≡ lists
        → (st' : StandsAt see (told_to begun told) base table stage.seat new stage.done stage.word) × (st'.standing.lists ≡ change lists)
    goes st same = (
      record {
        run = valid-told see begun told st.run;
        words = st.words;
        slots = st.slots;
        is_stage = st.is_stage;
        seat_is = st.seat_is;
        standing = record {
          lists = change lists;
          done_within = st.standing.done_within;
          allowed = st.standing.allowed;
          doing = doing-noted stage.seat.stage number (gave_by see begun (seen_of stage.seat) stage.seat.stage ++ take stage.done stage.seat.hand.cells) stage.word.ended
              (written_by see begun (seen_of stage.seat)) ((state_after begun.plan (seen_of stage.seat)).stages stage.seat.stage).taken (gave_by see begun (seen_of stage.seat))
              (SoFarUpTo begun.plan begun.rules (seen_of stage.seat)) few among
              (subst (λ (p : StagePart S K P). Doing see begun p stage.seat.stage lists (gave_by see begun (seen_of stage.seat) stage.seat.stage ++ take stage.done stage.seat.hand.cells) stage.word.ended
              (written_by see begun (seen_of stage.seat)) ((state_after begun.plan (seen_of stage.seat)).stages stage.seat.stage).taken (gave_by see begun (seen_of stage.seat))
              (SoFarUpTo begun.plan begun.rules (seen_of stage.seat))) is_old
              (subst (λ (l : PartLists). Doing see begun stage.part stage.seat.stage l (gave_by see begun (seen_of stage.seat) stage.seat.stage ++ take stage.done stage.seat.hand.cells) stage.word.ended
              (written_by see begun (seen_of stage.seat)) ((state_after begun.plan (seen_of stage.seat)).stages stage.seat.stage).taken (gave_by see begun (seen_of stage.seat))
              (SoFarUpTo begun.plan begun.rules (seen_of stage.seat))) same st.standing.doing));
          kept = λ input may. st.standing.kept input (λ e. not-first stage.seat.stage j number e);
          keeps = λ input may. st.standing.keeps input (λ e. not-first stage.seat.stage j number e);
          content = st.standing.content;
        };
      },
      refl,
    )

    ends : (is : IsOver see begun base table stage.seat stage.part) → is.over.lists ≡ lists
        → (is' : IsOver see (told_to begun told) base table stage.seat new) × (is'.over.lists ≡ change lists)
    ends is same = (
      record {
        run = valid-told see begun told is.run;
        is_stage = is.is_stage;
        seat_is = is.seat_is;
        over = record {
          lists = change lists;
          ended = is.over.ended;
          doing = doing-noted stage.seat.stage number (gave_by see begun (seen_of stage.seat) stage.seat.stage) ((state_after begun.plan (seen_of stage.seat)).stages stage.seat.stage).ended
              (written_by see begun (seen_of stage.seat)) ((state_after begun.plan (seen_of stage.seat)).stages stage.seat.stage).taken (gave_by see begun (seen_of stage.seat))
              (SoFarUpTo begun.plan begun.rules (seen_of stage.seat)) few among
              (subst (λ (p : StagePart S K P). Doing see begun p stage.seat.stage lists (gave_by see begun (seen_of stage.seat) stage.seat.stage) ((state_after begun.plan (seen_of stage.seat)).stages stage.seat.stage).ended
              (written_by see begun (seen_of stage.seat)) ((state_after begun.plan (seen_of stage.seat)).stages stage.seat.stage).taken (gave_by see begun (seen_of stage.seat))
              (SoFarUpTo begun.plan begun.rules (seen_of stage.seat))) is_old
              (subst (λ (l : PartLists). Doing see begun stage.part stage.seat.stage l (gave_by see begun (seen_of stage.seat) stage.seat.stage) ((state_after begun.plan (seen_of stage.seat)).stages stage.seat.stage).ended
              (written_by see begun (seen_of stage.seat)) ((state_after begun.plan (seen_of stage.seat)).stages stage.seat.stage).taken (gave_by see begun (seen_of stage.seat))
              (SoFarUpTo begun.plan begun.rules (seen_of stage.seat))) same is.over.doing));
          kept = λ input may. is.over.kept input (λ e. not-first stage.seat.stage j number e);
        };
      },
      refl,
    )

    pub serves-changed : ServesBy see (told_to begun told) base table (change lists) changed
    serves-changed = record {
      goes_on = λ on. let g = serves.goes_on on in goes g.0 g.1;
      has_ended = λ over. let e = serves.has_ended over in ends e.0 e.1;
      knows = serves.knows;
    }

-- ---- what a plugin's stage may do

module _ {S K P : Type 0} (see : Seeing S K P) (laws : RunLaws see) (begun : RunStart S K) (base : Bases) (table : TableId) (j : ℕ) (stage : LiveStage S K P)
    (at : IsPluginAt see begun base table j stage) (lists : PartLists) (serves : ServesBy see begun base table lists stage) where
  abbrev seen : List Visit
  seen = seen_of stage.seat

  abbrev state : ChainState
  state = state_after begun.plan seen

  -- what the stage stands for, whether it goes on or has ended
  pub record Stood : Type 0 where
    pub more : List Cell
    pub ended : Option StageEnd
    pub holds : PartStands see stage.part lists ended
    pub mark : lists.mark ≤ written_by see begun seen
    pub plugin : IsPlugin see begun stage.part j lists (gave_by see begun seen (suc j) ++ more) (gave_by see begun seen j)
    pub run : ChainRun begun.plan seen
    pub valid : Rattle.chain_run.specs.Ran.IsValidRun begun

  stood-by : (over : Bool) → stage.over ≡ over → Stood
  stood-by false is =
      let g = serves.goes_on is in
      let d = subst (λ (l : PartLists). Doing see begun stage.part stage.seat.stage l (gave_by see begun seen stage.seat.stage ++ take stage.done stage.seat.hand.cells) stage.word.ended
      (written_by see begun seen) (state.stages stage.seat.stage).taken (gave_by see begun seen) (SoFarUpTo begun.plan begun.rules seen)) g.1 g.0.standing.doing in
      record {
        more = take stage.done stage.seat.hand.cells;
        ended = stage.word.ended;
        holds = d.stands_for;
        mark = d.mark;
        plugin = subst (λ (k : ℕ). IsPlugin see begun stage.part j lists (gave_by see begun seen k ++ take stage.done stage.seat.hand.cells) (gave_by see begun seen j)) at.number (d.plugin j (sym at.number) at.among);
        run = g.0.seat_is.run;
        valid = g.0.run;
      }
  stood-by true is =
      let g = serves.has_ended is in
      let d = subst (λ (l : PartLists). Doing see begun stage.part stage.seat.stage l (gave_by see begun seen stage.seat.stage) (state.stages stage.seat.stage).ended
      (written_by see begun seen) (state.stages stage.seat.stage).taken (gave_by see begun seen) (SoFarUpTo begun.plan begun.rules seen)) g.1 g.0.over.doing in
      record {
        more = Rattle.std.specs.Prelude.[];
        ended = (state.stages stage.seat.stage).ended;
        holds = d.stands_for;
        mark = d.mark;
        plugin = subst (λ (l : List Cell). IsPlugin see begun stage.part j lists l (gave_by see begun seen j)) (sym (Rattle.std.proofs.Common.append-nil (gave_by see begun seen (suc j))))
            (subst (λ (k : ℕ). IsPlugin see begun stage.part j lists (gave_by see begun seen k) (gave_by see begun seen j)) at.number (d.plugin j (sym at.number) at.among));
        run = g.0.seat_is.run;
        valid = g.0.run;
      }

  pub stood : Stood
  stood = stood-by stage.over refl

  abbrev out : ℕ
  out = length (state.stages (suc begun.plan.plugins)).given

  low-is : written_by see begun seen ≡ out
  low-is = written-is laws.machine begun.plan stood.valid.valid.users seen stood.run

  falls-own : out ≤ length (state.stages (suc j)).given
  falls-own = given-falls laws.machine begun.plan stood.valid.valid.users seen stood.run (suc begun.plan.plugins) (suc j) (let a = at.among in omega arith)

  falls-before : out ≤ length (state.stages j).given
  falls-before = given-falls laws.machine begun.plan stood.valid.valid.users seen stood.run (suc begun.plan.plugins) j (let a = at.among in omega arith)

  met-long : written_by see begun seen ≤ length lists.met
  met-long =
      let s = stood in
      let a : length lists.met ≡ Rattle.std.specs.Prelude.min (length ((state.stages (suc j)).given ++ s.more)) (length (state.stages j).given) =
      ap (λ (l : List Cell). length l) s.plugin.met ∙ length-take (length ((state.stages (suc j)).given ++ s.more)) (state.stages j).given in
      let b = length-append (state.stages (suc j)).given s.more in
      let c = low-is in let d = falls-own in let e = falls-before in
      omega arith

  -- the first cells that it met, by what its stage gave
  pub met-first-by : take stage.written lists.met ≡ take stage.written (met_in state j)
  met-first-by =
      let s = stood in
      let k = serves.knows in let c = low-is in let d = falls-own in
      ap (take stage.written) s.plugin.met
      ∙ (take-take stage.written (length ((state.stages (suc j)).given ++ s.more)) (state.stages j).given (let b = length-append (state.stages (suc j)).given s.more in omega arith)
      ∙ sym (take-take stage.written (length (state.stages (suc j)).given) (state.stages j).given (omega arith)))

  pub kind-is : kind_of stage.part ≡ a_plugin
  kind-is = stood.plugin.kind

  pub allows-note : AllowsNote (PartStands see stage.part) stage.written
  allows-note =
      let s = stood in let k = serves.knows in let m = s.mark in let n = met-long in
      record { lists = lists; told = s.ended; holds = s.holds; not_below = omega arith; met = omega arith }

  -- its mark was given
  module _ (new : StagePart S K P) (answer : Result Unit AllocError)
      (noted : Noted see stage.part new (λ l. marked_by l stage.written answer) (λ l. (l.mark ≤ stage.written) × (stage.written ≤ length l.met))) where
    abbrev marked : LiveStage S K P
    marked = record { seat = stage.seat; part = new; done = stage.done; word = stage.word; over = stage.over; written = stage.written }

    allowed : (lists.mark ≤ stage.written) × (stage.written ≤ length lists.met)
    unfolding allows-note
    allowed = (allows-note.not_below, allows-note.met)

    few : (ok : Bool) → (if ok then stage.written else lists.mark) ≤ written_by see begun seen
    few true = let k = serves.knows in omega arith
    few false = stood.mark

    pub after-note : ServesBy see begun base table (marked_by lists stage.written answer) marked
    after-note = serves-changed see begun begun.told j stage.part new (λ l. marked_by l stage.written answer) (λ l. (l.mark ≤ stage.written) × (stage.written ≤ length l.met)) noted lists allowed
        refl refl stood.plugin.since base table stage at.number at.among refl (few (is_ok answer)) serves

  -- its lines were taken away
  module _ (new : StagePart S K P) (noted : Noted see stage.part new lines_taken (λ l. Unit {0})) (mark_is : lists.mark ≡ stage.written) where
    abbrev taken : LiveStage S K P
    taken = record { seat = stage.seat; part = new; done = stage.done; word = stage.word; over = stage.over; written = stage.written }

    pub after-taken : (told : ℕ → ℕ) → told j ≡ stage.written → Serves see (told_to begun told) base table taken
    after-taken told is = (
      lines_taken lists,
      serves-changed see begun told j stage.part new lines_taken (λ l. Unit {0}) noted lists tt refl refl (mark_is ∙ sym is)
          base table stage at.number at.among refl stood.mark serves,
    )

    pub gave-lines : (lines : List Line)
        → ((l : PartLists) (told : Option StageEnd) → PartStands see stage.part l told → lines ≡ placed_between (rule_of see stage.part) l.met l.from l.mark)
        → GaveLines see begun base table j taken lines
    gave-lines lines given =
        let s = stood in
        record {
          history = lists.met;
          first = met-first-by;
          lines_are = given lists s.ended s.holds
              ∙ (ap (λ (r : PluginRule). placed_between r lists.met lists.from lists.mark) s.plugin.rule_is
              ∙ (ap (λ (n : ℕ). placed_between (rule_after begun.rules j) lists.met n lists.mark) s.plugin.since
              ∙ ap (λ (n : ℕ). placed_between (rule_after begun.rules j) lists.met (begun.told j) n) mark_is));
        }
