-- A seat whose first visit reports that its stage stops.
use Rattle.std.proofs.Common.{◌≡◌, ℕ, suc, ◌+◌, ◌≤◌, List, [], ◌∷◌, ◌++◌, length, take, None, Some, sym, refl, ap, ◌∙◌, subst, arith}
use Rattle.std.specs.Prelude.{IsSome}
use Rattle.atomic_table.specs.Seated.{TableId}
use Rattle.chain_core.specs.declared.news.News.{News}
use Rattle.chain_core.specs.declared.stage_word.StageWord.{StageWord}
use Rattle.chain_core.specs.declared.stage_end.StageEnd.TheVariants.{Stop, Followed}
use Rattle.chain_core.specs.CoreNumbers.{IsValidPlan}
use Rattle.chain_core.specs.Machine.{Visit, ChainState, start, visited, Allowed}
use Rattle.chain_core.specs.ChainRun.{ChainRun, state_after}
use Rattle.chain_core.specs.Laws.{ChangesOneStage}
use Rattle.chain_core.specs.declared.core_plan.CorePlan.{CorePlan}
use Rattle.window_ring.specs.declared.view.Key.{Key}
use Rattle.window_ring.specs.declared.stage_seat.StageSeat.{StageSeat}
use Rattle.window_ring.specs.Views.{at_rest, land_of}
use Rattle.window_ring.specs.Visits.{IsHandOf, giving}
use Rattle.window_ring.specs.Seats.{seen_in, seen_of, IsSeat, IsAt, Went, visit_from}
use Rattle.window_ring.specs.SeatLaws.{SeatLaws}
use Rattle.window_ring.specs.Closing.{IsDone, HasEnded}
use Rattle.std.proofs.Common.{ℕ, zero, ◌<◌, Option, true, inl, inr, slice_index_or}
use Rattle.std.specs.Vec.{with_items}
use Rattle.ts_outside.specs.Source.{SourceView}
use Rattle.chain_model.specs.Stuffed as model
use Rattle.chain_model.specs.declared.input_end.InputEnd.TheVariants as end
use Rattle.chain_core.specs.declared.stage_end.StageEnd.{StageEnd}
use Rattle.chain_core.specs.declared.stage_end.StageEnd.TheVariants as by
use Rattle.stage_run.specs.Seeing.{Seeing}
use Rattle.stage_run.specs.Parts.{LeavesSource}
use Rattle.stage_run.specs.PartLists.{PartLists}
use Rattle.stage_run.specs.PartStands.{PartStands, kind_of, stream_kind, stuffing_in, an_input, a_stream}
use Rattle.stage_run.specs.declared.output_part.OutputPart.TheVariants as output
use Rattle.window_ring.specs.declared.ring.Ring.{Ring}
use Rattle.window_ring.specs.Seats.{key_of, table_of}
use Rattle.window_ring.specs.Closing.{IsWhole}
use Rattle.chain_threads.specs.declared.stage.Stage.{Stage}
use Rattle.chain_threads.specs.Turning.{Ends}
use Rattle.chain_threads.specs.Driving.{Carried, HaveEnded}
use Rattle.chain_plays.specs.declared.ahead.AheadPlay.{AheadPlay}
use Rattle.chain_plays.specs.Plays.{began, IsRingOf, IsAhead}
use Rattle.chain_plays.specs.Abandoned.{WasAbandoned}
use Rattle.chain_plays.specs.Unvisited.{IsUnvisited}
use Rattle.chain_plays.proofs.PlayLemmas.{ahead-one, with_whole, key}

abbrev pub stops_word : StageWord
stops_word = record { agreed = None; ended = Some Stop }

unvisited : (plan : CorePlan) → state_after plan [] ≡ start
unfolding state_after
unvisited plan = refl

module _ (key : Key) (table : TableId) (seat : StageSeat) (u : IsUnvisited key table seat.stage seat) where
  pub seen : seen_of seat ≡ []
  seen = ap (λ me. seen_in me.0.held) u.rests

  state : state_after key.plan (seen_of seat) ≡ start
  state = ap (state_after key.plan) seen ∙ unvisited key.plan

  pub is_seat : IsSeat key table seat
  is_seat = record {
    of_table = u.of_table;
    rests = subst (λ b. seat.seat.me ≡ (at_rest key seat.stage (seen_of seat) b, [])) (sym (ap (λ me. me.0.busy) u.rests))
        (subst (λ l. seat.seat.me ≡ (at_rest key seat.stage l u.busy, [])) (sym seen) u.rests);
    run = subst (ChainRun key.plan) (sym seen) tt;
    hand_is = subst (λ (s : ChainState). IsHandOf s seat.stage (land_of key) seat.hand) (sym state)
        (record { at = ap (λ r. r.at) u.hand; cells = ap (λ r. length r.cells + 0) u.hand; same = ap (λ r. r.land) u.hand });
  }

  pub is_at : table.words ≡ 1 → table.slots ≡ 1 → IsValidPlan key.plan → seat.stage ≤ suc key.plan.plugins → IsAt key table seat 0 stops_word
  is_at words slots valid stage = record {
    seat_is = is_seat;
    words = omega (arith, words);
    slots = slots;
    valid = valid;
    done_within = omega arith;
    allowed = subst (λ (s : ChainState). Allowed key.plan s (giving seat.hand seat.stage 0 stops_word)) (sym state) (record {
      is_stage = stage;
      goes_on = refl;
      held = (let none = ap (λ r. length (take 0 r.cells)) u.hand in omega (arith, none));
      agreement = λ agreed e. absurd (let bad : None ≡ Some agreed = e in cc);
      below_limit = λ output limit e some. absurd (let bad : None ≡ Some limit = e in cc);
      follows = λ e. absurd (let bad : Some Stop ≡ Some Followed = e in cc);
    });
  }

-- the next state of a run
changed : (plan : CorePlan) (visits : List Visit) (visit : Visit) → ChangesOneStage plan (state_after plan visits) (visited plan (state_after plan visits) visit) visit
    → ChangesOneStage plan (state_after plan visits) (state_after plan (visit ∷ visits)) visit
unfolding state_after
changed plan visits visit c = c

module _ (key : Key) (table : TableId) (old new : StageSeat) (news : News) (changes : (plan : CorePlan) (state : ChainState) (visit : Visit) → ChangesOneStage plan state (visited plan state visit) visit) (laws : SeatLaws)
    (u : IsUnvisited key table old.stage old) (went : Went key old new 0 stops_word news) (stage : new.stage ≡ old.stage) (of_table : new.seat.table_id ≡ old.seat.table_id) where
  abbrev now : List Visit
  now = visit_from old 0 stops_word ∷ (went.between ++ seen_of old)

  seen-now : seen_of new ≡ now
  seen-now = ap (λ me. seen_in me.0.held) went.rests

  told : ((state_after key.plan now).stages old.stage).ended ≡ Some Stop
  told = (changed key.plan (went.between ++ seen_of old) (visit_from old 0 stops_word) (changes key.plan (state_after key.plan (went.between ++ seen_of old)) (visit_from old 0 stops_word))).ended

  pub is_done : IsDone key table old.stage new
  is_done = record {
    stage = stage;
    seat_is = laws.again key table old new 0 stops_word news went stage of_table (is_seat key table old u);
    ended = subst (λ l. HasEnded key old.stage l) (sym seen-now) (subst IsSome (sym told) refl);
  }

-- ---- the play as a whole

-- what an input leaves of its source, however it ended
pub leaves_abandoned : (stuffing : model.Stuffing) (first now : SourceView) (lists : PartLists) (told : Option StageEnd) → LeavesSource stuffing first now lists told → WasAbandoned first now
leaves_abandoned stuffing first later lists None l = (lists.read, inl l)
leaves_abandoned stuffing first later lists (Some (by.Input (end.End left))) l = (lists.read, inl l)
leaves_abandoned stuffing first later lists (Some (by.Input (end.Sync packet))) l = (lists.read, inl l)
leaves_abandoned stuffing first later lists (Some (by.Input end.ReadFault)) l = (lists.read, inr l.source)
leaves_abandoned stuffing first later lists (Some (by.Input end.TooLong)) l = (lists.read, inl l)
leaves_abandoned stuffing first later lists (Some by.Last) l = (lists.read, inl l)
leaves_abandoned stuffing first later lists (Some by.Stop) l = (lists.read, inl l)
leaves_abandoned stuffing first later lists (Some (by.Refuse reason)) l = (lists.read, inl l)
leaves_abandoned stuffing first later lists (Some by.WriteFault) l = (lists.read, inl l)
leaves_abandoned stuffing first later lists (Some by.NoMemory) l = (lists.read, inl l)
leaves_abandoned stuffing first later lists (Some by.Followed) l = (lists.read, inl l)

-- both seats have reported their ends
pub whole_of : (plan : CorePlan) (ring : Ring) (of : IsRingOf plan ring) (seats : List StageSeat) (first second : StageSeat) → seats ≡ first ∷ second ∷ []
    → IsDone (key_of ring) (table_of ring) 0 first → IsDone (key_of ring) (table_of ring) 1 second → IsWhole (key_of ring) (table_of ring) seats
whole_of plan ring of seats first second is a b = record {
  valid = subst IsValidPlan (sym of.plan_is) of.valid;
  all = ap (λ l. length l) is ∙ sym (ap (λ n. suc (suc n)) (ap (λ (p : CorePlan). p.plugins) of.plan_is ∙ of.plugins));
  seats_are = λ k d lt. subst (λ l. IsDone (key_of ring) (table_of ring) k (slice_index_or l k d)) (sym is) (at k d (let n = ap (λ l. length l) is in omega (arith, n, lt)));
}
  where
    at : (k : ℕ) (d : StageSeat) → k < 2 → IsDone (key_of ring) (table_of ring) k (slice_index_or (first ∷ second ∷ []) k d)
    at zero d lt = a
    at (suc zero) d lt = b
    at (suc (suc k)) d lt = absurd (omega (arith, lt))

module _ {S K P : Type 0} (see : Seeing S K P) (plan : CorePlan) (source : S) (p : AheadPlay S K P) where
  -- the input has ended
  pub record EndedInput (new : List (Stage S K P)) : Type 0 where
    pub stage : Stage S K P
    pub new_is : (with_items p.stages new).items ≡ stage ∷ []
    pub done : IsDone (key_of p.ring) (table_of p.ring) 0 stage.seat
    pub kind : kind_of stage.part ≡ an_input
    pub stream : stream_kind stage.part ≡ a_stream
    pub stuffing : stuffing_in stage.part ≡ Some model.no_stuffing
    pub lists : PartLists
    pub told : Option StageEnd
    pub stands : PartStands see stage.part lists told
    pub source_is : lists.source ≡ see.source source

  over-one : (stage : Stage S K P) → HaveEnded true (stage ∷ []) → stage.over ≡ true
  unfolding HaveEnded
  over-one stage e = (e refl).0

  pub ended_input : (new : List (Stage S K P)) → IsAhead see plan source p → Carried see p.ring p.stages.items new → HaveEnded true new → EndedInput new
  ended_input new is carried ended =
      let one = ahead-one see plan source p is new (subst (λ l. Carried see p.ring l new) is.one_stage carried) in
      let stage = one.0 in
      let over : stage.over ≡ true = over-one stage (subst (HaveEnded true) one.1 ended) in
      let ends : Ends see (began plan source output.Discard) (key_of p.ring).base (table_of p.ring) stage = (one.2.holds output.Discard).1 over in
      let input = ends.over.doing.input (sym one.2.number) in
      record {
        stage = stage;
        new_is = with_whole p.stages new (ap (λ l. length l) is.one_stage ∙ sym (ap (λ l. length l) one.1)) ∙ one.1;
        done = record {
          stage = one.2.number;
          seat_is = subst (λ z. IsSeat z (table_of p.ring) stage.seat) (sym (key see plan source p.ring is.ring output.Discard)) ends.seat_is;
          ended = subst (λ z. HasEnded z 0 (seen_of stage.seat)) (sym (key see plan source p.ring is.ring output.Discard))
              (subst (λ k. IsSome ((state_after plan (seen_of stage.seat)).stages k).ended) one.2.number ends.over.ended);
        };
        kind = input.kind;
        stream = input.stream;
        stuffing = input.stuffing_is;
        lists = ends.over.lists;
        told = _;
        stands = ends.over.doing.stands_for;
        source_is = input.source;
      }
