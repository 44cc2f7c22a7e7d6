-- Lemmas on seats of stages that have not ended: which visits they may make, and what they are after a visit.
use Rattle.std.proofs.Common.{◌≡◌, ℕ, suc, ◌+◌, ◌<◌, ◌≤◌, ◌^◌, List, [], ◌∷◌, ◌++◌, length, map, None, Some, sym, refl, ap, ◌∙◌, subst, arith}
use Rattle.std.specs.Prelude.{IsSome}
use Rattle.std.proofs.lemmas.List.{length-take-le}
use Rattle.atomic_table.specs.Seated.{TableId}
use Rattle.chain_model.specs.Joint.{greatest_if_all}
use Rattle.chain_core.specs.declared.news.News.{News}
use Rattle.chain_core.specs.declared.core_plan.CorePlan.{CorePlan}
use Rattle.chain_core.specs.declared.stage_word.StageWord.{StageWord}
use Rattle.chain_core.specs.declared.stage_end.StageEnd.TheVariants.{Followed}
use Rattle.chain_core.specs.Stages.{stages_of}
use Rattle.chain_core.specs.CoreNumbers.{IsValidPlan}
use Rattle.chain_core.specs.Numbers.{UsersArePlugins, limit_of}
use Rattle.chain_core.specs.Machine.{Visit, ChainState, start, visited, progress_of_stages}
use Rattle.chain_core.specs.ChainRun.{ChainRun, state_after}
use Rattle.chain_core.specs.Laws.{ChangesOneStage, NewsHold}
use Rattle.chain_core.proofs.Soundness.{Sound, run-sound, users_from}
use Rattle.ts_packet.specs.declared.cell.Cell.{Cell}
use Rattle.cell_land.specs.Cells.{CellLand as Land, CellPiece}
use Rattle.window_ring.specs.Hands.{Row, row_of, LiftsFront}
use Rattle.window_ring.specs.declared.view.Key.{Key}
use Rattle.window_ring.specs.declared.stage_seat.StageSeat.{StageSeat}
use Rattle.window_ring.specs.Seats.{seen_in, seen_of, IsAt, Went, visit_from}
use Rattle.window_ring.specs.SeatLaws.{SeatLaws}
use Rattle.window_ring.specs.Opening.{IsFresh}
use Rattle.window_ring.specs.Closing.{IsDone}
use Rattle.window_ring.proofs.Starts.{unvisited}
use Rattle.window_ring.proofs.Visiting.{changed}
use Rattle.test_chain.specs.Going.{GoesOn}

module _ (laws : SeatLaws) (key : Key) (table : TableId) (seat : StageSeat) (fresh : IsFresh key table seat.stage seat) where
  state : state_after key.plan (seen_of seat) ≡ start
  state = ap (λ me. state_after key.plan (seen_in me.0.held)) fresh.rests ∙ unvisited key.plan

  pub goes_first : table.words ≡ 1 → table.slots ≡ 1 → IsValidPlan key.plan → stages_of key.plan.users ≡ [] → seat.stage ≤ suc key.plan.plugins → GoesOn key table seat
  goes_first words slots valid no_users stage = record {
    seat_is = laws.fresh key table seat fresh;
    words = omega (arith, words);
    slots = slots;
    valid = valid;
    no_users = no_users;
    stage = stage;
    goes_on = subst (λ (s : ChainState). (s.stages seat.stage).ended ≡ None) (sym state) refl;
  }

module _ (key : Key) (table : TableId) (seat : StageSeat) (goes : GoesOn key table seat) where
  abbrev now : ChainState
  now = state_after key.plan (seen_of seat)

  no_limit : limit_of key.plan (progress_of_stages now) ≡ None
  no_limit = ap (λ (users : List ℕ). greatest_if_all (map (λ k. (progress_of_stages now k).agreed) users)) goes.no_users

  sound : Sound key.plan now
  sound = run-sound key.plan (users_from key.plan goes.valid.users) (seen_of seat) goes.seat_is.run

  -- it may give the first cells in hand, without an agreement
  pub may_visit : (done : ℕ) (word : StageWord) → done ≤ length seat.hand.cells → word.agreed ≡ None → (word.ended ≡ Some Followed → ⊥) → IsAt key table seat done word
  may_visit done word within none not_follows = record {
    seat_is = goes.seat_is;
    words = goes.words;
    slots = goes.slots;
    valid = goes.valid;
    done_within = within;
    allowed = record {
      is_stage = goes.stage;
      goes_on = goes.goes_on;
      held = (let a = goes.seat_is.hand_is.cells in let b = length-take-le done seat.hand.cells within in omega (arith, a, b, within));
      agreement = λ agreed e. absurd (let bad : None ≡ Some agreed = sym none ∙ e in cc);
      below_limit = λ output limit e some. absurd (let bad : None ≡ Some limit = sym no_limit ∙ sound.told_is limit e in cc);
      follows = λ e. absurd (not_follows e);
    };
  }

  module _ (hold : (plan : CorePlan) (visits : List Visit) (k : ℕ) → UsersArePlugins plan → ChainRun plan visits → NewsHold plan (state_after plan visits) k) where
    held : NewsHold key.plan now seat.stage
    held = hold key.plan (seen_of seat) seat.stage goes.valid.users goes.seat_is.run

    -- positions are small
    pub low : seat.hand.at + length seat.hand.cells < 2 ^ 63
    low = (let a = goes.seat_is.hand_is.at in let b = goes.seat_is.hand_is.cells in let c = held.taken_below in omega (arith, a, b, c))

    -- the cells in hand fit in the block
    pub fits : length seat.hand.cells ≤ seat.hand.land.count
    fits = subst (λ (l : Land). length seat.hand.cells ≤ l.count) (sym goes.seat_is.hand_is.same)
        (let a = goes.seat_is.hand_is.cells in let b = held.taken_ahead in let c = held.written_within goes.stage in omega (arith, a, b, c))

-- a seat whose cells were lifted and put back
pub same_seat : (key : Key) (table : TableId) (old new : StageSeat) → new.seat ≡ old.seat → new.stage ≡ old.stage → new.hand ≡ old.hand → GoesOn key table old → GoesOn key table new
same_seat key table old new seat stage hand goes =
    let with_seat : new ≡ record { seat = old.seat; stage = new.stage; hand = new.hand } = subst (λ s. new ≡ record { seat = s; stage = new.stage; hand = new.hand }) seat refl in
    let with_stage : new ≡ record { seat = old.seat; stage = old.stage; hand = new.hand } = subst (λ k. new ≡ record { seat = old.seat; stage = k; hand = new.hand }) stage with_seat in
    let same : new ≡ old = subst (λ h. new ≡ record { seat = old.seat; stage = old.stage; hand = h }) hand with_stage in
    subst (GoesOn key table) (sym same) goes

module _ (laws : SeatLaws) (changes : (plan : CorePlan) (state : ChainState) (visit : Visit) → ChangesOneStage plan state (visited plan state visit) visit) (key : Key) (table : TableId) (old new : StageSeat) (done : ℕ) (word : StageWord) (news : News)
    (went : Went key old new done word news) (stage : new.stage ≡ old.stage) (of_table : new.seat.table_id ≡ old.seat.table_id) (goes : GoesOn key table old) where
  abbrev after : List Visit
  after = visit_from old done word ∷ (went.between ++ seen_of old)

  seen_now : seen_of new ≡ after
  seen_now = ap (λ me. seen_in me.0.held) went.rests

  told : ((state_after key.plan after).stages old.stage).ended ≡ word.ended
  told = (changed key.plan (went.between ++ seen_of old) (visit_from old done word) (changes key.plan (state_after key.plan (went.between ++ seen_of old)) (visit_from old done word))).ended

  told_now : ((state_after key.plan (seen_of new)).stages old.stage).ended ≡ word.ended
  told_now = subst (λ l. ((state_after key.plan l).stages old.stage).ended ≡ word.ended) (sym seen_now) told

  -- a stage that has not ended by its word goes on
  pub goes_again : word.ended ≡ None → GoesOn key table new
  goes_again untold = record {
    seat_is = laws.again key table old new done word news went stage of_table goes.seat_is;
    words = goes.words;
    slots = goes.slots;
    valid = goes.valid;
    no_users = goes.no_users;
    stage = subst (λ k. k ≤ suc key.plan.plugins) (sym stage) goes.stage;
    goes_on = subst (λ k. ((state_after key.plan (seen_of new)).stages k).ended ≡ None) (sym stage) (told_now ∙ untold);
  }

  -- a stage that has ended by its word is done
  pub is_done : IsSome word.ended → IsDone key table old.stage new
  is_done over = record {
    stage = stage;
    seat_is = laws.again key table old new done word news went stage of_table goes.seat_is;
    ended = subst IsSome (sym told_now) over;
  }

-- what was lifted is put back
pub back_again : (old rest final : Row) (w : CellPiece) → LiftsFront old rest w → final ≡ row_of old.at rest.land (w.cells ++ rest.cells) → final ≡ old
back_again old rest final w lifts back =
    back ∙ ap (λ (l : Land). row_of old.at l (w.cells ++ rest.cells)) lifts.same ∙ ap (λ (l : List Cell). row_of old.at old.land l) (sym lifts.cells)
