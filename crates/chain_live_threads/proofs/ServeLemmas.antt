-- A stage that serves: after a visit, and after one that found the turn held.
use Rattle.std.proofs.Common.{◌≡◌, ℕ, List, [], ◌∷◌, ◌++◌, None, Bool, true, false, refl, sym, ap, ◌∙◌, subst}
use Rattle.std.specs.Prelude.{IsSome}
use Rattle.cell_land.specs.declared.cell_window.Bases.{Bases}
use Rattle.atomic_table.specs.Seated.{TableId}
use Rattle.chain_core.specs.declared.news.News.{News}
use Rattle.chain_core.specs.declared.stage_word.StageWord.{StageWord}
use Rattle.chain_core.specs.Numbers.{written_of}
use Rattle.chain_core.specs.Machine.{ChainState, Visit, progress_of_stages}
use Rattle.chain_core.specs.ChainRun.{state_after}
use Rattle.stage_run.specs.Seeing.{Seeing}
use Rattle.stage_run.specs.declared.stage_part.StagePart.{StagePart}
use Rattle.stage_run.specs.declared.work.Work.{Work}
use Rattle.chain_run.specs.Runs.{RunStart}
use Rattle.window_ring.specs.declared.stage_seat.StageSeat.{StageSeat}
use Rattle.window_ring.specs.declared.ring.Ring.{Ring}
use Rattle.window_ring.specs.declared.view.Key.{Key}
use Rattle.window_ring.specs.Seats.{seen_of, seen_in, busy_of, visit_from, key_of, table_of, IsAt, Went}
use Rattle.window_ring.specs.Views.{at_rest}
use Rattle.chain_threads.specs.Standing.{key_at, StandsAt, IsOver, written_by}
use Rattle.chain_run.specs.Runs.{nothing_told}
use Rattle.chain_tells.proofs.MetLemmas.{written-is}
use Rattle.chain_threads.specs.Turning.{HandWorks, IsNewStage}
use Rattle.chain_threads.proofs.NewLemmas.{new-stands}
use Rattle.chain_threads.specs.RunLaws.{RunLaws}
use Rattle.chain_threads.proofs.Numbers.{after-visit}
use Rattle.chain_threads.proofs.TurnLemmas.{over-now, stands-now, stands-still, seen-still}
use Rattle.chain_live_threads.specs.declared.live_stage.LiveStage.{LiveStage}
use Rattle.chain_live_threads.specs.Serving.{Serves, HasSeenMore, IsReady, Keeps}

not-both : {A : Type 0} (b : Bool) → b ≡ false → b ≡ true → A
not-both b f t = absurd (let e : true ≡ false = sym t ∙ f in cc)

module _ {S K P : Type 0} (see : Seeing S K P) (begun : RunStart S K) (base : Bases) (table : TableId) where
  -- a stage that goes on serves
  pub serves-on : (stage : LiveStage S K P) → stage.over ≡ false → StandsAt see begun base table stage.seat stage.part stage.done stage.word
      → stage.written ≡ written_by see begun (seen_of stage.seat) → Serves see begun base table stage
  serves-on stage going st knows = (st.standing.lists, record { goes_on = λ e. (st, refl); has_ended = λ e. not-both stage.over going e; knows = knows })

  -- and one that has ended
  pub serves-over : (stage : LiveStage S K P) → stage.over ≡ true → IsOver see begun base table stage.seat stage.part
      → stage.written ≡ written_by see begun (seen_of stage.seat) → Serves see begun base table stage
  serves-over stage over is knows = (is.over.lists, record { goes_on = λ e. not-both stage.over e over; has_ended = λ e. (is, refl); knows = knows })

  -- what a stage that serves stands for while it goes on
  pub standing-of : (stage : LiveStage S K P) → stage.over ≡ false → Serves see begun base table stage
      → StandsAt see begun base table stage.seat stage.part stage.done stage.word
  standing-of stage going s = (s.1.goes_on going).0

  -- a stage of which nothing was done
  pub serves-new : (laws : RunLaws see) (part : StagePart S K P) (seat : StageSeat) → IsNewStage see begun base table part seat
      → Serves see begun base table (record { seat = seat; part = part; done = 0; word = nothing_told; over = false; written = 0 })
  unfolding state_after
  serves-new laws part seat n =
      serves-on (record { seat = seat; part = part; done = 0; word = nothing_told; over = false; written = 0 }) refl (new-stands see laws begun base table part seat n)
      (sym (ap (written_by see begun) (ap (λ me. seen_in me.0.held) n.fresh.rests) ∙ written-is laws.machine begun.plan n.run.valid.users [] tt))

  module _ (laws : RunLaws see) (old : StageSeat) (part : StagePart S K P) (done : ℕ) (word : StageWord) (over : Bool) (written : ℕ) (going : over ≡ false) (st : StandsAt see begun base table old part done word)
      (knows : written ≡ written_by see begun (seen_of old)) where
    -- where the turn was held
    module _ (new : StageSeat) (holder : ℕ) (away : new.seat.me ≡ (at_rest (key_at begun base) old.stage (seen_of old) (holder ∷ busy_of old), [])) (hand : new.hand ≡ old.hand)
        (stage : new.stage ≡ old.stage) (of_table : new.seat.table_id ≡ old.seat.table_id) where
      abbrev held : LiveStage S K P
      held = record { seat = new; part = part; done = done; word = word; over = over; written = written }

      seen-same : seen_of new ≡ seen_of old
      seen-same = seen-still see begun laws base table old new holder away hand stage of_table part done word st

      pub after-held : Serves see begun base table held × HasSeenMore see (record { seat = old; part = part; done = done; word = word; over = over; written = written }) held
      after-held = (
        serves-on held going (stands-still see begun laws base table old new holder away hand stage of_table part done word st)
            (knows ∙ ap (written_by see begun) (sym seen-same)),
        ([], seen-same),
      )

    -- where the visit was made
    module _ (new : StageSeat) (news : News) (w : Went (key_at begun base) old new done word news) (stage : new.stage ≡ old.stage) (of_table : new.seat.table_id ≡ old.seat.table_id) where
      abbrev now : List Visit
      now = visit_from old done word ∷ (w.between ++ seen_of old)

      seen-now : seen_of new ≡ now
      seen-now = ap (λ me. seen_in me.0.held) w.rests

      told-now : news.written ≡ written_by see begun now
      told-now = ap (λ (n : News). n.written) w.news_is
          ∙ ap (λ (z : ChainState). written_of begun.plan (progress_of_stages z)) (sym (after-visit begun.plan (w.between ++ seen_of old) (visit_from old done word)))

      abbrev was : LiveStage S K P
      was = record { seat = old; part = part; done = done; word = word; over = over; written = written }

      -- and reported the end
      pub after-end : IsSome word.ended → let new_stage : LiveStage S K P = record { seat = new; part = part; done = done; word = word; over = true; written = news.written } in
          Serves see begun base table new_stage × HasSeenMore see was new_stage
      after-end some = (
        serves-over (record { seat = new; part = part; done = done; word = word; over = true; written = news.written }) refl
            (over-now see begun laws base table old new part done word st news w stage of_table some)
            (told-now ∙ ap (written_by see begun) (sym seen-now)),
        (visit_from old done word ∷ w.between, seen-now),
      )

      -- and the part worked
      module _ (none : word.ended ≡ None) (seat3 : StageSeat) (part3 : StagePart S K P) (work : Work) (hw : HandWorks see part part3 new.hand seat3.hand news work) (same : seat3.seat ≡ new.seat) (stage3 : seat3.stage ≡ new.stage) where
        seen3 : seen_of seat3 ≡ now
        seen3 = ap (λ x. seen_in x.me.0.held) same ∙ seen-now

        pub after-work : let new_stage : LiveStage S K P = record { seat = seat3; part = part3; done = work.done; word = work.word; over = over; written = news.written } in
            Serves see begun base table new_stage × HasSeenMore see was new_stage
        after-work = (
          serves-on (record { seat = seat3; part = part3; done = work.done; word = work.word; over = over; written = news.written }) going
              (stands-now see begun laws base table old new part done word st news w stage of_table none seat3 part3 work hw same stage3)
              (told-now ∙ ap (written_by see begun) (sym seen3)),
          (visit_from old done word ∷ w.between, seen3),
        )

-- ---- with the ring

module _ {S K P : Type 0} (see : Seeing S K P) (ring : Ring) where
  -- a stage by its fields, where it goes on
  pub ready-standing : (stage : LiveStage S K P) → stage.over ≡ false → IsReady see ring stage
      → (begun : RunStart S K) × (base : Bases) × (key_of ring ≡ key_at begun base) × StandsAt see begun base (table_of ring) stage.seat stage.part stage.done stage.word
  unfolding IsReady
  ready-standing stage going r = (r.0, r.1, r.2, standing-of see r.0 r.1 (table_of ring) stage going r.3)

  pub keeps-of : (old new : LiveStage S K P) → new.seat.stage ≡ old.seat.stage
      → ((begun : RunStart S K) (base : Bases) → key_of ring ≡ key_at begun base → Serves see begun base (table_of ring) old → Serves see begun base (table_of ring) new × HasSeenMore see old new)
      → Keeps see ring old new
  unfolding Keeps
  keeps-of old new stage on = (stage, on)

  -- what a visit asks for
  pub may-visit : (stage : LiveStage S K P) → stage.over ≡ false → IsReady see ring stage → IsAt (key_of ring) (table_of ring) stage.seat stage.done stage.word
  may-visit stage going r =
      let t = ready-standing stage going r in
      subst (λ (k : Key). IsAt k (table_of ring) stage.seat stage.done stage.word) (sym t.2)
      (record { seat_is = t.3.seat_is; words = t.3.words; slots = t.3.slots; valid = t.3.run.valid; done_within = t.3.standing.done_within; allowed = t.3.standing.allowed })
