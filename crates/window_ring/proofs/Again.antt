-- A visit leaves a seat of which the same can be said again: what the loop of a thread keeps.
use Rattle.std.proofs.Common.{◌≡◌, ℕ, List, [], ◌∷◌, ◌++◌, subst, sym, ap, ◌∙◌}
use Rattle.atomic_table.specs.Seated.{TableId}
use Rattle.chain_model.specs.PluginRule.{PluginRule}
use Rattle.chain_model.specs.Apply.{StageList}
use Rattle.chain_core.specs.declared.core_plan.CorePlan.{CorePlan}
use Rattle.chain_core.specs.declared.news.News.{News}
use Rattle.chain_core.specs.declared.stage_word.StageWord.{StageWord}
use Rattle.chain_core.specs.Machine.{Visit}
use Rattle.chain_core.specs.ChainRun.{ChainRun, state_after}
use Rattle.chain_core.specs.Keeps.{Keeps}
use Rattle.window_ring.specs.declared.view.Key.{Key}
use Rattle.window_ring.specs.declared.stage_seat.StageSeat.{StageSeat}
use Rattle.window_ring.specs.Views.{at_rest, land_of, NoneOf}
use Rattle.window_ring.specs.Visits.{giving, IsHandOf}
use Rattle.window_ring.specs.Seats.{busy_of, seen_of, seen_in, Went}
use Rattle.window_ring.specs.Seats.{IsSeat}
use Rattle.window_ring.specs.OneRun.{KeptBy, IsDriven}

kept_over : (plan : CorePlan) (rules : List PluginRule) (input : StageList) (k : ℕ) (between seen : List Visit) → NoneOf k between → KeptBy plan rules input k seen → KeptBy plan rules input k (between ++ seen)
kept_over plan rules input k [] seen none kept = kept
kept_over plan rules input k (v ∷ vs) seen none kept = (kept_over plan rules input k vs seen none.1 kept, λ e. absurd (none.0 e))

module _ (key : Key) (table : TableId) (old new : StageSeat) (done : ℕ) (word : StageWord) (news : News) (w : Went key old new done word news) (stage : new.stage ≡ old.stage) (of_table : new.seat.table_id ≡ old.seat.table_id) where
  abbrev now : List Visit
  now = giving old.hand old.stage done word ∷ (w.between ++ seen_of old)

  seen_now : seen_of new ≡ now
  seen_now = ap (λ me. seen_in me.0.held) w.rests

  pub seat_again : IsSeat key table old → IsSeat key table new
  seat_again s = record {
    of_table = of_table ∙ s.of_table;
    rests = subst (λ b. new.seat.me ≡ (at_rest key new.stage (seen_of new) b, [])) (sym (ap (λ me. me.0.busy) w.rests))
        (subst (λ l. new.seat.me ≡ (at_rest key new.stage l [], [])) (sym seen_now) (subst (λ k. new.seat.me ≡ (at_rest key k now [], [])) (sym stage) w.rests));
    run = subst (λ l. ChainRun key.plan l) (sym seen_now) w.run;
    hand_is = subst (λ l. IsHandOf (state_after key.plan l) new.stage (land_of key) new.hand) (sym seen_now) (subst (λ k. IsHandOf (state_after key.plan now) k (land_of key) new.hand) (sym stage) w.hand_is);
  }

  pub driven_again : (rules : List PluginRule) (input : StageList) → Keeps key.plan rules input (state_after key.plan (w.between ++ seen_of old)) (giving old.hand old.stage done word) → IsDriven key table rules input old → IsDriven key table rules input new
  driven_again rules input keeps d = record {
    seat_is = seat_again d.seat_is;
    kept = subst (λ l. KeptBy key.plan rules input new.stage l) (sym seen_now) (subst (λ k. KeptBy key.plan rules input k now) (sym stage) (kept_over key.plan rules input old.stage w.between (seen_of old) w.of_others d.kept, λ e. keeps));
  }

-- so does a visit that found the turn held
module _ (key : Key) (table : TableId) (old new : StageSeat) (holder : ℕ) (away : new.seat.me ≡ (at_rest key old.stage (seen_of old) (holder ∷ busy_of old), [])) (hand : new.hand ≡ old.hand)
    (stage : new.stage ≡ old.stage) (of_table : new.seat.table_id ≡ old.seat.table_id) where
  seen_same : seen_of new ≡ seen_of old
  seen_same = ap (λ me. seen_in me.0.held) away

  pub seat_still : IsSeat key table old → IsSeat key table new
  seat_still s = record {
    of_table = of_table ∙ s.of_table;
    rests = subst (λ b. new.seat.me ≡ (at_rest key new.stage (seen_of new) b, [])) (sym (ap (λ me. me.0.busy) away))
        (subst (λ l. new.seat.me ≡ (at_rest key new.stage l (holder ∷ busy_of old), [])) (sym seen_same) (subst (λ k. new.seat.me ≡ (at_rest key k (seen_of old) (holder ∷ busy_of old), [])) (sym stage) away));
    run = subst (λ l. ChainRun key.plan l) (sym seen_same) s.run;
    hand_is = subst (λ h. IsHandOf (state_after key.plan (seen_of new)) new.stage (land_of key) h) (sym hand)
        (subst (λ l. IsHandOf (state_after key.plan l) new.stage (land_of key) old.hand) (sym seen_same) (subst (λ k. IsHandOf (state_after key.plan (seen_of old)) k (land_of key) old.hand) (sym stage) s.hand_is));
  }
