-- The play after the present one. This project's own rule.
use Rattle.std.specs.Prelude.{◌≡◌, ◌⊎◌, ℕ, List, [], ◌∷◌, Bool}
use Rattle.chain_core.specs.declared.core_plan.CorePlan.{CorePlan}
use Rattle.ts_outside.specs.Sink.{SinkView}
use Rattle.ts_outside.specs.declared.requests.Purpose.TheVariants.{Input}
use Rattle.ts_outside.specs.Source.{SourceView, own_bytes}
use Rattle.ts_outside.specs.Desk.{DeskView, content, asked_well, asked_in_vain, input_closed}
use Rattle.switch_top.specs.PlaySources.{play_source, LeavesAs}
use Rattle.switch_top.specs.declared.plays_left.PlaysLeft.{PlaysLeft}
use Rattle.switch_top.specs.declared.switching.NextPlay.{NextPlay}
use Rattle.switch_top.specs.declared.switching.NextPlay.TheVariants.{NoMore, Open, Failed}
use Rattle.switch_top.specs.PlayNames.{PlayName, plays_left}

-- whether packets are found again, what is seen of a play's source and of a sink, and when a play is open: of this source,
-- by this plan
pub record PlayKind (S A K : Type 0) : Type 1 where
  pub resync : Bool
  pub source : S → SourceView
  pub sink : K → SinkView
  pub opens : CorePlan → S → A → Type 0

abbrev pub kind_of : {S A K : Type 0} → Bool → (S → SourceView) → (K → SinkView) → (CorePlan → S → A → Type 0) → PlayKind S A K
kind_of resync source sink opens = record { resync = resync; source = source; sink = sink; opens = opens }

-- a play that is open, by this plan, of a source that is seen so
pub record IsSourceOf {S A : Type 0} (seen : S → SourceView) (opens : CorePlan → S → A → Type 0) (core : CorePlan)
    (view : SourceView) (play : A) : Type 0 where
  pub source : S
  pub ahead : opens core source play
  pub source_is : seen source ≡ view

module _ {S A K : Type 0} (see : PlayKind S A K) where
  -- a play of the file of this name, of which nothing was read
  abbrev pub IsPlayOf : CorePlan → DeskView → List ℕ → A → Type 0
  IsPlayOf core desk name play = IsSourceOf see.source see.opens core (play_source see.resync (content desk name)) play

  -- it is open
  abbrev pub IsOpenPlay : CorePlan → DeskView → List ℕ → ℕ → NextPlay A → Type 0
  IsOpenPlay core desk name input NoMore = ⊥
  IsOpenPlay core desk name input (Open number play) = (number ≡ input) × IsPlayOf core desk name play
  IsOpenPlay core desk name input (Failed number) = ⊥

  module _ (core : CorePlan) (names : List (List ℕ)) (left left_new : PlaysLeft) (old new : DeskView) where
    abbrev pub TakesName : ℕ → List ℕ → Type 0
    TakesName input name = plays_left names left ≡ record { input = input; name = name } ∷ plays_left names left_new

    -- what is opened after the present play
    abbrev pub OpensNext : NextPlay A → Type 0
    OpensNext NoMore = (plays_left names left ≡ []) × (new ≡ old)
    OpensNext (Open input play) =
        (name : List ℕ) × TakesName input name × (new ≡ asked_well old Input name) × IsPlayOf core old name play
    OpensNext (Failed input) = (name : List ℕ) × TakesName input name × (new ≡ asked_in_vain old Input name)

  -- a play that is open may be played
  abbrev pub CanLeave : A → Type 0
  CanLeave play = (plan : CorePlan) × (source : S) × see.opens plan source play

  abbrev pub CanPlay : NextPlay A → Type 0
  CanPlay NoMore = Unit {0}
  CanPlay (Open input play) = CanLeave play
  CanPlay (Failed input) = Unit {0}

  -- it is the same play, and some of it may have been read
  abbrev pub SameNext : NextPlay A → NextPlay A → Type 0
  SameNext NoMore NoMore = Unit {0}
  SameNext (Open input old) (Open number new) =
      (number ≡ input) × ((plan : CorePlan) (source : S) → see.opens plan source old → see.opens plan source new)
  SameNext (Failed input) (Failed number) = number ≡ input
  SameNext _ _ = ⊥

  -- it was ended and its file closed; then some of it may have been read, and at most one call failed
  abbrev pub LeavesOpen : A → DeskView → DeskView → Type 0
  LeavesOpen play old new = (view : SourceView) × (new ≡ input_closed old view)
      × ((plan : CorePlan) (source : S) → see.opens plan source play → LeavesAs (see.source source) view)

  -- so was the next play, if it was opened
  abbrev pub LeavesNext : NextPlay A → DeskView → DeskView → Type 0
  LeavesNext NoMore old new = new ≡ old
  LeavesNext (Open input play) old new = LeavesOpen play old new
  LeavesNext (Failed input) old new = new ≡ old

-- memory ran out: nothing was asked for, or the next file was opened and closed again
abbrev pub WantsNext : List (List ℕ) → PlaysLeft → DeskView → DeskView → Type 0
WantsNext names left old new = (new ≡ old)
    ⊎ ((play : PlayName) × (rest : List PlayName) × (plays_left names left ≡ play ∷ rest)
    × (new ≡ input_closed (asked_well old Input play.name) (record { left = content old play.name; faults = 0; origin = own_bytes })))
