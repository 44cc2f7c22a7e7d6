-- What one step of a plugin gives. This project's own rule.
use Rattle.std.specs.Prelude.{◌≡◌, ℕ, ◌+◌, ◌<◌, ◌≤◌, List, [], ◌∷◌, ◌++◌, length, Option, None, Some}
use Rattle.ts_packet.specs.declared.cell.Cell.{Cell}
use Rattle.ts_packet.specs.Cells.{Live, Dropped}
use Rattle.chain_model.specs.PluginRule.{PluginRule}
use Rattle.chain_model.specs.Apply.{became, goes_on, ends_after, ends_before, stopped, refused}
use Rattle.plugin_trait.specs.declared.outcome.Outcome.{Outcome}
use Rattle.plugin_trait.specs.declared.outcome.Outcome.TheVariants.{Pass, Drop, Last, Stop, Refuse, NoMemory}

-- a plugin that stands for some list of cells
pub record MeetsSome (stands : List Cell → ℕ → Type 0) : Type 0 where
  pub history : List Cell
  pub mark : ℕ
  pub holds : stands history mark

-- a plugin that stands for some list of exactly so many cells
pub record MeetsCells (stands : List Cell → ℕ → Type 0) (at : ℕ) : Type 0 where
  pub history : List Cell
  pub mark : ℕ
  pub holds : stands history mark
  pub count : length history ≡ at

-- the cell that passes is live exactly where the cell that came was
abbrev pub SameKind : Cell → Cell → Type 0
SameKind (Live packet labels) (Live edited left) = Unit {0}
SameKind Dropped Dropped = Unit {0}
SameKind _ _ = ⊥

-- a cell that holds a packet
abbrev pub IsLive : Cell → Type 0
IsLive (Live packet labels) = Unit {0}
IsLive Dropped = ⊥

-- what became of the cell that came, by the outcome and the cell that is left
abbrev pub StepTells : PluginRule → List Cell → Cell → Outcome → Cell → Type 0
StepTells rule history cell Pass left = (became rule history cell ≡ goes_on left) × SameKind cell left
StepTells rule history cell Drop left =
    (became rule history cell ≡ goes_on left) × IsLive cell × (left ≡ Dropped)
StepTells rule history cell Last left = became rule history cell ≡ ends_after left
StepTells rule history cell Stop left = (became rule history cell ≡ ends_before stopped) × (left ≡ cell)
StepTells rule history cell (Refuse reason) left =
    (became rule history cell ≡ ends_before (refused reason)) × (left ≡ cell)
StepTells rule history cell NoMemory left = left ≡ cell

-- the cell that is left where a packet with its labels was: none where it was dropped
abbrev pub left_of : Outcome → List ℕ → ℕ → Cell
left_of Drop packet labels = Dropped
left_of Pass packet labels = Live packet labels
left_of Last packet labels = Live packet labels
left_of Stop packet labels = Live packet labels
left_of (Refuse reason) packet labels = Live packet labels
left_of NoMemory packet labels = Live packet labels

-- the cells met after a step: with this one, unless the list ended before it
abbrev pub met_after : Outcome → List Cell → Cell → List Cell
met_after Pass history cell = history ++ cell ∷ []
met_after Drop history cell = history ++ cell ∷ []
met_after Last history cell = history ++ cell ∷ []
met_after Stop history cell = history
met_after (Refuse reason) history cell = history
met_after NoMemory history cell = history

-- the outcome is what the rule says, for each list that the plugin stood for
abbrev pub Tells : PluginRule → (List Cell → ℕ → Type 0) → ℕ → Cell → Outcome → Cell → Type 0
Tells rule stands at cell outcome left =
    (history : List Cell) (mark : ℕ) → stands history mark → length history ≡ at
    → StepTells rule history cell outcome left

-- after the step the plugin stands for each list that it stood for, with the cell that it met
abbrev pub Meets : (List Cell → ℕ → Type 0) → (List Cell → ℕ → Type 0) → ℕ → Cell → Outcome → Type 0
Meets old new at cell outcome =
    (history : List Cell) (mark : ℕ) → old history mark → length history ≡ at
    → new (met_after outcome history cell) mark

-- the position is one for which room was made before the run
pub record HasRoom (preallocated : Option ℕ) (stands : List Cell → ℕ → Type 0) (at : ℕ) : Type 0 where
  pub room : ℕ
  pub is_preallocated : preallocated ≡ Some room
  pub history : List Cell
  pub mark : ℕ
  pub holds : stands history mark
  pub count : length history ≡ at
  pub within : at < mark + room

-- room was made before the run for notes on so many positions after the mark
abbrev pub IsPreallocatedFor : Option ℕ → ℕ → Type 0
IsPreallocatedFor None count = ⊥
IsPreallocatedFor (Some room) count = count ≤ room
