-- What a plugin that may have summaries so far stands for. This project's own rule.
use Rattle.std.specs.Prelude.{◌≡◌, ◌≤◌, ℕ, List, [], length, take, Bool, false, Option, None, Some}
use Rattle.ts_packet.specs.declared.cell.Cell.{Cell}
use Rattle.chain_model.specs.PluginRule.{PluginRule}
use Rattle.plugin_trait.specs.LiveCount.{live_count}
use Rattle.plugin_notes.specs.NotesKept.{KeepsNotes}
use Rattle.plug_every.specs.DueNotes.{due_on}
use Rattle.plug_every.specs.EveryRule.{every_rule}
use Rattle.plug_every.specs.declared.due.Due.{Due}
use Rattle.plug_every.specs.declared.every_plugin.EveryPlugin.{EveryPlugin}
use Rattle.plug_every.specs.declared.maybe_every.MaybeEvery.{MaybeEvery}
use Rattle.plug_every.specs.declared.maybe_every.MaybeEvery.TheVariants.{Every, Plain}

-- the plugin stands for these cells and this mark, and the due packets from there on are noted
pub record NotesDue (stands : List Cell → ℕ → Type 0) (n : ℕ) (due : List Due) (history : List Cell) (mark : ℕ) : Type 0 where
  pub holds : stands history mark
  pub notes : KeepsNotes (due_on n) due history mark

-- such a plugin that may be given this mark
pub record AllowsDue (stands : List Cell → ℕ → Type 0) (due : List Due) (written : ℕ) : Type 0 where
  pub n : ℕ
  pub history : List Cell
  pub mark : ℕ
  pub is : NotesDue stands n due history mark
  pub not_below : mark ≤ written
  pub met : written ≤ length history

-- the plugin stands for these cells and some mark
pub record MetAt (stands : List Cell → ℕ → Type 0) (history : List Cell) : Type 0 where
  pub mark : ℕ
  pub holds : stands history mark

module _ {P : Type 0} (rule : P → PluginRule) (stands : P → List Cell → ℕ → Type 0) where
  -- until a report runs out of memory the plugin within has the same mark, and the due packets from there on are noted; from
  -- then on it is kept whether a run that is cut at the mark has a fault
  abbrev pub GoesOn : Option Bool → EveryPlugin P → List Cell → ℕ → ℕ → Type 0
  GoesOn None s history mark inner = (inner ≡ mark) × (s.mark ≡ mark) × KeepsNotes (due_on s.every) s.due.items history mark
  GoesOn (Some fault) s history mark inner = fault ≡ (rule s.plugin).has_fault (take mark history)

  -- the plugin within stands for these cells, and its packets are counted
  pub record StandsEvery (s : EveryPlugin P) (history : List Cell) (mark : ℕ) : Type 0 where
    pub inner : ℕ
    pub holds : stands s.plugin history inner
    pub positive : 1 ≤ s.every
    pub seen : s.seen ≡ live_count history
    pub marked : mark ≤ length history
    pub goes : GoesOn s.failed s history mark inner

  -- the same for a plugin that may have such summaries
  abbrev pub StandsMaybe : MaybeEvery P → List Cell → ℕ → Type 0
  StandsMaybe (Plain plugin) history mark = stands plugin history mark
  StandsMaybe (Every plugin) history mark = StandsEvery plugin.value history mark

-- its rule
abbrev pub rule_in : {P : Type 0} → (P → PluginRule) → EveryPlugin P → PluginRule
rule_in rule s = every_rule s.every s.counts (rule s.plugin)

abbrev pub rule_of_maybe : {P : Type 0} → (P → PluginRule) → MaybeEvery P → PluginRule
rule_of_maybe rule (Plain plugin) = rule plugin
rule_of_maybe rule (Every plugin) = rule_in rule plugin.value

-- for how many positions it took memory before the run: for none where there are such summaries, whose lines need memory at a
-- mark
abbrev pub preallocated_every : Option ℕ → Option ℕ → Option ℕ
preallocated_every None preallocated = preallocated
preallocated_every (Some n) preallocated = None

abbrev pub preallocated_of_maybe : {P : Type 0} → (P → Option ℕ) → MaybeEvery P → Option ℕ
preallocated_of_maybe preallocated (Plain plugin) = preallocated plugin
preallocated_of_maybe preallocated (Every plugin) = None

-- whether it has nothing to report
abbrev pub silent_every : Option ℕ → Bool → Bool
silent_every None silent = silent
silent_every (Some n) silent = false

abbrev pub silent_of_maybe : {P : Type 0} → (P → Bool) → MaybeEvery P → Bool
silent_of_maybe silent (Plain plugin) = silent plugin
silent_of_maybe silent (Every plugin) = false

-- such a plugin agrees to no end before any cell, where the plugin within does not
pub opens_maybe : {P : Type 0} (rule : P → PluginRule) (stands : P → List Cell → ℕ → Type 0)
    → ((plugin : P) (history : List Cell) (mark : ℕ) → stands plugin history mark → (rule plugin).agrees [] ≡ false)
    → (plugin : MaybeEvery P) (history : List Cell) (mark : ℕ) → StandsMaybe rule stands plugin history mark
    → (rule_of_maybe rule plugin).agrees [] ≡ false
opens_maybe rule stands opens (Plain plugin) history mark holds = opens plugin history mark holds
opens_maybe rule stands opens (Every plugin) history mark holds = opens plugin.value.plugin history holds.inner holds.holds
