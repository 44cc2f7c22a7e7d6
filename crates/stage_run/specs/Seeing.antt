-- How contracts see the ends and the plugins of a chain: what their traits say of them, as one. This project's own rule.
use Rattle.std.specs.Prelude.{ℕ, List, Option}
use Rattle.ts_packet.specs.declared.cell.Cell.{Cell}
use Rattle.ts_outside.specs.Source.{SourceView}
use Rattle.ts_outside.specs.Sink.{SinkView}
use Rattle.chain_model.specs.PluginRule.{PluginRule}
use Rattle.plugin_trait.specs.declared.heard.Heard.{Heard}
use Rattle.plugin_trait.specs.HeardStands.{HeardStands}

-- what is seen of a source and of a sink; of a plugin its rule, what it stands for, and the room that it made before the run
pub record Seeing (S K P : Type 0) : Type 1 where
  pub source : S → SourceView
  pub sink : K → SinkView
  pub rule : P → PluginRule
  pub stands : P → List Cell → ℕ → Type 0
  pub preallocated : P → Option ℕ

abbrev pub seeing : {S K P : Type 0} → (S → SourceView) → (K → SinkView) → (P → PluginRule)
    → (P → List Cell → ℕ → Type 0) → (P → Option ℕ) → Seeing S K P
seeing source sink rule stands preallocated =
    record { source = source; sink = sink; rule = rule; stands = stands; preallocated = preallocated }

-- the same of a plugin with the lines that it gave out
abbrev pub heard_rule : {S K P : Type 0} → Seeing S K P → Heard P → PluginRule
heard_rule see heard = see.rule heard.plugin

abbrev pub heard_stands : {S K P : Type 0} → Seeing S K P → Heard P → List Cell → ℕ → Type 0
heard_stands see = HeardStands see.rule see.stands

abbrev pub heard_preallocated : {S K P : Type 0} → Seeing S K P → Heard P → Option ℕ
heard_preallocated see heard = see.preallocated heard.plugin
