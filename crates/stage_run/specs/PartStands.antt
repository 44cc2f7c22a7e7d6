-- The relation of a part to the lists that it stands for. This project's own rule.
use Rattle.std.specs.Prelude.{◌≡◌, ℕ, ◌≤◌, length, Option, None, Some}
use Rattle.chain_model.specs.PluginRule.{PluginRule, passing_rule}
use Rattle.chain_model.specs.Apply.{StageList}
use Rattle.chain_model.specs.Stuffed as model
use Rattle.chain_core.specs.declared.stage_end.StageEnd.{StageEnd}
use Rattle.stage_run.specs.declared.input_part.InputPart.{InputPart}
use Rattle.stage_run.specs.declared.input_part.InputPart.TheVariants as input
use Rattle.stage_run.specs.declared.output_part.OutputPart.{OutputPart}
use Rattle.stage_run.specs.declared.output_part.OutputPart.TheVariants as output
use Rattle.stage_run.specs.declared.packet_feed.PacketFeed.{PacketFeed}
use Rattle.stage_run.specs.declared.packet_feed.PacketFeed.TheVariants as feed
use Rattle.stage_run.specs.declared.stage_part.StagePart.{StagePart}
use Rattle.stage_run.specs.declared.stage_part.StagePart.TheVariants.{Input, Plugin, Output}
use Rattle.plugin_trait.specs.Steps.{IsPreallocatedFor}
use Rattle.stage_run.specs.Seeing.{Seeing}
use Rattle.stage_run.specs.PartLists.{PartLists}
use Rattle.stage_run.specs.InputStands.{InputStands, MayGive, stuffing_of}
use Rattle.stage_run.specs.PluginStands.{PluginStands}
use Rattle.stage_run.specs.OutputStands.{OutputStands}

-- the kinds of stages
pub data PartKind : Type 0 where
  an_input : PartKind
  a_plugin : PartKind
  an_output : PartKind

abbrev pub kind_of : {S K P : Type 0} → StagePart S K P → PartKind
kind_of (Input stage) = an_input
kind_of (Plugin stage) = a_plugin
kind_of (Output stage) = an_output

-- the rule by which a part makes its list of the cells that it meets: an output passes everything
abbrev pub rule_of : {S K P : Type 0} → Seeing S K P → StagePart S K P → PluginRule
rule_of see (Input stage) = passing_rule
rule_of see (Plugin stage) = see.rule stage.heard.plugin
rule_of see (Output stage) = passing_rule

-- where it is a number, a plugin made room before the run for notes on so many positions after its mark
abbrev pub preallocated_of : {S K P : Type 0} → Seeing S K P → StagePart S K P → Option ℕ
preallocated_of see (Input stage) = None
preallocated_of see (Plugin stage) = see.preallocated stage.heard.plugin
preallocated_of see (Output stage) = None

-- the stuffing of an input
abbrev pub stuffing_in : {S K P : Type 0} → StagePart S K P → Option model.Stuffing
stuffing_in (Input stage) = Some (stuffing_of stage.stuffing)
stuffing_in (Plugin stage) = None
stuffing_in (Output stage) = None

-- what packets come from or go to: a source or a sink, null packets, a generated stream, or none of these
pub data StreamKind : Type 0 where
  a_stream : StreamKind
  null_packets : StreamKind
  generated_packets : StreamKind
  no_stream : StreamKind

-- where an input's packets come from
abbrev pub source_kind : {S : Type 0} → InputPart S → StreamKind
source_kind (input.Stream source) = a_stream
source_kind (input.Nulls count) = null_packets
source_kind (input.Generated generator count) = generated_packets

-- where an output's packets go to
abbrev pub sink_kind : {K : Type 0} → OutputPart K → StreamKind
sink_kind (output.Stream sink) = a_stream
sink_kind output.Discard = no_stream

-- what feeds an input
abbrev pub feed_kind : {S : Type 0} → PacketFeed S → StreamKind
feed_kind (feed.Stream stream) = a_stream
feed_kind (feed.Nulls nulls) = null_packets
feed_kind (feed.Generated generated) = generated_packets

-- what a part's packets come from or go to, outside the chain
abbrev pub stream_kind : {S K P : Type 0} → StagePart S K P → StreamKind
stream_kind (Input stage) = feed_kind stage.feed
stream_kind (Plugin stage) = no_stream
stream_kind (Output stage) = sink_kind stage.part

-- the part met, gave, read and wrote what these lists say, and reported this end
abbrev pub PartStands : {S K P : Type 0} → Seeing S K P → StagePart S K P → PartLists → Option StageEnd
    → Type 0
PartStands see (Input stage) lists told = InputStands see.source stage lists told
PartStands see (Plugin stage) lists told = PluginStands see.rule see.stands stage lists told
PartStands see (Output stage) lists told = OutputStands see.sink stage lists told

-- the list of the chain's input may be this one, as far as this part knows; only an input knows of it
abbrev pub PartGives : {S K P : Type 0} → Seeing S K P → StagePart S K P → PartLists → StageList → Type 0
PartGives see (Input stage) lists input = MayGive see.source stage lists input
PartGives see (Plugin stage) lists input = Unit {0}
PartGives see (Output stage) lists input = Unit {0}

-- a stage that works on so many positions after the mark may run out of memory: a plugin's, where no room was made for them
abbrev pub MayWantMemory : {S K P : Type 0} → Seeing S K P → StagePart S K P → ℕ → Type 0
MayWantMemory see (Input stage) ahead = ⊥
MayWantMemory see (Plugin stage) ahead = IsPreallocatedFor (see.preallocated stage.heard.plugin) ahead → ⊥
MayWantMemory see (Output stage) ahead = ⊥

-- a part that stands for these lists, and has not ended, may work after its first `at` cells with this mark
pub record MayWork (stands : PartLists → Option StageEnd → Type 0) (at written : ℕ)
    (lists : PartLists) : Type 0 where
  pub goes_on : stands lists None
  pub given : length lists.given ≡ at
  pub mark : lists.mark ≤ written

-- a part that stands for some such lists
pub record MayWorkOnSome (stands : PartLists → Option StageEnd → Type 0) (at written : ℕ) : Type 0 where
  pub lists : PartLists
  pub may : MayWork stands at written lists
