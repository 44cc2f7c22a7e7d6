-- What a stage does with the cells in its hands. This project's own rule.
use Rattle.std.specs.Prelude.{◌≡◌, ◌⊎◌, ℕ, suc, ◌+◌, ◌-◌, ◌*◌, ◌<◌, ◌≤◌, ◌==◌, List, [], ◌++◌, length, take, drop, Option, None, Some, true, if◌then◌else◌}
use Rattle.ts_packet.specs.declared.numbers.TheConstants.{PACKET_SIZE}
use Rattle.chain_model.specs.declared.positions.TheConstants.{POSITION_LIMIT}
use Rattle.ts_packet.specs.declared.cell.Cell.{Cell}
use Rattle.ts_outside.specs.Count.{raised}
use Rattle.ts_outside.specs.Source.{SourceView}
use Rattle.ts_outside.specs.Sink.{SinkView}
use Rattle.chain_model.specs.declared.input_end.InputEnd.TheVariants.{ReadFault}
use Rattle.chain_model.specs.Prefix.{IsPrefix}
use Rattle.chain_model.specs.PluginRule.{PluginRule, passing_rule}
use Rattle.chain_model.specs.Apply.{StageList, apply}
use Rattle.chain_model.specs.StageLists.{rule_after}
use Rattle.chain_model.specs.Joint.{agreement_of}
use Rattle.chain_core.specs.declared.news.News.{News}
use Rattle.chain_core.specs.declared.stage_end.StageEnd.{StageEnd}
use Rattle.chain_core.specs.declared.stage_end.StageEnd.TheVariants.{Input, WriteFault, NoMemory, Followed}
use Rattle.chain_core.specs.declared.stage_word.StageWord.{StageWord}
use Rattle.chain_core.specs.Keeps.{StageKeeps}
use Rattle.stage_run.specs.declared.work.Work.{Work}
use Rattle.stage_run.specs.declared.output_part.OutputPart.{OutputPart}
use Rattle.stage_run.specs.declared.output_part.OutputPart.TheVariants as out
use Rattle.stage_run.specs.declared.packet_feed.PacketFeed.{PacketFeed}
use Rattle.stage_run.specs.declared.packet_feed.PacketFeed.TheVariants as feed
use Rattle.stage_run.specs.declared.input_stage.InputStage.{InputStage}
use Rattle.stage_run.specs.declared.plugin_stage.PluginStage.{PluginStage}
use Rattle.stage_run.specs.declared.output_stage.OutputStage.{OutputStage}
use Rattle.stage_run.specs.declared.stage_part.StagePart.{StagePart}
use Rattle.stage_run.specs.declared.stage_part.StagePart.TheVariants as part
use Rattle.plugin_trait.specs.Steps.{IsPreallocatedFor}
use Rattle.plugin_trait.specs.Driving.{newly_agreed}
use Rattle.stage_run.specs.Seeing.{Seeing}
use Rattle.stage_run.specs.PartLists.{PartLists}
use Rattle.stage_run.specs.Feeds.{SameFeed}
use Rattle.stage_run.specs.InputStands.{InputStands, MayGive}
use Rattle.stage_run.specs.InputSteps.{FillsWindow}
use Rattle.stage_run.specs.PluginStands.{PluginStands}
use Rattle.stage_run.specs.OutputStands.{OutputStands, SamePart}
use Rattle.chain_model.specs.Written.{IsPartOfFirst}
use Rattle.stage_run.specs.PartStands.{PartStands, MayWork, MayWantMemory, rule_of, kind_of, preallocated_of, stuffing_in}
use Rattle.stage_run.specs.Telling.{FollowsNews, may_follow, told_of, below_limit}

-- the lists after a visit: more was met and given; what was read and written and the mark are a part's own; no line is taken away
pub record Behind (old new : PartLists) (cells cells_given : List Cell) (written : ℕ) : Type 0 where
  pub met : new.met ≡ old.met ++ cells
  pub given : new.given ≡ old.given ++ cells_given
  pub read : IsPrefix old.read new.read
  pub source : new.source ≡ old.source
  pub sink : new.sink ≡ old.sink
  pub mark : new.mark ≤ written
  pub from : new.from ≡ old.from

-- for how many packets, counted from its beginning, an input may read that works on `len` cells after `at`: for its
-- cells, but for one packet more at the last position
abbrev pub read_for : ℕ → ℕ → ℕ
read_for at len = if at == POSITION_LIMIT then at + 1 else at + len

-- a count of faults rose by one where this fault was reported, and did not change otherwise
abbrev pub FaultsTold : ℕ → ℕ → Option StageEnd → StageEnd → Type 0
FaultsTold old new told fault = (told ≡ Some fault → new ≡ raised old) × ((told ≡ Some fault → ⊥) → new ≡ old)

-- an input fills its window, unless its list ends; at the last position it looks for its end. It need not read where it
-- may follow already
abbrev pub InputTells : News → ℕ → ℕ → Type 0 → Type 0 → Option StageEnd → Type 0
InputTells news at done fills unread None = fills × (at < POSITION_LIMIT)
InputTells news at done fills unread (Some Followed) =
    (fills × (at < POSITION_LIMIT)) ⊎ ((done ≡ 0) × unread × (may_follow news at ≡ true))
InputTells news at done fills unread (Some (Input how)) = Unit {0}
InputTells news at done fills unread (Some _) = ⊥

-- the count of faults of an input's source
abbrev pub source_faults : {S : Type 0} → (S → SourceView) → PacketFeed S → ℕ
source_faults seen (feed.Stream stream) = (seen stream.source).faults
source_faults seen (feed.Nulls nulls) = 0
source_faults seen (feed.Generated generated) = 0

pub record InputWorks {S : Type 0} (seen : S → SourceView) (old new : InputStage S) (before : PartLists)
    (news : News) (cells cells_new : List Cell) (work : Work) (after : PartLists) : Type 0 where
  pub tells : InputTells news (length before.given) work.done (FillsWindow new (length cells) work.done)
      (after.read ≡ before.read) work.word.ended
  pub agreed : work.word.agreed ≡ None
  -- it stays an input from a source, of so many null packets, or of so many packets of one seed
  pub same : SameFeed old.feed new.feed
  pub faults : FaultsTold (source_faults seen old.feed) (source_faults seen new.feed) work.word.ended
      (Input ReadFault)
  -- no more is read than the cells need
  pub reads : (most : ℕ) → length before.read ≤ PACKET_SIZE * most
      → read_for (length before.given) (length cells) ≤ most → length after.read ≤ PACKET_SIZE * most
  -- what may follow now might have followed before, and of each such list the visit is a stage's
  pub keeps : (input : StageList) → MayGive seen new after input → MayGive seen old before input
      × ((rules : List PluginRule) (plugins : ℕ)
      → StageKeeps rules input plugins 0 [] before.given (take work.done cells_new) work.word)

-- a plugin's stage gives the image of all its cells and reports how that ends, unless it runs out of memory
abbrev pub PluginTells : StageList → List Cell → News → Option StageEnd → Type 0
PluginTells list given news (Some NoMemory) = IsPrefix given list.cells
PluginTells list given news told = (given ≡ list.cells) × (told ≡ told_of list.ended news (length given))

-- of the cells in the stage's hands, whatever waits after them, and whatever its number, the visit is that of the
-- stage with the rule
abbrev pub KeepsRule : PluginRule → PartLists → List Cell → List Cell → StageWord → ℕ → ℕ → Type 0
KeepsRule rule before cells given word plugins j =
    (rules : List PluginRule) (input : StageList) (rest : List Cell) → rule_after rules j ≡ rule
    → StageKeeps rules input plugins (suc j) (before.met ++ (cells ++ rest)) before.given given word

pub record PluginWorks (rule : PluginRule) (before : PartLists) (news : News) (cells cells_new : List Cell)
    (work : Work) (after : PartLists) : Type 0 where
  pub tells : PluginTells (apply rule (before.met ++ cells)) after.given news work.word.ended
  pub agreed : work.word.agreed ≡ newly_agreed (length before.given) (agreement_of rule after.met)
  -- where there is a cell to work on, the plugin was given the mark of what is written, unless it ran out of memory
  pub told : 0 < length cells → (work.word.ended ≡ Some NoMemory → ⊥) → after.mark ≡ news.written
  pub keeps : (plugins j : ℕ) → KeepsRule rule before cells (take work.done cells_new) work.word plugins j

-- an output gives all its cells below the limit, but for a write fault: it ends before the cell whose packet was not
-- taken whole
abbrev pub OutputTells : News → ℕ → List Cell → ℕ → List ℕ → Option StageEnd → Type 0
OutputTells news at cells done cut None = done ≡ below_limit news.limit at (length cells)
OutputTells news at cells done cut (Some Followed) = done ≡ below_limit news.limit at (length cells)
OutputTells news at cells done cut (Some WriteFault) =
    (done < below_limit news.limit at (length cells)) × IsPartOfFirst (drop done cells) cut
OutputTells news at cells done cut (Some _) = ⊥

-- the count of faults of an output's sink
abbrev pub sink_faults : {K : Type 0} → (K → SinkView) → OutputPart K → ℕ
sink_faults seen (out.Stream sink) = (seen sink).faults
sink_faults seen out.Discard = 0

pub record OutputWorks {K : Type 0} (seen : K → SinkView) (old new : OutputStage K) (before : PartLists)
    (news : News) (cells cells_new : List Cell) (work : Work) (after : PartLists) : Type 0 where
  pub unchanged : cells_new ≡ cells
  pub tells : OutputTells news (length before.given) cells work.done after.cut work.word.ended
  pub agreed : work.word.agreed ≡ None
  -- it stays an output to a sink, or to nowhere
  pub same : SamePart old.part new.part
  pub faults : FaultsTold (sink_faults seen old.part) (sink_faults seen new.part) work.word.ended WriteFault
  pub below : (limit : ℕ) → news.limit ≡ Some limit → 0 < work.done → length before.given + work.done ≤ limit
  pub keeps : (plugins : ℕ)
      → KeepsRule passing_rule before cells (take work.done cells_new) work.word plugins plugins

-- what a part does, by its kind; no part changes its kind
abbrev pub WorksByKind : {S K P : Type 0} → Seeing S K P → StagePart S K P → StagePart S K P
    → PartLists → News → List Cell → List Cell → Work → PartLists → Type 0
WorksByKind see (part.Input old) (part.Input new) before news cells cells_new work after =
    InputWorks see.source old new before news cells cells_new work after
WorksByKind see (part.Plugin old) (part.Plugin new) before news cells cells_new work after =
    PluginWorks (see.rule old.heard.plugin) before news cells cells_new work after
WorksByKind see (part.Output old) (part.Output new) before news cells cells_new work after =
    OutputWorks see.sink old new before news cells cells_new work after
WorksByKind see _ _ before news cells cells_new work after = ⊥

-- a stage that stood for the lists `before` stands for the lists `after` now, and did its work
pub record Works (Stands : PartLists → Option StageEnd → Type 0) (Does : PartLists → Type 0)
    (before : PartLists) (written : ℕ) (cells cells_new : List Cell) (work : Work) : Type 0 where
  pub after : PartLists
  pub behind : Behind before after (take work.done cells) (take work.done cells_new) written
  pub stands : Stands after work.word.ended
  pub does : Does after

-- all cells were done
abbrev pub DoesAll : ℕ → ℕ → Type 0
DoesAll len done = done ≡ len

-- the cells that were not done are as they were
abbrev pub StayAsTheyWere : List Cell → List Cell → Type 0
StayAsTheyWere before after = after ≡ before

-- those in an input's hands are free: what is read straight into them may be there, and nobody has given them
abbrev pub AreFree : List Cell → List Cell → Type 0
AreFree before after = Unit {0}

abbrev pub RestsByKind : {S K P : Type 0} → StagePart S K P → List Cell → List Cell → Type 0
RestsByKind (part.Input new) = AreFree
RestsByKind (part.Plugin new) = StayAsTheyWere
RestsByKind (part.Output new) = StayAsTheyWere

-- a part that goes on has done all its cells; an input alone may have done the first of them, where a read is next
abbrev pub FillsByKind : {S K P : Type 0} → StagePart S K P → ℕ → ℕ → Type 0
FillsByKind (part.Input new) = FillsWindow new
FillsByKind (part.Plugin new) = DoesAll
FillsByKind (part.Output new) = DoesAll

-- the work of a stage, of whatever kind: `Old` and `New` are what it stood for and stands for, `Wants` says whether it may
-- run out of memory where it works so far ahead of the mark, `Rests` what the cells are that it has not done, `Fills` how many
-- of its cells it does that goes on, and `Does` what its kind does
pub record StageWork (Old New : PartLists → Option StageEnd → Type 0) (Wants : ℕ → Type 0)
    (Rests : List Cell → List Cell → Type 0) (Fills : ℕ → ℕ → Type 0) (Does : PartLists → PartLists → Type 0) (at : ℕ) (news : News)
    (cells cells_new : List Cell) (work : Work) : Type 0 where
  -- so many cells are done
  pub done : work.done ≤ length cells
  pub rest : Rests (drop work.done cells) (drop work.done cells_new)
  pub goes_on : work.word.ended ≡ None → Fills (length cells) work.done
  pub follows : FollowsNews news (at + work.done) work.word.ended
  -- an agreement is with one of the cells that were done
  pub agreed : (agreed : ℕ) → work.word.agreed ≡ Some agreed → (at < agreed) × (agreed ≤ at + work.done)
  pub memory : work.word.ended ≡ Some NoMemory → Wants (news.taken - news.written)
  -- whatever lists it stood for, it stands for longer ones, and did its work
  pub works : (before : PartLists) → MayWork Old at news.written before
      → Works New (Does before) before news.written cells cells_new work

-- the work of an input: it does not run out of memory
abbrev pub InputWork : {S : Type 0} → (S → SourceView) → InputStage S → InputStage S
    → ℕ → News → List Cell → List Cell → Work → Type 0
InputWork seen old new at news cells cells_new work =
    StageWork (InputStands seen old) (InputStands seen new) (λ _. ⊥) AreFree (FillsWindow new)
    (λ before. InputWorks seen old new before news cells cells_new work) at news cells cells_new work

-- the work of a plugin's stage: it does not run out of memory where room was made for all that it is given to work on
abbrev pub PluginWork : {P : Type 0} → (P → PluginRule) → (P → List Cell → ℕ → Type 0) → (P → Option ℕ)
    → PluginStage P → PluginStage P → ℕ → News → List Cell → List Cell → Work → Type 0
PluginWork rule stands preallocated old new at news cells cells_new work =
    StageWork (PluginStands rule stands old) (PluginStands rule stands new)
    (λ ahead. IsPreallocatedFor (preallocated old.heard.plugin) ahead → ⊥) StayAsTheyWere DoesAll
    (λ before. PluginWorks (rule old.heard.plugin) before news cells cells_new work) at news cells cells_new work

-- the work of an output: it does not run out of memory
abbrev pub OutputWork : {K : Type 0} → (K → SinkView) → OutputStage K → OutputStage K
    → ℕ → News → List Cell → List Cell → Work → Type 0
OutputWork seen old new at news cells cells_new work =
    StageWork (OutputStands seen old) (OutputStands seen new) (λ _. ⊥) StayAsTheyWere DoesAll
    (λ before. OutputWorks seen old new before news cells cells_new work) at news cells cells_new work

-- a part worked on cells that come after its first `at`; its kind does not change
pub record PartWork {S K P : Type 0} (see : Seeing S K P) (old new : StagePart S K P)
    (at : ℕ) (news : News) (cells cells_new : List Cell) (work : Work) : Type 0 where
  pub same_kind : kind_of new ≡ kind_of old
  pub same_rule : rule_of see new ≡ rule_of see old
  pub same_preallocated : preallocated_of see new ≡ preallocated_of see old
  pub same_stuffing : stuffing_in new ≡ stuffing_in old
  pub stage : StageWork (PartStands see old) (PartStands see new) (MayWantMemory see old) (RestsByKind new)
      (FillsByKind new)
      (λ before. WorksByKind see old new before news cells cells_new work) at news cells cells_new work
