-- What the work of a part says, by its kind.
use Rattle.std.proofs.Common.{◌≡◌, ℕ, ◌+◌, ◌*◌, ◌<◌, ◌≤◌, List, [], length, take, Option, Some, refl, subst, ◌∙◌, arith, inl, inr}
use Rattle.std.proofs.lemmas.Bool.{cases_lt}
use Rattle.ts_packet.specs.declared.cell.Cell.{Cell}
use Rattle.chain_model.specs.PluginRule.{PluginRule, passing_rule}
use Rattle.chain_model.specs.Apply.{StageList}
use Rattle.plugin_trait.specs.Steps.{IsPreallocatedFor}
use Rattle.stage_run.proofs.PluginWorking.{preallocated_less}
use Rattle.chain_core.specs.declared.news.News.{News}
use Rattle.chain_core.specs.Keeps.{StageKeeps}
use Rattle.stage_run.specs.Seeing.{Seeing}
use Rattle.stage_run.specs.declared.stage_part.StagePart.{StagePart}
use Rattle.stage_run.specs.declared.stage_part.StagePart.TheVariants.{Input, Plugin, Output}
use Rattle.stage_run.specs.declared.work.Work.{Work}
use Rattle.stage_run.specs.declared.output_part.OutputPart.{OutputPart}
use Rattle.stage_run.specs.declared.output_part.OutputPart.TheVariants as out
use Rattle.stage_run.specs.declared.packet_feed.PacketFeed.{PacketFeed}
use Rattle.stage_run.specs.declared.packet_feed.PacketFeed.TheVariants as feed
use Rattle.stage_run.specs.Feeds.{SameFeed}
use Rattle.stage_run.specs.OutputStands.{SamePart}
use Rattle.stage_run.specs.PartLists.{PartLists}
use Rattle.stage_run.specs.PartStands.{PartGives, MayWantMemory, sink_kind, feed_kind, stream_kind, kind_of, rule_of, preallocated_of, an_input, a_plugin, an_output}
use Rattle.stage_run.specs.Works.{WorksByKind, FillsByKind, RestsByKind, InputTells, OutputTells, KeepsRule, read_for}

-- a part that goes on has done a cell where it had one
pub fills-some : {S K P : Type 0} (new : StagePart S K P) (len done : ℕ) → FillsByKind new len done → done ≡ 0 → len ≡ 0
fills-some (Input new) len done (inl all) none = omega arith
fills-some (Input new) len done (inr some) none = let a : 0 < done = some.0 in absurd (omega arith)
fills-some (Plugin new) len done all none = let a : done ≡ len = all in omega arith
fills-some (Output new) len done all none = let a : done ≡ len = all in omega arith

-- the cells that a plugin or an output has not done are as they were
kept-plugin : {S K P : Type 0} (new : StagePart S K P) (a b : List Cell) → kind_of new ≡ a_plugin → RestsByKind new a b → b ≡ a
kept-plugin (Input new) a b kind rests = absurd cc
kept-plugin (Plugin new) a b kind rests = rests
kept-plugin (Output new) a b kind rests = absurd cc

kept-output : {S K P : Type 0} (new : StagePart S K P) (a b : List Cell) → kind_of new ≡ an_output → RestsByKind new a b → b ≡ a
kept-output (Input new) a b kind rests = absurd cc
kept-output (Plugin new) a b kind rests = absurd cc
kept-output (Output new) a b kind rests = rests

-- so are those of a stage that is not the first
pub rests-kept : {S K P : Type 0} (part new : StagePart S K P) (a b : List Cell) (plugins j : ℕ) → kind_of new ≡ kind_of part → j ≤ plugins
    → (j < plugins → kind_of part ≡ a_plugin) → (j ≡ plugins → kind_of part ≡ an_output) → RestsByKind new a b → b ≡ a
rests-kept part new a b plugins j same le plugin output rests =
    elim (cases_lt j plugins) [
      | inl lt ↦ kept-plugin new a b (same ∙ plugin lt) rests
      | inr ge ↦ kept-output new a b (same ∙ output (omega (arith, le, ge))) rests
    ]

module _ {S K P : Type 0} (see : Seeing S K P) where
  pub record InputDid (old new : StagePart S K P) (before : PartLists) (news : News) (cells cells_new : List Cell) (work : Work) (after : PartLists) : Type 0 where
    pub tells : InputTells news (length before.given) work.done (FillsByKind new (length cells) work.done) (after.read ≡ before.read) work.word.ended
    pub reads : (most : ℕ) → length before.read ≤ 188 * most → read_for (length before.given) (length cells) ≤ most → length after.read ≤ 188 * most
    pub gives : (input : StageList) → PartGives see new after input → PartGives see old before input
    pub keeps : (input : StageList) → PartGives see new after input → (rules : List PluginRule) (plugins : ℕ) → StageKeeps rules input plugins 0 [] before.given (take work.done cells_new) work.word

  pub input-did : (old new : StagePart S K P) (before : PartLists) (news : News) (cells cells_new : List Cell) (work : Work) (after : PartLists)
      → kind_of old ≡ an_input → WorksByKind see old new before news cells cells_new work after → InputDid old new before news cells cells_new work after
  input-did (Input old) (Input new) before news cells cells_new work after kind works = record {
    tells = works.tells;
    reads = works.reads;
    gives = λ input gives. (works.keeps input gives).0;
    keeps = λ input gives rules plugins. (works.keeps input gives).1 rules plugins;
  }
  input-did (Input old) (Plugin new) before news cells cells_new work after kind works = absurd works
  input-did (Input old) (Output new) before news cells cells_new work after kind works = absurd works
  input-did (Plugin old) new before news cells cells_new work after kind works = absurd cc
  input-did (Output old) new before news cells cells_new work after kind works = absurd cc

  pub record PluginDid (old : StagePart S K P) (before : PartLists) (cells cells_new : List Cell) (work : Work) : Type 0 where
    pub keeps : (plugins j : ℕ) → KeepsRule (rule_of see old) before cells (take work.done cells_new) work.word plugins j

  pub plugin-did : (old new : StagePart S K P) (before : PartLists) (news : News) (cells cells_new : List Cell) (work : Work) (after : PartLists)
      → kind_of old ≡ a_plugin → WorksByKind see old new before news cells cells_new work after → PluginDid old before cells cells_new work
  plugin-did (Plugin old) (Plugin new) before news cells cells_new work after kind works = record { keeps = works.keeps }
  plugin-did (Plugin old) (Input new) before news cells cells_new work after kind works = absurd works
  plugin-did (Plugin old) (Output new) before news cells cells_new work after kind works = absurd works
  plugin-did (Input old) new before news cells cells_new work after kind works = absurd cc
  plugin-did (Output old) new before news cells cells_new work after kind works = absurd cc

  pub record OutputDid (before : PartLists) (news : News) (cells cells_new : List Cell) (work : Work) (after : PartLists) : Type 0 where
    pub unchanged : cells_new ≡ cells
    pub tells : OutputTells news (length before.given) cells work.done after.cut work.word.ended
    pub below : (limit : ℕ) → news.limit ≡ Some limit → 0 < work.done → length before.given + work.done ≤ limit
    pub keeps : (plugins : ℕ) → KeepsRule passing_rule before cells (take work.done cells_new) work.word plugins plugins

  pub output-did : (old new : StagePart S K P) (before : PartLists) (news : News) (cells cells_new : List Cell) (work : Work) (after : PartLists)
      → kind_of old ≡ an_output → WorksByKind see old new before news cells cells_new work after → OutputDid before news cells cells_new work after
  output-did (Output old) (Output new) before news cells cells_new work after kind works = record {
    unchanged = works.unchanged;
    tells = works.tells;
    below = works.below;
    keeps = works.keeps;
  }
  output-did (Output old) (Input new) before news cells cells_new work after kind works = absurd works
  output-did (Output old) (Plugin new) before news cells cells_new work after kind works = absurd works
  output-did (Input old) new before news cells cells_new work after kind works = absurd cc
  output-did (Plugin old) new before news cells cells_new work after kind works = absurd cc

  -- ---- memory

  -- a stage that may run out of memory is a plugin's that made no room
  pub wants-kind : (part : StagePart S K P) (ahead : ℕ) → MayWantMemory see part ahead → (kind_of part ≡ a_plugin) × (IsPreallocatedFor (preallocated_of see part) ahead → ⊥)
  wants-kind (Input stage) ahead wants = absurd wants
  wants-kind (Plugin stage) ahead wants = (refl, wants)
  wants-kind (Output stage) ahead wants = absurd wants

  -- it may run out of it for more positions too, after a visit
  pub wants-more : (old new : StagePart S K P) (less more : ℕ) → kind_of new ≡ kind_of old → preallocated_of see new ≡ preallocated_of see old → less ≤ more → MayWantMemory see old less → MayWantMemory see new more
  wants-more (Input old) new less more kind same le wants = absurd wants
  wants-more (Output old) new less more kind same le wants = absurd wants
  wants-more (Plugin old) (Input new) less more kind same le wants = cc
  wants-more (Plugin old) (Output new) less more kind same le wants = cc
  wants-more (Plugin old) (Plugin new) less more kind same le wants =
      λ has. wants (preallocated_less (see.preallocated old.heard.plugin) more less le (subst (λ (s : Option ℕ). IsPreallocatedFor s more) same has))

  -- ---- streams

  -- an input or an output that has a stream keeps it
  pub stream-kept : (old new : StagePart S K P) (before : PartLists) (news : News) (cells cells_new : List Cell) (work : Work) (after : PartLists)
      → WorksByKind see old new before news cells cells_new work after → stream_kind new ≡ stream_kind old
  stream-kept (Input old) (Input new) before news cells cells_new work after does = feeds old.feed new.feed does.same
    where
      feeds : (a b : PacketFeed S) → SameFeed a b → feed_kind b ≡ feed_kind a
      feeds (feed.Stream a) (feed.Stream b) same = refl
      feeds (feed.Nulls a) (feed.Nulls b) same = refl
      feeds (feed.Generated a) (feed.Generated b) same = refl
      feeds (feed.Stream a) (feed.Nulls b) same = absurd same
      feeds (feed.Stream a) (feed.Generated b) same = absurd same
      feeds (feed.Nulls a) (feed.Stream b) same = absurd same
      feeds (feed.Nulls a) (feed.Generated b) same = absurd same
      feeds (feed.Generated a) (feed.Stream b) same = absurd same
      feeds (feed.Generated a) (feed.Nulls b) same = absurd same
  stream-kept (Plugin old) (Plugin new) before news cells cells_new work after does = refl
  stream-kept (Output old) (Output new) before news cells cells_new work after does = parts old.part new.part does.same
    where
      parts : (a b : OutputPart K) → SamePart a b → sink_kind b ≡ sink_kind a
      parts (out.Stream a) (out.Stream b) same = refl
      parts out.Discard out.Discard same = refl
      parts (out.Stream a) out.Discard same = absurd same
      parts out.Discard (out.Stream b) same = absurd same
  stream-kept (Input old) (Plugin new) before news cells cells_new work after does = absurd does
  stream-kept (Input old) (Output new) before news cells cells_new work after does = absurd does
  stream-kept (Plugin old) (Input new) before news cells cells_new work after does = absurd does
  stream-kept (Plugin old) (Output new) before news cells cells_new work after does = absurd does
  stream-kept (Output old) (Input new) before news cells cells_new work after does = absurd does
  stream-kept (Output old) (Plugin new) before news cells cells_new work after does = absurd does
