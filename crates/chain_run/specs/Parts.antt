-- The stages of a chain before a run and after it. This project's own rule.
use Rattle.std.specs.Prelude.{◌≡◌, ℕ, List, [], ◌∷◌, ◌++◌, Option, None, Some}
use Rattle.ts_outside.specs.Source.{SourceView}
use Rattle.ts_outside.specs.Sink.{SinkView}
use Rattle.chain_core.specs.declared.stage_end.StageEnd.{StageEnd}
use Rattle.plugin_trait.specs.declared.heard.Heard.{Heard}
use Rattle.stage_run.specs.Seeing.{Seeing, heard_rule, heard_stands, heard_preallocated}
use Rattle.stage_run.specs.declared.stage_part.StagePart.{StagePart}
use Rattle.stage_run.specs.HeardSince.{HeardSince}
use Rattle.stage_run.specs.PartLists.{PartLists, fresh_lists}
use Rattle.stage_run.specs.PartStands.{PartStands, PartGives, kind_of, rule_of, preallocated_of, stuffing_in, source_kind, sink_kind, stream_kind, an_input, a_plugin, an_output}
use Rattle.stage_run.specs.Parts.{LeavesInput, LeavesOutput, SomeList}
use Rattle.stage_run.specs.SourceNow.{WasReadOf}
use Rattle.stage_run.specs.declared.input_part.InputPart.{InputPart}
use Rattle.stage_run.specs.declared.output_part.OutputPart.{OutputPart}
use Rattle.chain_model.specs.Stuffed as model

module _ {S K P : Type 0} (see : Seeing S K P) where
  -- the stage of a plugin that has met nothing and has no lines
  pub record MadeOf (part : StagePart S K P) (plugin : Heard P) : Type 0 where
    pub kind : kind_of part ≡ a_plugin
    pub same_rule : rule_of see part ≡ heard_rule see plugin
    pub same_preallocated : preallocated_of see part ≡ heard_preallocated see plugin
    pub fresh : (source : SourceView) (sink : SinkView) (mark : ℕ) → heard_stands see plugin [] mark
        → PartStands see part (fresh_lists source sink mark) None

  -- each is the stage of the plugin at its place
  abbrev pub AreMadeOf : List (StagePart S K P) → List (Heard P) → Type 0
  AreMadeOf [] [] = Unit {0}
  AreMadeOf (part ∷ parts) (plugin ∷ plugins) = MadeOf part plugin × AreMadeOf parts plugins
  AreMadeOf _ _ = ⊥

  -- the plugin that a stage returns, with the lines that were not taken away
  pub record TakenFrom (part : StagePart S K P) (plugin : Heard P) : Type 0 where
    pub same_rule : heard_rule see plugin ≡ rule_of see part
    pub holds : (lists : PartLists) (told : Option StageEnd) → PartStands see part lists told
        → HeardSince see.rule see.stands lists.from plugin lists.met lists.mark

  -- each is the plugin that the stage at its place returns; after them stands the output's stage
  abbrev pub AreTakenFrom : List (StagePart S K P) → List (Heard P) → Type 0
  AreTakenFrom (part ∷ parts) (plugin ∷ plugins) = TakenFrom part plugin × AreTakenFrom parts plugins
  AreTakenFrom (output ∷ []) [] = Unit {0}
  AreTakenFrom _ _ = ⊥

  -- the stages of plugins, and after them the output's
  abbrev pub ArePluginsAndOutput : List (StagePart S K P) → Type 0
  ArePluginsAndOutput [] = ⊥
  ArePluginsAndOutput (part ∷ []) = kind_of part ≡ an_output
  ArePluginsAndOutput (part ∷ next ∷ parts) = (kind_of part ≡ a_plugin) × ArePluginsAndOutput (next ∷ parts)

  -- the stages of a chain in their order: the input's, those of the plugins, and the output's
  abbrev pub AreStages : List (StagePart S K P) → Type 0
  AreStages [] = ⊥
  AreStages (part ∷ parts) = (kind_of part ≡ an_input) × ArePluginsAndOutput parts

  -- the stages of a chain returned the input, the plugins and the output: each is what its stage leaves by whatever
  -- the stage stood for
  pub record GaveBack (parts : List (StagePart S K P)) (input : InputPart S) (plugins : List (Heard P))
      (output : OutputPart K) : Type 0 where
    pub first : StagePart S K P
    pub rest : List (StagePart S K P)
    pub row : parts ≡ first ∷ rest
    pub front : List (StagePart S K P)
    pub last : StagePart S K P
    pub ends : rest ≡ front ++ last ∷ []
    pub in_stream : source_kind input ≡ stream_kind first
    pub in_leaves : (lists : PartLists) (told : Option StageEnd) (stuffing : model.Stuffing)
        → PartStands see first lists told → stuffing_in first ≡ Some stuffing
        → LeavesInput see.source input stuffing lists told
    pub in_read : (lists : PartLists) (told : Option StageEnd) (stuffing : model.Stuffing)
        → PartStands see first lists told → stuffing_in first ≡ Some stuffing
        → WasReadOf see.source input stuffing lists
    pub some_list : (lists : PartLists) (told : Option StageEnd) → PartStands see first lists told
        → SomeList (PartGives see first lists)
    pub taken : AreTakenFrom rest plugins
    pub out_stream : sink_kind output ≡ stream_kind last
    pub out_leaves : (lists : PartLists) (told : Option StageEnd) → PartStands see last lists told
        → LeavesOutput see.sink output lists told
