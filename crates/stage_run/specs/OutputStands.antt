-- What an output stands for. This project's own rule.
use Rattle.std.specs.Prelude.{◌≡◌, ◌≢◌, ℕ, List, [], ◌++◌, Option, Some}
use Rattle.ts_packet.specs.declared.cell.Cell.{Cell}
use Rattle.ts_outside.specs.Sink.{SinkView, took, write_failed}
use Rattle.chain_model.specs.Written.{written}
use Rattle.chain_core.specs.declared.stage_end.StageEnd.{StageEnd}
use Rattle.chain_core.specs.declared.stage_end.StageEnd.TheVariants.{WriteFault}
use Rattle.stage_run.specs.declared.output_part.OutputPart.{OutputPart}
use Rattle.stage_run.specs.declared.output_part.OutputPart.TheVariants.{Stream, Discard}
use Rattle.stage_run.specs.declared.output_stage.OutputStage.{OutputStage}
use Rattle.stage_run.specs.PartLists.{PartLists}

-- a sink that took what these cells write and a part of the packet after them, of which a write failed
abbrev pub failed_after : SinkView → List Cell → List ℕ → SinkView
failed_after first given part = write_failed (took first (written given ++ part))

-- the sink took the bytes of the live cells that were given; after a write fault alone, and that is the last call,
-- a part of the packet in hand too
abbrev pub SinkTook : SinkView → SinkView → List Cell → List ℕ → Option StageEnd → Type 0
SinkTook first now given cut (Some WriteFault) = now ≡ failed_after first given cut
SinkTook first now given cut _ = (now ≡ took first (written given)) × (cut ≡ [])

-- both are sinks, or both let everything go
abbrev pub SamePart : {K : Type 0} → OutputPart K → OutputPart K → Type 0
SamePart (Stream old) (Stream new) = Unit {0}
SamePart Discard Discard = Unit {0}
SamePart _ _ = ⊥

-- what an output wrote of the cells that it gave
abbrev pub PartTook : {K : Type 0} → (K → SinkView) → OutputPart K → PartLists → Option StageEnd → Type 0
PartTook seen (Stream sink) lists told = SinkTook lists.sink (seen sink) lists.given lists.cut told
PartTook seen Discard lists told = told ≢ Some WriteFault

-- the output met and gave these lists, and reported this end
pub record OutputStands {K : Type 0} (seen : K → SinkView) (stage : OutputStage K) (lists : PartLists)
    (told : Option StageEnd) : Type 0 where
  -- it gives its cells unchanged
  pub same : lists.given ≡ lists.met
  pub took : PartTook seen stage.part lists told
