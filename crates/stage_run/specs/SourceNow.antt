-- The source of an input while it runs: what was read of it, and how far that reaches. This project's own rule.
use Rattle.std.specs.Prelude.{◌≡◌, ◌⊎◌, ◌≤◌, [], length, IfSome}
use Rattle.ts_outside.specs.Source.{SourceView, unread, read_failed}
use Rattle.chain_model.specs.InputRead.{list_at_fault}
use Rattle.chain_model.specs.Stuffed as model
use Rattle.stage_run.specs.declared.input_part.InputPart.{InputPart}
use Rattle.stage_run.specs.declared.input_part.InputPart.TheVariants as part
use Rattle.stage_run.specs.declared.packet_feed.PacketFeed.{PacketFeed}
use Rattle.stage_run.specs.declared.packet_feed.PacketFeed.TheVariants.{Stream, Nulls, Generated}
use Rattle.stage_run.specs.PartLists.{PartLists}

-- the packets come from this source
abbrev pub IsFedBy : {S : Type 0} → S → PacketFeed S → Type 0
IsFedBy source (Stream stream) = stream.source ≡ source
IsFedBy source (Nulls feed) = ⊥
IsFedBy source (Generated feed) = ⊥

-- these bytes were read of a source, and at most one call failed; and the cells that were given are no more than those of the
-- whole packets among the bytes, unless nothing is left of the source, where that is known
pub record WasRead (stuffing : model.Stuffing) (first now : SourceView) (lists : PartLists) : Type 0 where
  pub source : (first ≡ unread lists.read now) ⊎ (read_failed first ≡ unread lists.read now)
  pub reach : IfSome now.left (λ left. left ≡ []) ⊎ (length lists.given ≤ length (list_at_fault stuffing lists.read).cells)

-- the same of the input that a stage returns, where it reads a source
abbrev pub WasReadOf : {S : Type 0} → (S → SourceView) → InputPart S → model.Stuffing → PartLists → Type 0
WasReadOf seen (part.Stream source) stuffing lists = WasRead stuffing lists.source (seen source) lists
WasReadOf seen (part.Nulls count) stuffing lists = Unit {0}
WasReadOf seen (part.Generated generator count) stuffing lists = Unit {0}
