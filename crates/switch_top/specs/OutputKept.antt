-- The output of a call while it is open, and the desk when it was closed. This project's own rule.
use Rattle.std.specs.Prelude.{◌≡◌, ℕ, List, [], Bool, false, Option, None, Some}
use Rattle.std.specs.Option.{option_map}
use Rattle.ts_outside.specs.Sink.{SinkView}
use Rattle.ts_outside.specs.Desk.{DeskView, output_closed}
use Rattle.stage_run.specs.declared.output_part.OutputPart.{OutputPart}
use Rattle.stage_run.specs.declared.output_part.OutputPart.TheVariants as out

-- the desk after the output was closed
abbrev pub closed_as : {K : Type 0} → (K → SinkView) → DeskView → OutputPart K → Bool → DeskView
closed_as seen desk (out.Stream sink) failed = output_closed desk (seen sink) failed
closed_as seen desk out.Discard failed = desk

-- what goes nowhere is always closed
abbrev pub ClosesWell : {K : Type 0} → OutputPart K → Bool → Type 0
ClosesWell (out.Stream sink) failed = Unit {0}
ClosesWell out.Discard failed = failed ≡ false

-- an output that was opened under a name and took nothing, or none
abbrev pub IsOutputOf : {K : Type 0} → (K → SinkView) → DeskView → Option (List ℕ) → OutputPart K → Type 0
IsOutputOf seen desk (Some name) (out.Stream sink) =
    seen sink ≡ record { taken = option_map (λ _. []) desk.outputs; name = option_map (λ _. name) desk.outputs; faults = 0 }
IsOutputOf seen desk None out.Discard = Unit {0}
IsOutputOf seen desk _ _ = ⊥
