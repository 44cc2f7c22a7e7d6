-- The desk after the two ends of a chain were opened and closed. This project's own rule.
use Rattle.std.specs.Prelude.{◌≡◌, ◌<◌, ◌^◌, ℕ, [], Bool, true, false, Option, None}
use Rattle.std.specs.Option.{option_map}
use Rattle.chain_args.specs.declared.input_conf.InputConf.{InputConf}
use Rattle.chain_args.specs.declared.input_conf.InputConf.TheVariants as input
use Rattle.chain_args.specs.declared.output_conf.OutputConf.{OutputConf}
use Rattle.chain_args.specs.declared.output_conf.OutputConf.TheVariants as output
use Rattle.packet_forms.specs.declared.forms.Form.{Form}
use Rattle.packet_forms.specs.FormView.{form_view}
use Rattle.packet_search.specs.Rule.{deciding_bytes}
use Rattle.search_source.specs.Coming.{found_in}
use Rattle.search_source.specs.FileView.{EndsAs}
use Rattle.search_source.specs.declared.file_source.KeptGaps.{KeptGaps}
use Rattle.stage_run.specs.declared.input_part.InputPart.{InputPart}
use Rattle.stage_run.specs.declared.input_part.InputPart.TheVariants.{Stream, Nulls, Generated}
use Rattle.stage_run.specs.declared.output_part.OutputPart.{OutputPart}
use Rattle.stage_run.specs.declared.output_part.OutputPart.TheVariants as out
use Rattle.ts_outside.specs.declared.requests.Purpose.TheVariants.{Input, Output}
use Rattle.ts_outside.specs.Source.{SourceView, own_bytes}
use Rattle.ts_outside.specs.Told.{told_length}
use Rattle.ts_outside.specs.Sink.{SinkView}
use Rattle.ts_outside.specs.Desk.{DeskView, asked_well, asked_in_vain, content, input_closed, output_closed}

-- the desk after the input was opened, and after that failed
abbrev pub asked_input : DeskView → InputConf → DeskView
asked_input desk (input.File name form resync) = asked_well desk Input name
asked_input desk (input.Null count) = desk
asked_input desk (input.TestGen seed count) = desk

abbrev pub asked_input_in_vain : DeskView → InputConf → DeskView
asked_input_in_vain desk (input.File name form resync) = asked_in_vain desk Input name
asked_input_in_vain desk (input.Null count) = desk
asked_input_in_vain desk (input.TestGen seed count) = desk

-- the same of the output
abbrev pub asked_output : DeskView → OutputConf → DeskView
asked_output desk (output.File name) = asked_well desk Output name
asked_output desk output.Drop = desk

abbrev pub asked_output_in_vain : DeskView → OutputConf → DeskView
asked_output_in_vain desk (output.File name) = asked_in_vain desk Output name
asked_output_in_vain desk output.Drop = desk

-- there is something to open
abbrev pub NamesInput : InputConf → Type 0
NamesInput (input.File name form resync) = Unit {0}
NamesInput (input.Null count) = ⊥
NamesInput (input.TestGen seed count) = ⊥

abbrev pub NamesOutput : OutputConf → Type 0
NamesOutput (output.File name) = Unit {0}
NamesOutput output.Drop = ⊥

-- packets are found again in the input
abbrev pub finds_again : InputConf → Bool
finds_again (input.File name form resync) = resync
finds_again (input.Null count) = false
finds_again (input.TestGen seed count) = false

-- so many packets of the generated stream of a seed, of which none was given
abbrev pub IsGenerated : {S : Type 0} → ℕ → ℕ → InputPart S → Type 0
IsGenerated seed count (Generated generator packets) =
    (generator ≡ record { seed = seed; given = 0 }) × (packets ≡ count)
IsGenerated seed count _ = ⊥

-- what is seen of a source of the packets of a file, at their places or found again, before anything was read
abbrev pub packets_view : Bool → Form → SourceView → SourceView
packets_view false form own = form_view form 0 own own
packets_view true form own = record {
  left = option_map (λ file. (found_in form file).bytes) own.left;
  faults = own.faults;
  origin = record { unit = deciding_bytes form; bytes = own.left };
}

-- the part of an input that was opened: the null packets, the generated stream, or a source of the packets of a file.
-- `inner` is what is seen of the file's own source after that one: all bytes of the file are left to it
abbrev pub OpensInput : {S : Type 0} → (S → SourceView) → (S → SourceView) → DeskView → InputConf → InputPart S → Type 0
OpensInput seen inner desk (input.File name form resync) (Stream source) =
    (inner source ≡ record { left = content desk name; faults = 0; origin = own_bytes })
    × (seen source ≡ packets_view resync form (inner source))
    × (told_length (inner source).left < 2 ^ 63)
OpensInput seen inner desk (input.Null count) (Nulls packets) = packets ≡ count
OpensInput seen inner desk (input.TestGen seed count) part = IsGenerated seed count part
OpensInput seen inner desk _ _ = ⊥

-- the source of the packets of an input, if it has one, and the file's own stand to each other; and which gaps were kept
abbrev pub IsThrough : {S : Type 0} → (S → SourceView) → (S → SourceView) → InputPart S → Option KeptGaps → Type 0
IsThrough seen inner (Stream source) kept = EndsAs (seen source) (inner source) kept
IsThrough seen inner (Nulls packets) kept = kept ≡ None
IsThrough seen inner (Generated generator packets) kept = kept ≡ None

-- the part of an output that was opened: a sink of the name that took nothing, or none
abbrev pub OpensOutput : {K : Type 0} → (K → SinkView) → DeskView → OutputConf → OutputPart K → Type 0
OpensOutput seen desk (output.File name) (out.Stream sink) =
    seen sink ≡ record {
      taken = option_map (λ _. []) desk.outputs;
      name = option_map (λ _. name) desk.outputs;
      faults = 0;
    }
OpensOutput seen desk output.Drop out.Discard = Unit {0}
OpensOutput seen desk _ _ = ⊥

-- the desk after the input was closed: what is seen of it is the file's own source
abbrev pub input_closed_as : {S : Type 0} → (S → SourceView) → DeskView → InputPart S → DeskView
input_closed_as inner desk (Stream source) = input_closed desk (inner source)
input_closed_as inner desk (Nulls packets) = desk
input_closed_as inner desk (Generated generator packets) = desk

-- the desk after the output was closed, where that failed or did not
abbrev pub output_closed_as : {K : Type 0} → (K → SinkView) → DeskView → OutputPart K → Bool → DeskView
output_closed_as seen desk (out.Stream sink) failed = output_closed desk (seen sink) failed
output_closed_as seen desk out.Discard failed = desk

-- the output is a sink
abbrev pub WasOpened : {K : Type 0} → OutputPart K → Type 0
WasOpened (out.Stream sink) = Unit {0}
WasOpened out.Discard = ⊥
