-- Which regular files may be opened beside those that are open. This project's own rule: no file is read and written at once.
use Rattle.std.specs.Prelude.{◌==◌, Bool, false, not, ◌&&◌, ◌||◌, ◌++◌, List, Option, map}
use Rattle.std.specs.List.{list_any, find, before_first, after_first}
use Rattle.std.specs.Option.{option_map, unwrap_or}
use Rattle.ts_os.specs.declared.file_id.FileId.{FileId}
use Rattle.ts_os.specs.declared.open_files.OpenFiles.{OpenFiles}
use Rattle.ts_os.specs.declared.open_files.OpenOutput.{OpenOutput}

-- two names stand for one file: it has one device and one number there
abbrev pub same_file : FileId → FileId → Bool
same_file a b = (a.device == b.device) && (a.number == b.number)

-- a file is one of these
abbrev pub is_one_of : List FileId → FileId → Bool
is_one_of files wanted = list_any (λ file. same_file file wanted) files

-- a file is that of one of these names; a name that has none is `None`
abbrev pub is_named : List (Option FileId) → FileId → Bool
is_named named wanted = list_any (λ file. unwrap_or (option_map (λ it. same_file it wanted) file) false) named

-- a file may be opened as an output: it is not open as an input, and not protected
abbrev pub may_write : OpenFiles → FileId → Bool
may_write files wanted = not (is_one_of files.inputs.items wanted) && not (is_named files.protected.items wanted)

-- a file is open as one of these outputs
abbrev pub is_output : List OpenOutput → FileId → Bool
is_output outputs wanted = list_any (λ output. same_file output.file wanted) outputs

-- a file may be opened as an input: it is not open as an output
abbrev pub may_read : OpenFiles → FileId → Bool
may_read files wanted = not (is_output files.outputs.items wanted)

-- the outputs, once a file was asked for as an input: that is noted where the file is open as an output
abbrev pub asked_for : FileId → List OpenOutput → List OpenOutput
asked_for wanted outputs =
    map (λ output. record { file = output.file; wanted = output.wanted || same_file output.file wanted }) outputs

-- a file that is open as an output was asked for as an input
abbrev pub was_asked_for : FileId → List OpenOutput → Bool
was_asked_for closed outputs =
    unwrap_or (option_map (λ output. output.wanted) (find (λ output. same_file output.file closed) outputs)) false

-- the inputs without the first that is this file; the others stay as they are, in their order
abbrev pub without_input : FileId → List FileId → List FileId
without_input closed inputs =
    before_first (λ file. same_file file closed) inputs ++ after_first (λ file. same_file file closed) inputs

-- the outputs without the first that is this file; the others stay as they are, in their order
abbrev pub without_output : FileId → List OpenOutput → List OpenOutput
without_output closed outputs =
    before_first (λ output. same_file output.file closed) outputs ++ after_first (λ output. same_file output.file closed) outputs
