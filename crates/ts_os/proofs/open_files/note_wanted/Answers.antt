use Rattle.std.proofs.Common.{◌<◌, ◌||◌, length, false, Bool, ap, ◌∙◌, arith, get_or, set}
use Rattle.std.proofs.lemmas.List.{get_or_default}
use Rattle.std.proofs.lemmas.List.Edits.{map_over_more}
use Rattle.ts_os.specs.declared.open_files.OpenOutput.{OpenOutput}
use Rattle.ts_os.specs.OpenFiles.{same_file}
use Rattle.ts_os.proofs.open_files.note_wanted.Goals as goal

pub loop-output-preserved : goal.loop-output-preserved
loop-output-preserved c =
    let none : OpenOutput = record { file = record { device = 0; number = 0 }; wanted = false } in
    let output : OpenOutput = get_or c.loop-output.outputs c.loop-output.output-index none in
    let within : c.loop-output.output-index < length c.loop-output.outputs = omega (arith, c.loop-output.auto.outputs, c.loop-output-test.true) in
    ap (λ (b : Bool). set c.loop-output.outputs c.loop-output.output-index record { file = output.file; wanted = output.wanted || b }) c.eq.ensures
    ∙ map_over_more (λ (it : OpenOutput). record { file = it.file; wanted = it.wanted || same_file it.file c.args.asked })
    c.args.outputs.now c.loop-output.outputs c.loop-output.output-index output
    c.loop-output-test.true c.loop-output.invariant
    (get_or_default c.loop-output.outputs c.loop-output.output-index none output within)
