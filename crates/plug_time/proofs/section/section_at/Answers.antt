use Rattle.std.proofs.Common.{◌∙◌, ap, arith, drop, length, sym}
use Rattle.std.proofs.lemmas.List.{length-drop}
use Rattle.ts_demux.specs.Cut.{size_in_front}
use Rattle.plug_time.proofs.MovedLemmas.{front_is_whole, front_of_place}
use Rattle.plug_time.proofs.section.section_at.Goals as goal

pub returns-clause-whole : goal.returns-clause-whole
returns-clause-whole c =
    let same = front_of_place c.args.bytes.now c.args.at c.args.size c.requires.size in
    ap length same
    ∙ front_is_whole (drop c.args.at c.args.bytes.now) (omega (arith, c.requires.size, c.requires.within, length-drop c.args.at c.args.bytes.now))
    ∙ ap size_in_front (sym same)
