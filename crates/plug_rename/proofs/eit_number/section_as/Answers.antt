use Rattle.std.proofs.Common.{arith}
use Rattle.plug_rename.proofs.SectionLemmas.{of-head}
use Rattle.plug_rename.proofs.eit_number.section_as.Goals as goal

pub long-requires-clause-room : goal.long-requires-clause-room
long-requires-clause-room c =
    omega (arith, c.body.ensures.long_size (of-head c.args.section.now c.args.head c.requires.head).0, c.body.ensures.valid.in_range)
