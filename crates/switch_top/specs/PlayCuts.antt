-- The end of a play, with the bytes that are left out of its file. This project's own rule.
use Rattle.chain_model.specs.declared.input_end.InputEnd.TheVariants as how
use Rattle.chain_plays.specs.declared.played.PlayEnd.{PlayEnd}
use Rattle.chain_plays.specs.declared.played.PlayEnd.TheVariants.{Input, WriteFault}
use Rattle.switch_top.specs.declared.played_cut.PlayedEnd.{PlayedEnd}
use Rattle.switch_top.specs.declared.played_cut.PlayedEnd.TheVariants as played

-- the end of a play that the code's own type stands for
abbrev pub end_of : PlayedEnd → PlayEnd
end_of (played.Plain left_out) = Input (how.End left_out)
end_of (played.Sync packet) = Input (how.Sync packet)
end_of played.ReadFault = Input how.ReadFault
end_of played.TooLong = Input how.TooLong
end_of played.WriteFault = WriteFault
