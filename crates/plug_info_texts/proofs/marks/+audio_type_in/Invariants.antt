use Rattle.std.proofs.Common.{length}
use Rattle.plug_info_texts.proofs.marks.+audio_type_in.Given as goal

-- four bytes are after it each time
abbrev pub decreases-audio_type_in : goal.decreases-audio_type_in
decreases-audio_type_in l = length l.body.now
