use Rattle.std.proofs.Common.{length}
use Rattle.plugin_options.proofs.word_list.+has_part.Given as goal

abbrev pub decreases-has_part : goal.decreases-has_part
decreases-has_part l = length l.text.now
