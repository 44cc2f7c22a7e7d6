use Rattle.std.proofs.Common.{length}
use Rattle.plugin_options.proofs.word_list.+are_known.Given as goal

abbrev pub decreases-are_known : goal.decreases-are_known
decreases-are_known l = length l.text.now
