use Rattle.std.proofs.lemmas.Str.Pattern.{split_once_first}
use Rattle.plugin_options.proofs.signs.split_at_sign.Goals as goal

pub returns : goal.returns
returns c = split_once_first c.args.sign c.args.text.now c.split_once.result c.split_once.ensures.cases c.requires
