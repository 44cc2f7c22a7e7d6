use Rattle.std.proofs.Common.{◌∙◌, ap}
use Rattle.clap.specs.Matches.{found_of}
use Rattle.plugin_options.specs.Options.{value_of}
use Rattle.plugin_options.proofs.ParsedOptionsLemmas.{value_from}
use Rattle.plugin_options.proofs.parsed_options.ParsedOptions.value.Goals as goal

pub returns : goal.returns
returns c = c.get_str.ensures ∙ value_from (found_of c.self.inside.matches) c.args.name.now ∙ ap (value_of c.args.name.now) c.self.view_is
