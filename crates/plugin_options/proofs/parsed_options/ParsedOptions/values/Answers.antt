use Rattle.std.proofs.Common.{◌∙◌, [], ap}
use Rattle.std.specs.Prelude.{unwrap_or}
use Rattle.clap.specs.Matches.{found_of}
use Rattle.plugin_options.proofs.ParsedOptionsLemmas.{values_from}
use Rattle.plugin_options.specs.Options.{values_of}
use Rattle.plugin_options.proofs.parsed_options.ParsedOptions.values.Goals as goal

pub returns : goal.returns
returns c =
    ap (λ o. unwrap_or o []) c.get_strs.ensures ∙ values_from (found_of c.self.inside.matches) c.args.name.now ∙ ap (values_of c.args.name.now) c.self.view_is
