use Rattle.std.proofs.Common.{◌∙◌, ap, sym}
use Rattle.clap.specs.Matches.{found_of}
use Rattle.plugin_options.specs.Options.{has_flag, is_by_words}
use Rattle.plugin_options.proofs.ParsedOptionsLemmas.{flag_from}
use Rattle.plugin_options.proofs.parsed_options.ParsedOptions.has_flag.Goals as goal

pub returns : goal.returns
returns c =
    c.is_from_words.ensures ∙ ap is_by_words c.value_source.ensures ∙ sym (flag_from (found_of c.self.inside.matches) c.args.name.now)
    ∙ ap (has_flag c.args.name.now) c.self.view_is
