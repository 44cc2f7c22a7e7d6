use Rattle.std.proofs.Common.{rules}
use Rattle.std.specs.Prelude.{not}
use Rattle.std.proofs.lemmas.Fn.{filter_same}
use Rattle.plugin_options.specs.NumberSet.{has_number}
use Rattle.plug_edit.proofs.change_program.remove_tags.Goals as goal

pub returns : goal.returns
returns c = filter_same _ (λ d. not (has_number c.args.tags.now d.tag)) _ (λ x b f' k. search rules) _ _ c.retain.ensures.filtered
