use Rattle.std.proofs.Common.{rules}
use Rattle.std.specs.Prelude.{not}
use Rattle.std.specs.List.{list_any}
use Rattle.std.proofs.lemmas.Fn.{filter_same}
use Rattle.plug_edit.specs.PmtChanges.{is_named}
use Rattle.plug_edit.proofs.change_components.remove_named.Goals as goal

pub returns : goal.returns
returns c = filter_same _ (λ d. not (list_any (is_named c.args.pid d.tag) c.args.pairs.now)) _ (λ x b f' k. search rules) _ _ c.retain.ensures.filtered
