use Rattle.std.proofs.Common.{rules}
use Rattle.std.proofs.lemmas.Fn.{filter_same}
use Rattle.search_source.specs.Since.{is_since}
use Rattle.search_source.proofs.noted_source.let_go.Goals as goal

pub returns : goal.returns
returns c = filter_same _ (is_since c.args.from) _ (λ x b f' k. search rules) _ _ c.retain.ensures.filtered
