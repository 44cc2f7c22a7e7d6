use Rattle.std.proofs.Common.{◌∙◌, refl}
use Rattle.clap.proofs.WalkLemmas.{both}
use Rattle.plugin_options.proofs.ParsedOptionsLemmas.{found_from, kinds_from, refused_from, taken_from}
use Rattle.plugin_options.proofs.parsed_options.ParsedOptions.of.Goals as goal

pub returns-in-Ok : goal.returns-in-Ok
returns-in-Ok c = (
  taken_from _ _ (c.in-Ok.ensures.kinds c.requires),
  (c.in-Ok.ensures.matches (both _ _ c.requires).0).0 ∙ found_from _ _,
)

pub returns : goal.returns
returns c = (
  refl,
  refused_from _ _ (kinds_from _ c.in-Err.error (c.in-Err.ensures.kinds c.requires) (λ e. c.in_default.not-OutOfMemory (c.kind.ensures ∙ e))),
)
