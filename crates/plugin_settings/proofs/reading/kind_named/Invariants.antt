use Rattle.std.proofs.Common.{◌≡◌, drop}
use Rattle.std.specs.Prelude.{find}
use Rattle.std.specs.Str.{bytes_eq}
use Rattle.plugin_settings.specs.Plugins.{name_of_kind}
use Rattle.plugin_settings.proofs.reading.kind_named.Given as goal

abbrev pub invariant-loop-kind : goal.invariant-loop-kind
invariant-loop-kind l = find (λ kind. bytes_eq l.name (name_of_kind kind)) (drop l.kind-index l.kinds) ≡ find (λ kind. bytes_eq l.name (name_of_kind kind)) l.kinds
