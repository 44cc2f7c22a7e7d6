use Rattle.std.proofs.Common.{◌≡◌, take}
use Rattle.plugin_options.proofs.numbered_parts.NumberedParts.copy.Given as goal

abbrev pub invariant-loop-part : goal.invariant-loop-part
invariant-loop-part l = l.parts.items ≡ take l.part-index l.held
