use Rattle.std.proofs.Common.{◌≡◌, take, map}
use Rattle.serde_json.specs.View.{view}
use Rattle.ts_json_tables.specs.TableElements.{section_shown}
use Rattle.ts_json_tables.proofs.items.sections_json.Given as goal

abbrev pub invariant-loop-payload : goal.invariant-loop-payload
invariant-loop-payload l = map view l.nodes.items ≡ map section_shown (map (λ p. p.items) (take l.payload-index l.payloads))
