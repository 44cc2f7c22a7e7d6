use Rattle.std.proofs.Common.{◌∙◌, ℕ, drop, ap}
use Rattle.packet_search.proofs.Units.{held-is}
use Rattle.packet_search.proofs.places.is_held.Goals as goal

pub returns : goal.returns
returns c =
    held-is c.args.form c.args.bytes.now c.from_place.result.now c.whole_among.result
    (c.from_place.ensures ∙ ap (λ (n : ℕ). drop n c.args.bytes.now) c.unit.ensures) c.whole_among.ensures.among
