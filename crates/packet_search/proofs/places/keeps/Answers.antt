use Rattle.std.proofs.Common.{◌∙◌, ℕ, not, drop, sym, ap}
use Rattle.packet_search.specs.Rule.{is_whole}
use Rattle.packet_search.proofs.Tests.{stays-far, stays-part, stays-else}
use Rattle.packet_search.proofs.places.keeps.Goals as goal

pub returns-then-not-near : goal.returns-then-not-near
returns-then-not-near c = sym (stays-far c.args.form c.args.near c.args.bytes.now c.requires c.if-not-near.true)

pub returns-then-not-is_whole : goal.returns-then-not-is_whole
returns-then-not-is_whole c =
    sym (stays-part c.args.form c.args.near c.args.bytes.now c.requires
    (ap (is_whole c.args.form) (sym (c.from_place.ensures ∙ ap (λ (n : ℕ). drop n c.args.bytes.now) c.unit.ensures)) ∙ sym c.is_whole.ensures ∙ c.if-not-is_whole.true))

pub returns : goal.returns
returns c =
    ap not c.is_cut.ensures
    ∙ sym (stays-else c.args.form c.args.near c.args.bytes.now c.requires c.if-not-near.false
    (ap (is_whole c.args.form) (sym (c.from_place.ensures ∙ ap (λ (n : ℕ). drop n c.args.bytes.now) c.unit.ensures)) ∙ sym c.is_whole.ensures ∙ c.if-not-is_whole.false))
