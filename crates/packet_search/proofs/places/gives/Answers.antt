use Rattle.std.proofs.Common.{◌∙◌, not, sym, ap}
use Rattle.packet_search.proofs.Runs.{gives-row}
use Rattle.packet_search.proofs.Tests.{gives-far, gives-part, gives-else}
use Rattle.packet_search.proofs.places.gives.Goals as goal

pub returns-then-in_row : goal.returns-then-in_row
returns-then-in_row c = sym (gives-row c.args.form c.args.near c.args.bytes.now (sym c.in_row.ensures ∙ c.if-in_row.true))

pub returns-then-not-near : goal.returns-then-not-near
returns-then-not-near c = sym (gives-far c.args.form c.args.near c.args.bytes.now (sym c.in_row.ensures ∙ c.if-in_row.false) c.if-not-near.true)

pub returns-then-not-is_whole : goal.returns-then-not-is_whole
returns-then-not-is_whole c =
    sym (gives-part c.args.form c.args.near c.args.bytes.now (sym c.in_row.ensures ∙ c.if-in_row.false) (sym c.is_whole.ensures ∙ c.if-not-is_whole.true))

pub returns : goal.returns
returns c =
    ap not c.is_cut.ensures
    ∙ sym (gives-else c.args.form c.args.near c.args.bytes.now (sym c.in_row.ensures ∙ c.if-in_row.false) c.if-not-near.false (sym c.is_whole.ensures ∙ c.if-not-is_whole.false))
