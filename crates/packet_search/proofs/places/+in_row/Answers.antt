use Rattle.std.proofs.Common.{◌-◌, ◌∙◌, ℕ, List, sym, ap, drop, arith}
use Rattle.packet_search.specs.Rule.{in_row}
use Rattle.packet_search.proofs.Units.{row-zero, row-none, row-next}
use Rattle.packet_search.proofs.places.+in_row.Goals as goal

pub returns-then-count-eq0 : goal.returns-then-count-eq0
returns-then-count-eq0 t c = row-zero c.args.form c.args.count c.args.bytes.now c.if-count-eq0.true

pub returns-then-not-is_whole : goal.returns-then-not-is_whole
returns-then-not-is_whole t c =
    row-none c.args.form c.args.count c.args.bytes.now (omega arith) (sym c.is_whole.ensures ∙ c.if-not-is_whole.true)

pub returns : goal.returns
returns t c =
    c.in_row.ensures
    ∙ ap (λ (l : List ℕ). in_row c.args.form (c.args.count - 1) l) (c.from_place.ensures ∙ ap (λ (n : ℕ). drop n c.args.bytes.now) c.unit.ensures)
    ∙ row-next c.args.form c.args.count (c.args.count - 1) c.args.bytes.now (omega arith) (sym c.is_whole.ensures ∙ c.if-not-is_whole.false)
