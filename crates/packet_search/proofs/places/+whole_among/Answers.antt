use Rattle.std.proofs.Common.{◌≡◌, ◌+◌, ◌-◌, ◌∙◌, ℕ, Bool, if◌then◌else◌, drop, sym, ap, arith}
use Rattle.packet_forms.specs.Stripped.{unit}
use Rattle.packet_search.specs.Rule.{whole_among}
use Rattle.packet_search.proofs.Units.{among-next, among-zero}
use Rattle.packet_search.proofs.places.+whole_among.Goals as goal

pub returns-then-count-eq0-clause-among : goal.returns-then-count-eq0-clause-among
returns-then-count-eq0-clause-among t c = among-zero c.args.form c.args.count c.args.bytes.now c.if-count-eq0.true

pub returns-then-is_whole-clause-among : goal.returns-then-is_whole-clause-among
returns-then-is_whole-clause-among t c =
    let rest : c.whole_among-rest.result ≡ whole_among c.args.form (c.args.count - 1) (drop (unit c.args.form) c.args.bytes.now) =
    c.whole_among-rest.ensures.among ∙ ap (whole_among c.args.form (c.args.count - 1)) (c.from_place.ensures ∙ ap (λ (n : ℕ). drop n c.args.bytes.now) c.unit.ensures) in
    ap (λ (k : ℕ). 1 + k) rest
    ∙ ap (λ (b : Bool). (if b then 1 else 0) + whole_among c.args.form (c.args.count - 1) (drop (unit c.args.form) c.args.bytes.now)) (sym (sym c.is_whole.ensures ∙ c.if-is_whole.true))
    ∙ among-next c.args.form c.args.count (c.args.count - 1) c.args.bytes.now (omega arith)

pub returns-clause-among : goal.returns-clause-among
returns-clause-among t c =
    let rest : c.whole_among-rest.result ≡ whole_among c.args.form (c.args.count - 1) (drop (unit c.args.form) c.args.bytes.now) =
    c.whole_among-rest.ensures.among ∙ ap (whole_among c.args.form (c.args.count - 1)) (c.from_place.ensures ∙ ap (λ (n : ℕ). drop n c.args.bytes.now) c.unit.ensures) in
    let none : c.whole_among-rest.result ≡ 0 + c.whole_among-rest.result = omega arith in
    none ∙ ap (λ (k : ℕ). 0 + k) rest
    ∙ ap (λ (b : Bool). (if b then 1 else 0) + whole_among c.args.form (c.args.count - 1) (drop (unit c.args.form) c.args.bytes.now)) (sym (sym c.is_whole.ensures ∙ c.if-is_whole.false))
    ∙ among-next c.args.form c.args.count (c.args.count - 1) c.args.bytes.now (omega arith)
