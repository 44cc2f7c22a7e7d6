use Rattle.std.proofs.Common.{◌≡◌, ◌+◌, ◌∙◌, ℕ, List, Bool, false, ◌++◌, length, drop, refl, sym, ap, arith}
use Rattle.packet_search.specs.Rule.{gives, stays}
use Rattle.packet_search.specs.Search.{search_from}
use Rattle.packet_search.proofs.Settles.{goes-on-more}
use Rattle.packet_search.proofs.finding.find.Goals as goal

pub loop-from-preserved : goal.loop-from-preserved
loop-from-preserved c =
    let from : ℕ = c.loop-from.from in
    let bytes : List ℕ = c.args.bytes.now in
    let beside : Bool = c.loop-from.beside in
    let after : Bool = c.keeps-beside.result in
    let none : gives c.args.form beside (drop from bytes) ≡ false =
    ap (gives c.args.form beside) (sym c.from_place-rest.ensures) ∙ sym c.gives.ensures ∙ c.if-gives.false in
    let after_is : after ≡ stays c.args.form beside (drop from bytes) =
    c.keeps-beside.ensures ∙ ap (stays c.args.form beside) c.from_place-rest.ensures in
    record {
      within = omega arith;
      goes_on = λ left more is_enough.
          goes-on-more c.args.form c.args.near beside after from c.step.result c.args.enough (length bytes) bytes refl c.loop-from.invariant.within
          c.requires (omega arith) none after_is c.step.ensures c.loop-from.invariant.goes_on left more is_enough
          ∙ ap (λ (n : ℕ). search_from c.args.form 0 after (left + (from + n)) (drop (from + n) bytes ++ more)) (sym c.min-from.ensures);
    }

pub loop-from-init : goal.loop-from-init
loop-from-init c = record {
  within = omega arith;
  goes_on = λ left more is_enough. let same : left ≡ left + 0 = omega arith in ap (λ (n : ℕ). search_from c.args.form 0 c.args.near n (c.args.bytes.now ++ more)) same;
}
