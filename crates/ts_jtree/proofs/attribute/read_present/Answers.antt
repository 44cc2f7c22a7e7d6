use Rattle.std.proofs.Common.{ℕ, sym, ◌∙◌}
use Rattle.serde_json.specs.View.{view}
use Rattle.ts_jtree.specs.declared.fault.JsonKind.TheVariants.{WrongKind}
use Rattle.ts_jtree.proofs.FaultLemmas.{refusal_stops}
use Rattle.ts_jtree.proofs.NumberLemmas.{present_some, present_none}
use Rattle.ts_jtree.proofs.attribute.read_present.Goals as goal

pub returns-in_default : goal.returns-in_default
returns-in_default c =
    rw (present_none c.args.range c.args.widest c.args.key.now (view c.args.value.now) (sym c.in_default.is ∙ c.number_of_value.ensures))
    (refusal_stops ℕ c.refuse_key.result c.args.key.now WrongKind c.refuse_key.ensures)

pub returns : goal.returns
returns c =
    rw (present_some c.args.range c.args.widest c.args.key.now (view c.args.value.now) c.in-Some.number c.in-Some.ensures c.requires)
    c.check_number.ensures
