use Rattle.std.proofs.Common.{◌∙◌, ap, map, sym}
use Rattle.std.specs.String.{string_bytes}
use Rattle.chain_args.specs.Inputs.{input_kind_named}
use Rattle.chain_args.proofs.PlanBuilderLemmas.{input_added}
use Rattle.chain_args.proofs.plan_builder.PlanBuilder.add_input.Goals as goal

pub returns : goal.returns
returns c = λ before stands.
    input_added c.args.self.now before (map string_bytes c.args.others.now) (map string_bytes c.in-Some.own.now) (string_bytes c.in-Some.name.now) c.in-Some-of.kind c.in_ok-read.field-0 stands
    (sym c.is_some.ensures ∙ c.if-is_some.false)
    (ap (map string_bytes) c.in-Some.ensures.cases.0)
    (c.in-Some-of.ensures ∙ ap input_kind_named c.as_str.ensures.value)
    c.in_ok-read.ensures.reads c.in_ok-read.ensures.valid
