use Rattle.std.proofs.Common.{ℕ, List, inl, refl, subst, ◌∙◌}
use Rattle.tsp_top.proofs.tables.refuse_table.Goals as goal
use Rattle.ts_outside.specs.Saying.{Says}

pub returns-in-Ok : goal.returns-in-Ok
returns-in-Ok g c = inl (
  c.say.result,
  refl,
  subst (λ (text : List ℕ). Says (g.D.Desk.seen c.args.desk.now) (g.D.Desk.seen c.say.new.desk) text c.say.result) (c.as_str.ensures.value ∙ c.in-Ok.ensures) c.say.ensures,
)
