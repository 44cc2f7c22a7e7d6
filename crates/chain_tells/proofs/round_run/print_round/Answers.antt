use Rattle.std.proofs.Common.{ℕ, List, subst, sym, ◌∙◌}
use Rattle.std.specs.String.{string_bytes}
use Rattle.ts_outside.specs.Saying.{Says}
use Rattle.chain_tells.proofs.PrintingRoundLemmas.{one-over, one-said, one-wanting}
use Rattle.chain_tells.proofs.round_run.print_round.Goals as goal

pub returns-then-is_over-clause-prints : goal.returns-then-is_over-clause-prints
returns-then-is_over-clause-prints g c = one-over c.args.printing.now.wants c.args.printing.now.failed (g.D.Desk.seen c.args.desk.now) _ (sym c.is_over.ensures ∙ c.if-is_over.true)

pub returns-in-Ok-clause-prints : goal.returns-in-Ok-clause-prints
returns-in-Ok-clause-prints g c =
    one-said c.args.printing.now.wants c.args.printing.now.failed c.say-printing.result (g.D.Desk.seen c.args.desk.now) (g.D.Desk.seen c.say-printing.new.desk) (string_bytes c.in-Ok.text) _
    (sym c.is_over.ensures ∙ c.if-is_over.false) c.in-Ok.ensures.text
    (subst (λ (text : List ℕ). Says (g.D.Desk.seen c.args.desk.now) (g.D.Desk.seen c.say-printing.new.desk) text c.say-printing.result) c.as_str.ensures.value c.say-printing.ensures)

pub returns-in-Err-clause-prints : goal.returns-in-Err-clause-prints
returns-in-Err-clause-prints g c = one-wanting c.args.printing.now.wants c.args.printing.now.failed (g.D.Desk.seen c.args.desk.now) _ (sym c.is_over.ensures ∙ c.if-is_over.false)
