use Rattle.std.proofs.Common.{ℕ, ap₂, ◌∙◌}
use Rattle.plug_info_state.specs.EitSections.{eit_of}
use Rattle.plug_info_texts.specs.declared.eit_numbers.EitNumbers.{EitNumbers}
use Rattle.plug_info_state.proofs.eit_counts.EitCounts.of.Goals as goal

pub returns : goal.returns
unfolding eit_of
returns c = λ fed w.
    ap₂ (λ (a b : ℕ). let e : EitNumbers = record { present = a; schedule = b } in e)
    (c.of.ensures ∙ w.present_are c.args.id) (c.of-2.ensures ∙ w.schedule_are c.args.id)
