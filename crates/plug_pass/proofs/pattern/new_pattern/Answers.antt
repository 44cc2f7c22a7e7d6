use Rattle.std.proofs.Common.{ℕ, List, ap, sym, ◌∙◌, zero-le}
use Rattle.plug_pass.specs.PatternRule.{repeated}
use Rattle.plug_pass.specs.PatternState.{IsMade}
use Rattle.plug_pass.proofs.pattern.new_pattern.Goals as goal

pub returns-clause-rule : goal.returns-clause-rule
returns-clause-rule c = rw (c.in_ok-copy.ensures, c.in_ok-of.ensures)

pub returns-clause-fresh : goal.returns-clause-fresh
returns-clause-fresh c =
    let made : IsMade c.filled_with.result c.in_ok-copy.field-0 c.args.conf.now.offset_pusi c.args.conf.now.offset_non_pusi = record {
      is_filled = c.filled_with.ensures ∙ ap (λ (p : List ℕ). repeated p 184) (c.as_slice.ensures ∙ sym c.in_ok-copy.ensures);
      first = c.requires.with_start;
      second = c.requires.without_start;
    } in
    (made, zero-le)
