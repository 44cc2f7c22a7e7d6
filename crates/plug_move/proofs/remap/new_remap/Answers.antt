use Rattle.std.proofs.Common.{ℕ, List, [], ap, subst, sym, zero-le}
use Rattle.plugin_trait.proofs.FindLemmas.{find-first}
use Rattle.plug_move.specs.RemapState.{MapperStands}
use Rattle.plug_move.proofs.StepLemmas.{same-rule}
use Rattle.plug_move.proofs.remap.new_remap.Goals as goal

pub returns-clause-rule : goal.returns-clause-rule
returns-clause-rule c = same-rule c.in_ok-of.field-0 _ c.args.conf.now c.in_ok-of.ensures c.in_ok-tables_of.ensures.none

pub returns-clause-fresh : goal.returns-clause-fresh
returns-clause-fresh c = (
  (
    subst (λ (pairs : List (ℕ × ℕ)). MapperStands pairs c.in_ok-tables_of.field-0 []) (sym (ap (λ t. t.0) c.in_ok-of.ensures)) c.in_ok-tables_of.ensures.fresh,
    find-first _ _ c.none.ensures,
  ),
  zero-le,
)
