use Rattle.std.proofs.Common.{sym, ap, ◌∙◌}
use Rattle.std.specs.Prelude.{nat_eq, option_map}
use Rattle.std.specs.Map.{lookup}
use Rattle.ts_psi.specs.PsiTables.{pmt_held}
use Rattle.plug_psi.specs.InForce.{current_pmt}
use Rattle.plug_psi.proofs.FoundLemmas.{found-more}
use Rattle.plug_psi.proofs.kept_pmts.KeptPmtsFollowsTables.take.Goals as goal

pub returns-clause-stands : goal.returns-clause-stands
returns-clause-stands c = λ seed pid taken has completes service.
    found-more (current_pmt service) _ _ _ c.args.tables.items pid taken c.args._packet.now c.as_slice.ensures.value (c.in_ok-came.ensures.kept service) (has service) completes

pub returns-clause-tells : goal.returns-clause-tells
returns-clause-tells c = λ seed pid taken has completes service. record {
  completes = completes;
  same = λ none.
      sym (found-more (current_pmt service) _ _ _ c.args.tables.items pid taken c.args._packet.now c.as_slice.ensures.value (c.in_ok-came.ensures.kept service) (has service) completes)
      ∙ ap (λ entries. option_map pmt_held (lookup (nat_eq service) entries)) (c.in_ok-came.ensures.same none) ∙ has service;
}
