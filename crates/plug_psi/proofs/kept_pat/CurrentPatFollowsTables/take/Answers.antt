use Rattle.std.proofs.Common.{sym, ap, ◌∙◌}
use Rattle.std.specs.Prelude.{option_map}
use Rattle.ts_psi.specs.PatTables.{pat_held}
use Rattle.plug_psi.specs.InForce.{current_pat}
use Rattle.plug_psi.proofs.FoundLemmas.{found-more}
use Rattle.plug_psi.proofs.kept_pat.CurrentPatFollowsTables.take.Goals as goal

pub returns-clause-stands : goal.returns-clause-stands
returns-clause-stands c = λ seed pid taken has completes.
    found-more current_pat _ _ _ c.args.tables.items pid taken c.args._packet.now c.as_slice.ensures.value c.in_ok-came.ensures.kept has completes

pub returns-clause-tells : goal.returns-clause-tells
returns-clause-tells c = λ seed pid taken has completes. record {
  completes = completes;
  same = λ none.
      sym (found-more current_pat _ _ _ c.args.tables.items pid taken c.args._packet.now c.as_slice.ensures.value c.in_ok-came.ensures.kept has completes)
      ∙ ap (option_map pat_held) (c.in_ok-came.ensures.same none) ∙ has;
}
