use Rattle.std.proofs.Common.{[], IfOk, sym, subst, refl}
use Rattle.plug_psi.specs.ForceStands.{StandsFor}
use Rattle.plug_analyze.specs.AnalyzeRule.{all_pids}
use Rattle.plug_info_state.specs.SdtStands.{HasFedTables}
use Rattle.plug_info_state.proofs.tracker.Tracker.new.Goals as goal

pub returns : goal.returns
returns c = record {
  remembers = c.in_ok-last.ensures all_pids;
  counted = c.in_ok-counts.ensures;
  spans_are = c.in_ok-spans.ensures;
  extent_is = refl;
  has_sdt = subst (λ s. HasFedTables s []) (sym c.in_ok-sdt-2.ensures.first) c.in_ok-sdt.ensures;
  has_others = c.in_ok-others.ensures;
  fed = subst (λ r. IfOk r (λ f. StandsFor f [])) c.in_ok-sdt-2.ensures.second c.new-force.ensures;
}
