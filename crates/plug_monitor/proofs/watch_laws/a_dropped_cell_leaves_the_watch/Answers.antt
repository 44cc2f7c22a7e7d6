use Rattle.std.proofs.Common.{sym, subst, ◌∙◌}
use Rattle.plug_clock.proofs.Ticking.{clock-dropped}
use Rattle.plug_psi.specs.ReferredStands.{StandsFor}
use Rattle.monitor_services.proofs.Naming.{dropped-more}
use Rattle.plug_monitor.specs.MonitorErrors.{gap_units}
use Rattle.plug_monitor.proofs.Watching.{second-dropped, third-dropped}
use Rattle.plug_monitor.proofs.watch_laws.a_dropped_cell_leaves_the_watch.Goals as goal

pub returns : goal.returns
returns c = λ conf watch history has.
    let law = c.a_dropped_cell_leaves_the_priorities.ensures in
    record {
      clocked = has.clocked ∙ sym (clock-dropped conf.pcr_pid history);
      referred = subst (StandsFor watch.referred) (sym (dropped-more history)) has.referred;
      first = law.first (gap_units conf) conf.pcr_pid watch.first history has.first;
      second = second-dropped conf watch.second history (λ kept is. law.second conf.bitrate conf.pcr_pid kept history is) has.second;
      third = third-dropped conf watch.third history (λ kept is. law.third conf.pcr_pid kept history is) has.third;
    }
