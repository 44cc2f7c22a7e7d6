use Rattle.std.proofs.Common.{ap, sym, subst, ◌∙◌}
use Rattle.ts_packet.specs.Cells.{live_packets}
use Rattle.plug_clock.proofs.Ticking.{clock-live}
use Rattle.plug_psi.specs.ReferredStands.{StandsFor}
use Rattle.monitor_keys.specs.declared.span.Span.{Span}
use Rattle.monitor_services.proofs.Naming.{live-more}
use Rattle.plug_monitor.specs.MonitorErrors.{gap_units}
use Rattle.plug_monitor.proofs.Watching.{all-told}
use Rattle.plug_monitor.proofs.watch.Watch.meet.Goals as goal

pub returns-clause-stands : goal.returns-clause-stands
returns-clause-stands c = λ conf history labels w count.
    let span = c.to-span.ensures.follows conf.pcr_pid history w.clocked (sym count) in
    let referred = c.in_ok-feed.ensures.stands (live_packets history) w.referred in
    let forced = c.in_force-force.ensures _ referred in
    record {
      clocked = ap (λ (s : Span). s.after) span ∙ sym (clock-live conf.pcr_pid history c.args.packet.now labels);
      referred = subst (StandsFor c.feed.new.self) (sym (live-more history c.args.packet.now labels)) referred;
      first = c.in_ok-meet.ensures.stands (gap_units conf) conf.pcr_pid history labels w.first span forced;
      second = c.in_ok-meet_second.ensures.stands conf history labels w.second span forced;
      third = c.in_ok-meet_third.ensures.stands conf history labels w.third span referred;
    }

pub returns-clause-gives : goal.returns-clause-gives
returns-clause-gives c = λ conf history w count.
    let span = c.to-span.ensures.follows conf.pcr_pid history w.clocked (sym count) in
    let referred = c.in_ok-feed.ensures.stands (live_packets history) w.referred in
    let forced = c.in_force-force.ensures _ referred in
    all-told conf history c.args.packet.now _ _ _ _ c.new-errors.ensures.items
    (c.in_ok-meet.ensures.tells (gap_units conf) conf.pcr_pid history w.first span forced)
    (c.in_ok-meet_second.ensures.tells conf history w.second span forced)
    (c.in_ok-meet_third.ensures.tells conf history w.third span referred)
