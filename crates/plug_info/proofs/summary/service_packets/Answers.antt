use Rattle.std.proofs.Common.{◌≡◌, ◌+◌, ℕ, Bool, ap, ◌∙◌, refl, if◌then◌else◌, arith}
use Rattle.std.specs.Prelude.{option_map}
use Rattle.std.specs.List.{fold}
use Rattle.std.specs.Option.{option_copied}
use Rattle.ts_packet.specs.Cells.{live_packets}
use Rattle.ts_packet.specs.declared.numbers.TheConstants.{PID_COUNT}
use Rattle.ts_psi.specs.PsiTables.{pmt_held}
use Rattle.plugin_notes.specs.PidPackets.{numbers_below, packets_on}
use Rattle.plug_info.specs.InfoRule.{has_component}
use Rattle.plug_info.proofs.ServiceLemmas.{sum_more}
use Rattle.plug_info.proofs.summary.service_packets.Goals as goal

pub loop-pid-init : goal.loop-pid-init
unfolding numbers_below
loop-pid-init c = λ cells w. refl

pub loop-pid-preserved : goal.loop-pid-preserved
loop-pid-preserved c = λ cells w.
    sum_more (has_component (option_map pmt_held (option_copied c.args.pmt))) (live_packets cells) c.loop-pid.pid _ _ _ _
    (c.packets-all.ensures cells w.counted) (c.loop-pid.invariant cells w)
    (c.packets_if.ensures cells w ∙ ap (λ (b : Bool). if b then packets_on c.loop-pid.pid (live_packets cells) else 0) c.has_component.ensures)
    c.plus-packets.ensures

pub returns : goal.returns
returns c = λ cells w.
    let there : c.loop-pid.pid ≡ PID_COUNT = omega (arith, c.loop-pid-test.false, c.loop-pid.auto.pid-end) in
    c.loop-pid.invariant cells w
    ∙ ap (λ (k : ℕ). fold (λ n q. n + (if has_component (option_map pmt_held (option_copied c.args.pmt)) q then packets_on q (live_packets cells) else 0)) 0 (numbers_below k)) there
