use Rattle.std.proofs.Common.{◌++◌, ap, ◌∙◌}
use Rattle.ts_psi.specs.PsiTables.{component_item}
use Rattle.monitor_services.specs.Components.{sounding_pid}
use Rattle.monitor_services.proofs.Adding.{item-added}
use Rattle.monitor_services.proofs.component_pids.add_sounding.Goals as goal

pub loop-component-preserved : goal.loop-component-preserved
loop-component-preserved c = (
  item-added sounding_pid component_item c.loop-component.numbers.items c.add_component.new.numbers.items _ c.args.components.now c.loop-component.component-index c.component-item.result
      c.loop-component-test.true
      (c.in_ok-add_component.ensures.added ∙ ap (λ s. c.loop-component.numbers.items ++ sounding_pid (component_item s)) c.component-item.is)
      c.loop-component.invariant.0,
  λ all. c.in_ok-add_component.ensures.below (c.loop-component.invariant.1 all),
)
