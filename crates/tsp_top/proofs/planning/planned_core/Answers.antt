use Rattle.std.proofs.Common.{◌≡◌, List, length, ap}
use Rattle.plugin_settings.specs.declared.plugin_item.PluginItem.{PluginItem}
use Rattle.tsp_top.proofs.PlanningLemmas.{users-are-plugins}
use Rattle.tsp_top.proofs.planning.planned_core.Goals as goal

pub returns : goal.returns
returns c =
    let count : length c.as_slice.result.now ≡ length c.args.plan.now.plugins = ap (λ (l : List PluginItem). length l) c.as_slice.ensures in
    record {
      valid = record {
        plugins = rw count c.requires.few;
        some_buffer = c.planned_buffer.ensures.some;
        buffer = c.planned_buffer.ensures.bound;
        most = c.planned_batch.ensures.some;
        users = rw (c.planned_users.ensures, count) (users-are-plugins c.args.plan.now.general.ignore_joint_termination c.args.plan.now.plugins);
      };
      plugins = count;
      buffer = c.planned_buffer.ensures.size;
      most = c.planned_batch.ensures.size;
      users = c.planned_users.ensures;
    }
