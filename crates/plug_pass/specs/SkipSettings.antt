-- Valid settings of `skip`.
-- This project's own rule.
use Rattle.std.specs.Prelude.{◌≤◌}
use Rattle.plugin_options.specs.declared.limits.TheConstants.{MOST_PACKETS}
use Rattle.plug_pass.specs.declared.skip_conf.SkipConf.{SkipConf}

-- the settings give what `skip` needs, each number in its range, and no two that exclude each other
pub record IsValidSkip (c : SkipConf) : Type 0 where
  pub bounded : c.operand ≤ MOST_PACKETS
