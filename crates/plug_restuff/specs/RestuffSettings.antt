-- Valid settings of `restuff`. This project's own rule.
use Rattle.std.specs.Prelude.{◌≤◌}
use Rattle.plugin_options.specs.declared.limits.TheConstants.{MOST_WINDOW}
use Rattle.plug_restuff.specs.declared.limits.TheConstants.{LEAST_RATE, MOST_RATE}
use Rattle.plug_restuff.specs.declared.restuff_conf.RestuffConf.{RestuffConf}

-- both rates are from 1,000 to 1,000,000,000, the second is not above the first, and 1 to 100,000 packets may wait
pub record IsValidRestuff (c : RestuffConf) : Type 0 where
  pub least : LEAST_RATE ≤ c.to
  pub lower : c.to ≤ c.from
  pub most : c.from ≤ MOST_RATE
  pub some_packet : 1 ≤ c.window
  pub bounded : c.window ≤ MOST_WINDOW
