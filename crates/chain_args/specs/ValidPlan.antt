-- Valid plans.
-- This project's own rule.
use Rattle.std.specs.Prelude.{ℕ, ◌≤◌, length, IfSome}
use Rattle.std.specs.List.{All}
use Rattle.plugin_settings.specs.Items.{IsValidItem}
use Rattle.plugin_options.specs.declared.limits.TheConstants.{MOST_PACKETS}
use Rattle.chain_args.specs.Rules.{most_plugins}
use Rattle.chain_args.specs.declared.general_conf.GeneralConf.{GeneralConf}
use Rattle.chain_args.specs.declared.input_conf.InputConf.{InputConf}
use Rattle.chain_args.specs.declared.input_conf.InputConf.TheVariants.{File, Null, TestGen}
use Rattle.chain_args.specs.declared.plan_type.Plan.{Plan}

-- a size of 1 to 1,000,000 packets
abbrev pub IsValidSize : ℕ → Type 0
IsValidSize n = (1 ≤ n) × (n ≤ 1000000)

-- each number of the general options is in its range, where it is given
pub record IsValidGeneral (c : GeneralConf) : Type 0 where
  pub start_stuffing : c.add_start_stuffing ≤ 1000000
  pub stop_stuffing : c.add_stop_stuffing ≤ 1000000
  pub nulls : c.add_input_stuffing.0 ≤ 1000
  pub every : 1 ≤ c.add_input_stuffing.1
  pub at_most_every : c.add_input_stuffing.1 ≤ 1000000
  pub buffer : IfSome c.buffer_packets IsValidSize
  pub flushed : IfSome c.max_flushed_packets IsValidSize
  pub input : IfSome c.max_input_packets IsValidSize

-- `null` and `testgen` have at most 2^40 packets
abbrev pub IsValidInput : InputConf → Type 0
IsValidInput (File name form resync) = Unit {0}
IsValidInput (Null count) = count ≤ MOST_PACKETS
IsValidInput (TestGen seed count) = count ≤ MOST_PACKETS

pub record IsValidPlan (p : Plan) : Type 0 where
  pub general : IsValidGeneral p.general
  pub input : IsValidInput p.input
  pub plugins : All IsValidItem p.plugins
  pub few : length p.plugins ≤ most_plugins
