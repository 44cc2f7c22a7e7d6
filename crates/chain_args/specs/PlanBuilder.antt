-- The parts of a plan while the segments of a command line are read.
-- This project's own rule.
use Rattle.std.specs.Prelude.{◌≡◌, ◌≤◌, ℕ, false, List, [], Option, Some, IfSome, count_by, is_some, length, slice_get, unwrap_or}
use Rattle.std.specs.List.{All, list_any}
use Rattle.plugin_settings.specs.Items.{IsValidItem}
use Rattle.chain_args.specs.ValidPlan.{IsValidInput}
use Rattle.chain_args.specs.PlanOf.{inputs_of, outputs_of, plugins_of}
use Rattle.chain_args.specs.Rules.{most_plugins}
use Rattle.chain_args.specs.Segments.{Segment, is_input, is_output, is_plugin}
use Rattle.chain_args.specs.declared.general_conf.GeneralConf.{GeneralConf}
use Rattle.chain_args.specs.declared.input_conf.InputConf.TheVariants.{File}
use Rattle.packet_forms.specs.declared.forms.Form.TheVariants.{Ts}
use Rattle.chain_args.specs.declared.output_conf.OutputConf.TheVariants as output
use Rattle.chain_args.specs.declared.plan_builder.PlanBuilder.{PlanBuilder}
use Rattle.chain_args.specs.declared.plan_type.Plan.{Plan}
use Rattle.plugin_options.specs.declared.refusal.Refusal.{Refusal}
use Rattle.plugin_options.specs.declared.refusal.Refusal.TheVariants.{Broken, NoMemory}
use Rattle.plugin_options.specs.declared.words_rule.WordsRule.{WordsRule}

-- a segment with a first word and other words
abbrev pub segment : List ℕ → List (List ℕ) → Segment
segment first others = record { first = first; others = others }

-- memory ran out, or the rule is the broken one
abbrev pub RefusesBy : Option WordsRule → Refusal → Type 0
RefusesBy broken (Broken rule) = broken ≡ Some rule
RefusesBy broken NoMemory = Unit {0}

-- the parts are those of these segments, none of which breaks a rule
pub record StandsFor (p : PlanBuilder) (before : List Segment) : Type 0 where
  pub input : p.input ≡ slice_get (inputs_of before) 0
  pub has_input : is_some p.input ≡ list_any is_input before
  pub plugins : p.plugins.items ≡ plugins_of before
  pub plugin_count : length p.plugins.items ≡ count_by is_plugin before
  pub output : p.output ≡ slice_get (outputs_of before) 0
  pub has_output : is_some p.output ≡ list_any is_output before
  pub valid_input : IfSome p.input IsValidInput
  pub valid_plugins : All IsValidItem p.plugins.items
  pub few : length p.plugins.items ≤ most_plugins

-- the plan of the parts, with the standard streams where no input or no output was named
abbrev pub parts_plan : GeneralConf → PlanBuilder → Plan
parts_plan general p = record {
  general = general;
  input = unwrap_or p.input (File [] Ts false);
  plugins = p.plugins.items;
  output = unwrap_or p.output (output.File []);
}
