-- The plan of the words.
-- This project's own rule.
use Rattle.std.specs.Prelude.{ℕ, false, List, [], None, Option, Some, if◌then◌else◌, is_some, option_map, slice_get, unwrap_or}
use Rattle.std.specs.List.{filter_map}
use Rattle.plugin_settings.specs.declared.plugin_item.PluginItem.{PluginItem}
use Rattle.chain_args.specs.General.{general}
use Rattle.chain_args.specs.Inputs.{options_of_input}
use Rattle.chain_args.specs.Outputs.{options_of_output}
use Rattle.plugin_settings.specs.Items.{options_of_item}
use Rattle.plugin_options.specs.OptionTable.{settings_of}
use Rattle.chain_args.specs.Rules.{first_word_fault}
use Rattle.chain_args.specs.Segments.{Segment, general_words, input_of, output_of, own_words, plugin_of, segments}
use Rattle.chain_args.specs.declared.input_conf.InputConf.{InputConf}
use Rattle.chain_args.specs.declared.input_conf.InputConf.TheVariants.{File}
use Rattle.packet_forms.specs.declared.forms.Form.TheVariants.{Ts}
use Rattle.chain_args.specs.declared.output_conf.OutputConf.{OutputConf}
use Rattle.chain_args.specs.declared.output_conf.OutputConf.TheVariants as output
use Rattle.chain_args.specs.declared.plan_type.Plan.{Plan}

-- the settings of a segment, where it names an input, a plugin, an output
abbrev pub input_made : Segment → Option InputConf
input_made s = option_map (λ k. settings_of (options_of_input k) (own_words s)) (input_of s)

abbrev pub plugin_made : Segment → Option PluginItem
plugin_made s = option_map (λ k. settings_of (options_of_item k) (own_words s)) (plugin_of s)

abbrev pub output_made : Segment → Option OutputConf
output_made s = option_map (λ k. settings_of (options_of_output k) (own_words s)) (output_of s)

-- the settings of the inputs, the plugins and the outputs of segments, in their order
abbrev pub inputs_of : List Segment → List InputConf
inputs_of = filter_map input_made

abbrev pub plugins_of : List Segment → List PluginItem
plugins_of = filter_map plugin_made

abbrev pub outputs_of : List Segment → List OutputConf
outputs_of = filter_map output_made

-- the plan of words that break no rule
abbrev pub plan_made : List (List ℕ) → Plan
plan_made words = record {
  general = settings_of general (general_words words);
  input = unwrap_or (slice_get (inputs_of (segments words)) 0) (File [] Ts false);
  plugins = plugins_of (segments words);
  output = unwrap_or (slice_get (outputs_of (segments words)) 0) (output.File []);
}

-- the plan of the words; none where a rule is broken
unfoldable pub plan_of : List (List ℕ) → Option Plan
plan_of words = if is_some (first_word_fault words) then None else Some (plan_made words)
