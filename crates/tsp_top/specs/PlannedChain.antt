-- The chain that a plan asks for, over the tables of its plugins and files by name. This project's own rule.
use Rattle.std.specs.Prelude.{◌≡◌, ℕ, suc, Bool, true, false, List, [], ◌∷◌, ◌++◌, if◌then◌else◌, Option, None, Some}
use Rattle.plugin_settings.specs.declared.plugin_item.PluginItem.{PluginItem}
use Rattle.plugin_settings.specs.Plugins.{name_of, uses_joint}
use Rattle.plugin_settings.specs.Items.{rule_of_item}
use Rattle.chain_args.specs.declared.plan_type.Plan.{Plan}
use Rattle.chain_args.specs.declared.general_conf.GeneralConf.{GeneralConf}
use Rattle.chain_args.specs.declared.input_conf.InputConf.{InputConf}
use Rattle.chain_args.specs.declared.input_conf.InputConf.TheVariants as input
use Rattle.chain_args.specs.declared.output_conf.OutputConf.{OutputConf}
use Rattle.chain_args.specs.declared.output_conf.OutputConf.TheVariants as output
use Rattle.chain_model.specs.InputList.{InputList, input_of_bytes, input_of_nulls}
use Rattle.stage_run.specs.GeneratedInput.{input_of_generated}
use Rattle.chain_model.specs.Stuffed.{Stuffing, stuffed}
use Rattle.chain_model.specs.Reports.{NamedRule}
use Rattle.chain_model.specs.PureRun.{Chain}
use Rattle.ts_outside.specs.Desk.{file_of}
use Rattle.packet_forms.specs.declared.forms.Form.{Form}
use Rattle.packet_forms.specs.Stripped.{stripped}
use Rattle.search_source.specs.Coming.{found_in}
use Rattle.tsp_top.specs.LeftOut.{LeftOut}

-- the stuffing of the general options
abbrev pub stuffing_of : GeneralConf → Stuffing
stuffing_of general = record {
  start = general.add_start_stuffing;
  stop = general.add_stop_stuffing;
  null = general.add_input_stuffing.0;
  every = general.add_input_stuffing.1;
}

-- the bytes of the packets of a file: those at their places, without the bytes before and after each; or those that are
-- found again
abbrev pub bytes_of_packets : Bool → Form → List ℕ → List ℕ
bytes_of_packets false form file = stripped form file
bytes_of_packets true form file = (found_in form file).bytes

-- what an input gives: its packets, and what is left out of its file where they are found again
pub record GivenInput : Type 0 where
  pub list : InputList
  pub left_out : Option LeftOut

-- of an input of which nothing is left out
abbrev pub all_of : InputList → GivenInput
all_of list = record { list = list; left_out = None }

-- what is left out of a file whose packets are found again
abbrev pub left_out_of : Bool → Form → List ℕ → Option LeftOut
left_out_of false form file = None
left_out_of true form file = Some (record { form = form; gaps = (found_in form file).gaps; behind = (found_in form file).behind })

-- of a file with these bytes
abbrev pub given_of : Bool → Form → List ℕ → GivenInput
given_of resync form file = record { list = input_of_bytes (bytes_of_packets resync form file); left_out = left_out_of resync form file }

-- the input's packets: those of the bytes of its file, null packets, or those of a generated stream
abbrev pub input_of : InputConf → List (List ℕ × List ℕ) → GivenInput
input_of (input.File name form resync) files = given_of resync form (file_of files name)
input_of (input.Null count) files = all_of (input_of_nulls count)
input_of (input.TestGen seed count) files = all_of (input_of_generated seed count)

-- the number of a plugin, if it uses joint termination
abbrev pub user_at : ℕ → PluginItem → List ℕ
user_at j item = if uses_joint item.conf then j ∷ [] else []

-- the numbers of the plugins that use joint termination, the least first, where the first plugin has this number
abbrev pub users_from : ℕ → List PluginItem → List ℕ
users_from j [] = []
users_from j (item ∷ items) = user_at j item ++ users_from (suc j) items

-- the stages of a plan that use joint termination: none where the plan ignores it
abbrev pub users_of : Plan → List ℕ
users_of plan = if plan.general.ignore_joint_termination then [] else users_from 1 plan.plugins

-- a plugin: the rule of its settings over these sections, of the packets that it sees, and its name
abbrev pub named_rule_of : PluginItem → List (List ℕ) → NamedRule
named_rule_of item table = record { rule = rule_of_item item table; name = name_of item.conf }

-- the first of tables, which is of no section where there is none, and those after it
abbrev pub first_table : List (List (List ℕ)) → List (List ℕ)
first_table [] = []
first_table (table ∷ tables) = table

abbrev pub later_tables : List (List (List ℕ)) → List (List (List ℕ))
later_tables [] = []
later_tables (table ∷ tables) = tables

-- plugins, each with the sections at its place
abbrev pub named_rules : List PluginItem → List (List (List ℕ)) → List NamedRule
named_rules [] tables = []
named_rules (item ∷ items) tables = named_rule_of item (first_table tables) ∷ named_rules items (later_tables tables)

-- the chain of a plan over what its input gives
abbrev pub chain_on : Plan → List (List (List ℕ)) → GivenInput → Chain
chain_on plan tables given = record {
  input = stuffed (stuffing_of plan.general) given.list;
  plugins = named_rules plan.plugins tables;
  users = users_of plan;
}

-- the chain of a plan
abbrev pub chain_of : Plan → List (List (List ℕ)) → List (List ℕ × List ℕ) → Chain
chain_of plan tables files = chain_on plan tables (input_of plan.input files)

-- what the input of a file gives, where the files are known or not: the packets of its bytes; where they are not known and
-- packets are found again, those of some bytes, since not all bytes are packets that are found in a file, and so is what is
-- left out
abbrev pub GivesFile : Bool → Option (List (List ℕ × List ℕ)) → GivenInput → GivenInput → Type 0
GivesFile true None known given =
    (bytes : List ℕ) × (left_out : LeftOut) × (given ≡ record { list = input_of_bytes bytes; left_out = Some left_out })
GivesFile _ told known given = given ≡ known

-- what an input gives over these files, which are those that are known
abbrev pub GivesInput : InputConf → Option (List (List ℕ × List ℕ)) → List (List ℕ × List ℕ) → GivenInput → Type 0
GivesInput (input.File name form resync) told files given = GivesFile resync told (input_of (input.File name form resync) files) given
GivesInput conf told files given = given ≡ input_of conf files

-- what is opened for the input and for the output: nothing for null packets and a generated stream, and nothing to drop
-- packets
abbrev pub input_name : InputConf → Option (List ℕ)
input_name (input.File name form resync) = Some name
input_name (input.Null count) = None
input_name (input.TestGen seed count) = None

abbrev pub output_name : OutputConf → Option (List ℕ)
output_name (output.File name) = Some name
output_name output.Drop = None
