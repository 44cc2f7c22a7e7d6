-- The rule of `tables`. This project's own rule.
use Rattle.std.specs.Prelude.{ℕ, List, [], ◌∷◌, ◌++◌, length, map, filter, Bool, false, ◌==◌, codes, if◌then◌else◌}
use Rattle.std.specs.Fmt.{decimal}
use Rattle.serde_json.specs.Written.{compact_text}
use Rattle.ts_packet.specs.declared.cell.Cell.{Cell}
use Rattle.ts_packet.specs.Cells.{live_packets}
use Rattle.ts_packet.specs.Header.{pid_of}
use Rattle.ts_section.specs.SectionFields.{table_id_of}
use Rattle.ts_json_tables.specs.RunTables.{table_of_run}
use Rattle.ts_json_tables.specs.TableElements.{table_shown}
use Rattle.chain_model.specs.PluginRule.{PluginRule, passes}
use Rattle.plugin_options.specs.Selection.{is_selected}
use Rattle.plug_tables.specs.declared.tables_conf.TablesConf.{TablesConf}
use Rattle.plug_tables.specs.WatchedPackets.{Choice, tables_with, usual}

-- the choice of PIDs that the settings make
abbrev pub choice_of : List (ℕ × ℕ) → Choice
choice_of pids = if length pids == 0 then usual else record { listed = pids; follows = false }

-- the table_id of a table
abbrev pub id_of : List (List ℕ) → ℕ
id_of [] = 0
id_of (section ∷ sections) = table_id_of section

-- the table is one of those that are reported
abbrev pub is_told : List (ℕ × ℕ) → List (List ℕ) → Bool
is_told tids table = is_selected tids false (id_of table)

-- the canonical text of the JSON element of a table
abbrev pub element_text : List (List ℕ) → List ℕ
element_text table = compact_text (table_shown (table_of_run table))

-- `packet <position> pid <pid> <element>`
abbrev pub table_text : ℕ → ℕ → List (List ℕ) → List ℕ
table_text at pid table = codes "packet " ++ (decimal at ++ (codes " pid " ++ (decimal pid ++ (codes " " ++ element_text table))))

-- the lines of tables that are complete with a packet at a position
abbrev pub table_texts : List (ℕ × ℕ) → ℕ → ℕ → List (List (List ℕ)) → List (List ℕ)
table_texts tids at pid tables = map (table_text at pid) (filter (is_told tids) tables)

-- the lines of a packet after a history
abbrev pub lines_on : Choice → List (ℕ × ℕ) → List Cell → List ℕ → List (List ℕ)
lines_on choice tids history packet =
    table_texts tids (length history) (pid_of packet) (tables_with choice (live_packets history) packet)

-- every packet passes, and each table that is reported has its line at the packet that completes it
abbrev pub rule_with : Choice → List (ℕ × ℕ) → PluginRule
rule_with choice tids = record {
  outcome_of = λ _ packet _. passes packet;
  labels_of = λ _ _ labels. labels;
  lines_of = λ history packet _. lines_on choice tids history packet;
  summary_of = λ _. [];
  agrees = λ _. false;
  has_fault = λ _. false;
}

-- the rule that the settings make
abbrev pub tables_rule : TablesConf → PluginRule
tables_rule conf = rule_with (choice_of conf.pid) conf.tid
