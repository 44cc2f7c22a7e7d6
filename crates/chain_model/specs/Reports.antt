-- What a run reports: each plugin's lines and its summary over the cells that count, then the end line.
-- This project's own rule.
use Rattle.std.specs.Prelude.{ℕ, suc, List, [], ◌∷◌, ◌++◌, take, map, codes, ◌==◌, if◌then◌else◌}
use Rattle.std.specs.List.{flat_map}
use Rattle.std.specs.Fmt.{decimal}
use Rattle.ts_packet.specs.declared.cell.Cell.{Cell}
use Rattle.ts_packet.specs.Cells.{Live, Dropped}
use Rattle.chain_model.specs.declared.input_end.InputEnd.{InputEnd}
use Rattle.chain_model.specs.declared.input_end.InputEnd.TheVariants.{End, Sync, ReadFault, TooLong}
use Rattle.chain_model.specs.Reasons.{refused_pid}
use Rattle.chain_model.specs.declared.cause.Cause.{Cause}
use Rattle.chain_model.specs.declared.cause.Cause.TheVariants.{Input, Joint, Until, Stop, Refuse, WriteFault, NoMemory}
use Rattle.chain_model.specs.PluginRule.{PluginRule}
use Rattle.chain_model.specs.Apply.{StageList}
use Rattle.chain_model.specs.StageLists.{stage_list}

-- the lines that a rule gives on the live cells after a history, in the order of their positions
abbrev pub lines_after : PluginRule → List Cell → List Cell → List (List ℕ)
lines_after rule history [] = []
lines_after rule history (Live packet labels ∷ cells) =
    rule.lines_of history packet labels ++ lines_after rule (history ++ Live packet labels ∷ []) cells
lines_after rule history (Dropped ∷ cells) = lines_after rule (history ++ Dropped ∷ []) cells

-- what a plugin reports of the cells that count: its lines, then its summary
abbrev pub said_of : PluginRule → List Cell → List (List ℕ)
said_of rule cells = lines_after rule [] cells ++ rule.summary_of cells

-- a line of plugin `j` as it is printed: `[<j>] <name>: <text>`
abbrev pub plugin_line : ℕ → List ℕ → List ℕ → List ℕ
plugin_line j name text = codes "[" ++ (decimal j ++ (codes "] " ++ (name ++ (codes ": " ++ (text ++ 10 ∷ [])))))

-- all lines of plugin `j`, joined
abbrev pub plugin_report : ℕ → List ℕ → List (List ℕ) → List ℕ
plugin_report j name texts = flat_map (plugin_line j name) texts

-- a plugin of a chain: what it is, and its name in the reports
pub record NamedRule : Type 0 where
  pub rule : PluginRule
  pub name : List ℕ

-- what the plugins of a chain are
abbrev pub rules_of : List NamedRule → List PluginRule
rules_of plugins = map (λ plugin. plugin.rule) plugins

-- the reports of plugin `j` and those after it: each over the first `m` cells of the list that it meets
abbrev pub reports_from : List PluginRule → StageList → ℕ → ℕ → List NamedRule → List ℕ
reports_from rules input m j [] = []
reports_from rules input m j (plugin ∷ rest) =
    plugin_report (suc j) plugin.name (said_of plugin.rule (take m (stage_list rules input j).cells))
    ++ reports_from rules input m (suc j) rest

-- why the input ended, and then the rest of the line
abbrev pub input_reason : InputEnd → List ℕ → List ℕ
input_reason (End left) rest = codes "input" ++ rest
input_reason (Sync packet) rest = codes "lost sync at input packet " ++ (decimal packet ++ rest)
input_reason ReadFault rest = codes "read fault" ++ rest
input_reason TooLong rest = codes "too long" ++ rest

-- the cause, and then the rest of the line
abbrev pub reason_text : Cause → List ℕ → List ℕ
reason_text (Input how) rest = input_reason how rest
reason_text Joint rest = codes "joint termination" ++ rest
reason_text (Until j) rest = codes "until of plugin " ++ (decimal j ++ rest)
reason_text (Stop j) rest = codes "plugin " ++ (decimal j ++ (codes " stopped" ++ rest))
reason_text (Refuse j reason) rest =
    codes "plugin " ++ (decimal j ++ (codes " refused PID " ++ (decimal (refused_pid reason) ++ rest)))
reason_text WriteFault rest = codes "write fault" ++ rest
reason_text (NoMemory k) rest = codes "no memory" ++ rest

-- the bytes that are left out after the last whole packet, if there are any, and then the rest of the line
abbrev pub left_out : Cause → List ℕ → List ℕ
left_out (Input (End left)) rest =
    if left == 0 then rest else codes ", " ++ (decimal left ++ (codes " bytes left out" ++ rest))
left_out _ rest = rest

-- the last line of each report; `m` counts positions, dropped ones too
abbrev pub end_line : Cause → ℕ → List ℕ
end_line cause m =
    codes "end: " ++ reason_text cause (codes " after " ++ (decimal m ++ (codes " packets" ++ left_out cause (10 ∷ []))))

-- what is reported of a run that was cut at `m` for this cause
abbrev pub reports : List NamedRule → StageList → ℕ → Cause → List ℕ
reports plugins input m cause = reports_from (rules_of plugins) input m 0 plugins ++ end_line cause m
