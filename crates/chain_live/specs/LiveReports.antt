-- What a run prints while it goes: the lines in the order of positions, those at one position in the order of the stages,
-- the input first; after the end the summaries in the order of the stages, then the end line. This project's own rule.
use Rattle.std.specs.Prelude.{ℕ, zero, suc, ◌==◌, nat_lt, Bool, List, [], ◌∷◌, ◌++◌, map, filter, take, drop}
use Rattle.std.specs.List.{flat_map}
use Rattle.ts_packet.specs.declared.cell.Cell.{Cell}
use Rattle.ts_packet.specs.Cells.{Live, Dropped}
use Rattle.chain_model.specs.declared.cause.Cause.{Cause}
use Rattle.chain_model.specs.PluginRule.{PluginRule}
use Rattle.chain_model.specs.StageLists.{stage_list}
use Rattle.chain_model.specs.Reports.{NamedRule, plugin_line, plugin_report, end_line}
use Rattle.chain_model.specs.PureRun.{Chain, chain_rules}

-- a line as it is printed: the position of its packet, the number of its plugin, counted from 1 (the input has the number 0),
-- the plugin's name, and the text
pub record LiveLine : Type 0 where
  pub at : ℕ
  pub plugin : ℕ
  pub name : List ℕ
  pub text : List ℕ

-- the lines that a rule gives on the cell that comes after a history: a dropped cell has none
abbrev pub lines_on : PluginRule → List Cell → Cell → List (List ℕ)
lines_on rule history (Live packet labels) = rule.lines_of history packet labels
lines_on rule history Dropped = []

-- the lines of a rule at a position of the list that it meets: none past its end
abbrev pub lines_at : PluginRule → List Cell → ℕ → List (List ℕ)
lines_at rule cells p = flat_map (lines_on rule (take p cells)) (take 1 (drop p cells))

-- texts as lines of the plugin after `j` others, at one position
abbrev pub told_at : ℕ → ℕ → List ℕ → List (List ℕ) → List LiveLine
told_at p j name texts = map (λ text. record { at = p; plugin = suc j; name = name; text = text }) texts

-- the lines at position `p` of these plugins, of which the first comes after `j` others; the plugin after `j` others met
-- the cells `met j`
abbrev pub lines_from : (ℕ → List Cell) → ℕ → ℕ → List NamedRule → List LiveLine
lines_from met p j [] = []
lines_from met p j (plugin ∷ rest) =
    told_at p j plugin.name (lines_at plugin.rule (met j) p) ++ lines_from met p (suc j) rest

-- the lines of the input at a position, which come in front of those of plugin 1: no input reports
abbrev pub input_lines : ℕ → List LiveLine
input_lines p = []

-- the lines of the input and of these plugins at the positions below `m`, position by position
abbrev pub lines_to : (ℕ → List Cell) → List NamedRule → ℕ → List LiveLine
lines_to met plugins zero = []
lines_to met plugins (suc p) = lines_to met plugins p ++ (input_lines p ++ lines_from met p 0 plugins)

-- the list that the plugin after `j` others meets in a run without faults
abbrev pub list_met : Chain → ℕ → List Cell
list_met chain j = (stage_list (chain_rules chain) chain.input j).cells

-- the lines of a chain at the positions below `m`
abbrev pub lines_below : Chain → ℕ → List LiveLine
lines_below chain m = lines_to (list_met chain) chain.plugins m

-- a line as it stands in the report: `[<j>] <name>: <text>`
abbrev pub line_bytes : LiveLine → List ℕ
line_bytes line = plugin_line line.plugin line.name line.text

-- what is printed once the packets before position `m` are written: the same however they came to be written
abbrev pub printed_below : Chain → ℕ → List ℕ
printed_below chain m = flat_map line_bytes (lines_below chain m)

-- the summaries of these plugins over the first `m` cells that each met
abbrev pub summaries_from : (ℕ → List Cell) → ℕ → ℕ → List NamedRule → List ℕ
summaries_from met m j [] = []
summaries_from met m j (plugin ∷ rest) =
    plugin_report (suc j) plugin.name (plugin.rule.summary_of (take m (met j))) ++ summaries_from met m (suc j) rest

-- all that is printed of a run that was cut at `m` for this cause
abbrev pub live_reported : Chain → ℕ → Cause → List ℕ
live_reported chain m cause =
    printed_below chain m
    ++ (summaries_from (list_met chain) m 0 chain.plugins ++ end_line cause m)

-- the line is of the plugin of this number
abbrev pub is_of : ℕ → LiveLine → Bool
is_of j line = line.plugin == j

-- the line is of a packet before this position
abbrev pub is_before : ℕ → LiveLine → Bool
is_before m line = nat_lt line.at m

-- the texts of a plugin's lines among these, in their order
abbrev pub texts_of : ℕ → List LiveLine → List (List ℕ)
texts_of j lines = map (λ line. line.text) (filter (is_of j) lines)

-- the report that is printed after the end, made of the lines of the live one: for each plugin its lines among these, then
-- its summary
abbrev pub sorted_from : List LiveLine → (ℕ → List Cell) → ℕ → ℕ → List NamedRule → List ℕ
sorted_from lines met m j [] = []
sorted_from lines met m j (plugin ∷ rest) =
    plugin_report (suc j) plugin.name (texts_of (suc j) lines ++ plugin.rule.summary_of (take m (met j)))
    ++ sorted_from lines met m (suc j) rest
