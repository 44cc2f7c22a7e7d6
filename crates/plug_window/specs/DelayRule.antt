-- The rule of a plugin that outputs an earlier packet instead of the current one. This project's own rule.
use Rattle.std.specs.Prelude.{ℕ, List, [], ◌∷◌, ◌++◌, Bool, Option, None, Some, map, option_map, option_to_list}
use Rattle.ts_packet.specs.declared.cell.Cell.{Cell}
use Rattle.ts_packet.specs.declared.labelled.Labelled.{Labelled}
use Rattle.ts_packet.specs.Cells.{Live}
use Rattle.ts_packet.specs.Labels.{no_labels}
use Rattle.ts_packet.specs.LiveRows.{labelled, live_rows}
use Rattle.chain_model.specs.PluginRule.{PluginRule}
use Rattle.chain_model.specs.Stuffed.{null_cells}
use Rattle.plugin_trait.specs.Actions.{action}
use Rattle.plugin_trait.specs.SilentRule.{silent_rule_with}

-- the packet that is output, if there is one
abbrev pub given_packet : Option Labelled → Option (List ℕ)
given_packet given = option_map (λ row. row.packet) given

-- the labels of the place afterwards: those that the packet had when it came in, or the place's own if none is output
abbrev pub labels_left : ℕ → Option Labelled → ℕ
labels_left labels None = labels
labels_left labels (Some row) = row.labels

-- with each packet the rule passes what is output given the packets before it; dropped cells do not count
abbrev pub delay_rule : Bool → (List Labelled → Labelled → Option Labelled) → PluginRule
delay_rule stuffing given = silent_rule_with
    (λ history packet labels. action stuffing (given_packet (given (live_rows history) (labelled packet labels))))
    (λ history packet labels. labels_left labels (given (live_rows history) (labelled packet labels)))

-- what is output, in turn, with each of the items that come after others
abbrev pub all_given : {X : Type 0} → (List X → X → Option X) → List X → List X → List X
all_given given before [] = []
all_given given before (x ∷ xs) = option_to_list (given before x) ++ all_given given (before ++ x ∷ []) xs

-- packets as the input gives them, without labels, followed by `n` null packets
abbrev pub with_nulls_after : ℕ → List (List ℕ) → List Cell
with_nulls_after n packets = map (λ packet. Live packet no_labels) packets ++ null_cells n
