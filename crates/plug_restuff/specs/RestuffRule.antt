-- The rule of `restuff`. This project's own rule, over the null packets of ISO/IEC 13818-1, 2.4.3.3.
use Rattle.std.specs.Prelude.{ℕ, ◌+◌, ◌==◌, nat_le, List, [], ◌∷◌, ◌++◌, length, drop, slice_get, Bool, not, ◌&&◌, Option, None, Some, if◌then◌else◌}
use Rattle.ts_packet.specs.declared.labelled.Labelled.{Labelled}
use Rattle.ts_packet.specs.declared.numbers.TheConstants.{NULL_PID}
use Rattle.ts_packet.specs.Header.{pid_of}
use Rattle.ts_packet.specs.Labels.{no_labels}
use Rattle.ts_packet.specs.LiveRows.{labelled, live_rows}
use Rattle.ts_packet.specs.Packet.{null_packet}
use Rattle.chain_model.specs.declared.reason.Reason.TheVariants.{Pid}
use Rattle.chain_model.specs.PluginRule.{PluginRule, RuleOutcome, passes, drops, refuses}
use Rattle.plugin_trait.specs.SilentRule.{silent_rule_with}
use Rattle.plug_restuff.specs.MovedClock.{moved_packet}
use Rattle.plug_restuff.specs.Slots.{is_slot, slots_before}
use Rattle.plug_restuff.specs.declared.restuff_conf.RestuffConf.{RestuffConf}
use Rattle.plug_restuff.specs.declared.waiting.Waiting.{Waiting}

-- the packet is a null packet: its PID is 8191
abbrev pub is_null : Labelled → Bool
is_null row = pid_of row.packet == NULL_PID

-- ---- what waits

-- the packet of a cell waits after the others, unless it is a null packet
abbrev pub with_came : ℕ → Labelled → List Waiting → List Waiting
with_came cell row waiting = if is_null row then waiting else waiting ++ record { cell = cell; row = row } ∷ []

-- what still waits after a cell: a slot takes the first
abbrev pub left_after : RestuffConf → ℕ → List Waiting → List Waiting
left_after conf cell waiting = if is_slot conf.from conf.to cell then drop 1 waiting else waiting

-- what waits after these packets, of which the first is in this cell, where some wait before
abbrev pub waits_from : RestuffConf → ℕ → List Waiting → List Labelled → List Waiting
waits_from conf cell waiting [] = waiting
waits_from conf cell waiting (row ∷ rows) =
    waits_from conf (cell + 1) (left_after conf cell (with_came cell row waiting)) rows

-- what waits after these packets, which are the first ones
abbrev pub waits_after : RestuffConf → List Labelled → List Waiting
waits_after conf rows = waits_from conf 0 [] rows

-- ---- what is given

-- a packet cannot wait: it is no null packet, and as many wait already as may
abbrev pub is_refused : ℕ → List Waiting → Labelled → Bool
is_refused window waiting row = not (is_null row) && nat_le window (length waiting)

-- what fills a slot: the packet that waits, with its labels and its clock moved; where none does, the null packet, without
-- labels
abbrev pub filled : RestuffConf → ℕ → Option Waiting → Labelled
filled conf slot None = labelled null_packet no_labels
filled conf slot (Some first) =
    labelled (moved_packet conf.from conf.to first.cell slot first.row.packet) first.row.labels

-- what is put in a cell, where these packets wait, its own with them: where it is a slot, the one that has waited longest
abbrev pub put_in : RestuffConf → ℕ → List Waiting → Option Labelled
put_in conf cell waiting =
    if is_slot conf.from conf.to cell then Some (filled conf (slots_before conf.from conf.to cell) (slice_get waiting 0))
    else None

-- what is put in the cell of a packet after these ones
abbrev pub given : RestuffConf → List Labelled → Labelled → Option Labelled
given conf rows row = put_in conf (length rows) (with_came (length rows) row (waits_after conf rows))

-- ---- the rule

-- the packet passes that is put in a cell; where none is, the cell's own is dropped
abbrev pub outcome_of : Option Labelled → RuleOutcome
outcome_of None = drops
outcome_of (Some row) = passes row.packet

-- and the labels that the cell has then
abbrev pub labels_of : ℕ → Option Labelled → ℕ
labels_of labels None = labels
labels_of labels (Some row) = row.labels

-- what becomes of a packet after these ones
abbrev pub restuffed : RestuffConf → List Labelled → Labelled → RuleOutcome
restuffed conf rows row =
    if is_refused conf.window (waits_after conf rows) row then refuses (Pid (pid_of row.packet))
    else outcome_of (given conf rows row)

-- the stream is the live packets alone: cells that were dropped before have no number here
abbrev pub restuff_rule : RestuffConf → PluginRule
restuff_rule conf = silent_rule_with
    (λ history packet labels. restuffed conf (live_rows history) (labelled packet labels))
    (λ history packet labels. labels_of labels (given conf (live_rows history) (labelled packet labels)))
