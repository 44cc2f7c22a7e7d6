-- What `restuff` makes of a whole stream. This project's own rule.
use Rattle.std.specs.Prelude.{◌≡◌, ℕ, ◌+◌, ◌≤◌, List, [], ◌∷◌, ◌++◌, length, Option, option_to_list, if◌then◌else◌}
use Rattle.std.specs.List.{flat_map}
use Rattle.ts_packet.specs.declared.labelled.Labelled.{Labelled}
use Rattle.plug_restuff.specs.RestuffRule.{filled, is_null}
use Rattle.plug_restuff.specs.Slots.{slots_before}
use Rattle.plug_restuff.specs.declared.restuff_conf.RestuffConf.{RestuffConf}
use Rattle.plug_restuff.specs.declared.waiting.Waiting.{Waiting}

-- the packets that are no null packets, in their order, each with its number among all, of which the first has this one
abbrev pub carried_from : ℕ → List Labelled → List Waiting
carried_from number [] = []
carried_from number (row ∷ rows) =
    if is_null row then carried_from (number + 1) rows
    else record { cell = number; row = row } ∷ carried_from (number + 1) rows

-- the packets that are no null packets, each with the number of its cell
abbrev pub carried : List Labelled → List Waiting
carried rows = carried_from 0 rows

-- the packets of slots, of which the first has this number: each has the packet that it takes, moved, or the null packet
abbrev pub filled_from : RestuffConf → ℕ → List (Option Waiting) → List Labelled
filled_from conf slot [] = []
filled_from conf slot (taken ∷ slots) = filled conf slot taken ∷ filled_from conf (slot + 1) slots

-- What is given for the packets that came. Each slot takes one packet or none; the packets that came and are no null
-- packets are those that the slots take, in the order of the slots, and then those that wait, which are not more than may.
pub record IsRestuffed (conf : RestuffConf) (came left : List Labelled) : Type 0 where
  pub slots : List (Option Waiting)
  pub waiting : List Waiting
  pub one_each : length slots ≡ slots_before conf.from conf.to (length came)
  pub in_order : carried came ≡ flat_map option_to_list slots ++ waiting
  pub given : left ≡ filled_from conf 0 slots
  pub bounded : length waiting ≤ conf.window
