-- The rule of `eit`.
-- This project's own rule: the sections on PID 18 are edited as they pass, each by itself. Which service is meant depends on the
-- SDT in force with the packet that completes a section.
use Rattle.std.specs.Prelude.{ℕ, ◌&&◌, Bool, List, [], ◌∷◌, ◌++◌, nat_eq, if◌then◌else◌}
use Rattle.std.specs.List.{list_any}
use Rattle.ts_packet.specs.declared.cell.Cell.{Cell}
use Rattle.ts_packet.specs.Cells.{live_packets}
use Rattle.ts_packet.specs.Header.{pid_of}
use Rattle.chain_model.specs.PluginRule.{PluginRule, passes}
use Rattle.plugin_trait.specs.Finding.{finds_none}
use Rattle.plugin_trait.specs.SilentRule.{silent_rule}
use Rattle.section_flow.specs.Flow.{Edit, alters, completed_by, replaced}
use Rattle.followed_services.specs.ServiceNumbers.{number_after}
use Rattle.plug_eit.specs.EitEdit.{edited_section}
use Rattle.plug_eit.specs.declared.eit_conf.EitConf.{EitConf}
use Rattle.plug_eit.specs.declared.numbers.TheConstants.{EIT_PID}

-- what becomes of a section, after the packets of any PID that were met, with that which completes it
abbrev pub eit_edit : EitConf → Edit
eit_edit conf = λ met. edited_section conf (number_after conf.service met)

-- a packet is on the PID of EITs
abbrev pub is_eit : List ℕ → Bool
is_eit packet = nat_eq (pid_of packet) EIT_PID

-- the packet in place of another, after the packets before: each on PID 18 gives way to the next one of the edited sections there
abbrev pub made_of : EitConf → List (List ℕ) → List ℕ → List ℕ
made_of conf before packet = if is_eit packet then replaced EIT_PID (eit_edit conf) before packet else packet

-- a packet completes a section that the edit changes or removes, after the packets before
abbrev pub alters_with : EitConf → List (List ℕ) → List ℕ → Bool
alters_with conf before packet =
    is_eit packet && list_any (alters (eit_edit conf (before ++ packet ∷ []))) (completed_by EIT_PID before packet)

-- the same after cells
abbrev pub finds_altered : EitConf → List Cell → List ℕ → ℕ → Bool
finds_altered conf history packet labels = alters_with conf (live_packets history) packet

-- the rule of `eit`: every packet passes; a run has a fault in which no section came that the edit changes or removes
abbrev pub eit_rule : EitConf → PluginRule
eit_rule conf =
    record (silent_rule (λ history packet. passes (made_of conf (live_packets history) packet))) {
      has_fault = finds_none (finds_altered conf);
    }
