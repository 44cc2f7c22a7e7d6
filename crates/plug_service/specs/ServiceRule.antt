-- The rules of `zap` and `svremove`.
-- This project's own rule, over the cycles of edited contents and sections that are edited as they pass. Which services are
-- meant depends on the SDT in force at a packet's position, and what becomes of the packet on them, the PAT and the PMTs in
-- force there, the position included.
use Rattle.std.specs.Prelude.{ℕ, Bool, List, [], ◌∷◌, ◌++◌, Option, Some, None}
use Rattle.ts_packet.specs.Cells.{live_packets}
use Rattle.ts_packet.specs.Header.{pid_of}
use Rattle.chain_model.specs.PluginRule.{PluginRule}
use Rattle.plugin_trait.specs.Actions.{action}
use Rattle.plugin_trait.specs.Finding.{finds_none}
use Rattle.plugin_trait.specs.SilentRule.{silent_rule}
use Rattle.plug_psi.specs.InUse.{replaced_as}
use Rattle.varied_edits.specs.VariedPids.{replaced_where}
use Rattle.section_flow.specs.Flow as flowing
use Rattle.named_services.specs.declared.service_word.ServiceWord.{ServiceWord}
use Rattle.plug_service.specs.Actions.{edits_pmt, action_after}
use Rattle.plug_service.specs.Presence.{finds_service}
use Rattle.plug_service.specs.ServiceEdits.{eit_edit, nit_edit, pat_edit, pmt_edit, sdt_edit}
use Rattle.plug_service.specs.declared.way.Way.{Way}
use Rattle.plug_service.specs.declared.way.Way.TheVariants.{Keep, Remove}
use Rattle.plug_service.specs.declared.action.Action.{Action}
use Rattle.plug_service.specs.declared.action.Action.TheVariants.{EditPat, EditSdt, EditNit, EditEit, EditPmt, Pass, Drop}
use Rattle.plug_service.specs.declared.svremove_conf.SvremoveConf.{SvremoveConf}
use Rattle.plug_service.specs.declared.zap_conf.ZapConf.{ZapConf}

-- Whether the packets of a PID are edited as those of PMTs at the last of some packets of any PID: a service that is kept has
-- its PMT there. The packets on the PID for which this holds are those that the edit of PMTs takes. On
-- PID 0 and PID 17 all packets are taken, so are those on PID 16 and PID 18 if NITs and EIT sections are edited, and on PID 8191
-- none.
abbrev pub is_edited : Way → List ServiceWord → ℕ → List (List ℕ) → Bool
is_edited way words pid packets = edits_pmt (action_after way words packets pid)

-- the packet in place of another, by what becomes of that one, after the packets before; none if it does not pass
abbrev pub made_by : Way → List ServiceWord → Action → List (List ℕ) → List ℕ → Option (List ℕ)
made_by way words EditPat before packet = Some (replaced_as 0 (pat_edit way words) before packet)
made_by way words EditSdt before packet = Some (replaced_as 17 (sdt_edit way words) before packet)
made_by way words EditNit before packet = Some (replaced_as 16 (nit_edit way words) before packet)
made_by way words EditEit before packet = Some (flowing.replaced 18 (eit_edit way words) before packet)
made_by way words EditPmt before packet = Some (replaced_where (is_edited way words) (pid_of packet) (pmt_edit way words) before packet)
made_by way words Pass before packet = Some packet
made_by way words Drop before packet = None

-- the packet in place of another, after the packets before
abbrev pub made_of : Way → List ServiceWord → List (List ℕ) → List ℕ → Option (List ℕ)
made_of way words before packet =
    made_by way words (action_after way words (before ++ packet ∷ []) (pid_of packet)) before packet

-- Services are kept alone, or removed; a packet that does not pass is dropped, or becomes a null packet. A run has a fault
-- in which none of the services ever was there.
abbrev pub service_rule : Way → List ServiceWord → Bool → PluginRule
service_rule way words stuffing =
    record (silent_rule (λ history packet. action stuffing (made_of way words (live_packets history) packet))) {
      has_fault = finds_none (finds_service way words);
    }

-- the rule of `zap`
abbrev pub zap_rule : ZapConf → PluginRule
zap_rule conf = service_rule (Keep conf.kept) conf.service.services conf.service.stuffing

-- the rule of `svremove`
abbrev pub svremove_rule : SvremoveConf → PluginRule
svremove_rule conf = service_rule (Remove conf.everywhere) conf.service.services conf.service.stuffing
