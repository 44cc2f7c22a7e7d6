-- The rule of `info`: what is in a stream, on one screen. This project's own rule, over the header fields of ISO/IEC
-- 13818-1, 2.4.3.2, the tables of 2.4.4.3 and 2.4.4.8, and the NIT, BATs, SDT and EITs of ETSI EN 300 468, 5.2.
use Rattle.std.specs.Prelude.{ℕ, ◌+◌, ◌==◌, ◌&&◌, Bool, false, not, List, [], ◌∷◌, ◌++◌, length, map, filter, fold, count_by, drop, Option, unwrap_or, if◌then◌else◌}
use Rattle.std.specs.List.{flat_map, list_any}
use Rattle.ts_packet.specs.declared.cell.Cell.{Cell}
use Rattle.ts_packet.specs.declared.numbers.TheConstants.{NULL_PID, PID_COUNT}
use Rattle.ts_packet.specs.Cells.{live_packets}
use Rattle.ts_packet.specs.Header.{error_indicator_of}
use Rattle.ts_table_rows.specs.BodyReading.{first_number}
use Rattle.ts_table_rows.specs.TableValues.{ItemHolding, TableHolding}
use Rattle.chain_model.specs.PluginRule.{PluginRule, passes}
use Rattle.plugin_notes.specs.PidPackets.{numbers_below, packets_on}
use Rattle.plug_psi.specs.InForce.{pat_of, pmt_of, services_in}
use Rattle.plug_analyze.specs.AnalyzeRule.{fault_pids, is_scrambled}
use Rattle.plug_info_texts.specs.EitTexts.{eit_json, eit_text}
use Rattle.plug_info_texts.specs.InfoJson
use Rattle.plug_info_texts.specs.InfoTexts
use Rattle.plug_info_texts.specs.InfoJson.{array, ca_json, component_json, number_or_null, pid_json, portion_json, service_json, stream_json, whole_json}
use Rattle.plug_info_texts.specs.InfoTexts.{ca_line, component_text, marks_text, pid_text, portion_text, sdt_texts, service_text, stream_text}
use Rattle.plug_info.specs.CaSystems.{emm_systems, program_descriptors, system_ids}
use Rattle.plug_info.specs.NetworkNames.{name_lines, names_json}
use Rattle.plug_info_state.specs.EitSections.{eit_of}
use Rattle.plug_info_state.specs.PacketExtent.{extent_of}
pub use Rattle.plug_info_state.specs.PidCounts.{numbers_on}
use Rattle.plug_info_state.specs.PcrRate.{breaks_of, rate_of}
pub use Rattle.plug_info.specs.PidUses.{use_of}
pub use Rattle.plug_info.specs.PmtFields.{pcr_pid_in}
use Rattle.named_services.specs.SdtInForce.{is_number, items_in, sdt_of, service_body}
pub use Rattle.service_items.specs.StreamTables.{stream_of}
use Rattle.plug_info.specs.SdtStatus.{service_status}
use Rattle.plug_info.specs.declared.ca_system.CaSystem.{CaSystem}
use Rattle.plug_info.specs.declared.info_conf.InfoConf.{InfoConf}
use Rattle.plug_info_texts.specs.declared.scene.Scene.{Scene}
use Rattle.plug_info_texts.specs.declared.stream_numbers.StreamNumbers.{StreamNumbers}

-- The number of all packets, of which shares are parts; and how far they reach and how many bits pass in a second,
-- which give the time that they take: bit rates are bits over this time.
abbrev pub scene_of : List Cell → Scene
scene_of cells = record { whole = length (live_packets cells); extent = extent_of cells; rate = rate_of cells }

-- the numbers of the whole stream
abbrev pub stream_numbers : List Cell → StreamNumbers
stream_numbers cells = record {
  packets = length (live_packets cells);
  extent = extent_of cells;
  stream_id = stream_of (pat_of (live_packets cells));
  rate = rate_of cells;
  breaks = breaks_of cells;
  nulls = packets_on NULL_PID (live_packets cells);
  errored = length (filter error_indicator_of (live_packets cells));
  scrambled = length (filter is_scrambled (live_packets cells));
  faults = length (fault_pids cells);
}

-- a component of a PMT has the PID
abbrev pub has_component : Option TableHolding → ℕ → Bool
has_component pmt pid = list_any (λ x. is_number pid (first_number (drop 1 x.values))) (items_in pmt)

-- how many services of the PAT in force have a component on the PID
abbrev pub users_of : List (List ℕ) → ℕ → ℕ
users_of packets pid = count_by (λ service. has_component (pmt_of service.0 packets) pid) (services_in (pat_of packets))

-- the number of packets of a service: those on the PIDs of its components, each PID once
abbrev pub service_packets : Option TableHolding → List (List ℕ) → ℕ
service_packets pmt packets = fold (λ n pid. n + (if has_component pmt pid then packets_on pid packets else 0)) 0 (numbers_below PID_COUNT)

-- the line of a component of a service
abbrev pub component_line : List Cell → ℕ → ItemHolding → List ℕ
component_line cells service x =
    let pid = unwrap_or (first_number (drop 1 x.values)) 0 in
    component_text (scene_of cells) pid service (unwrap_or (first_number x.values) 0) (marks_text x.descriptors (system_ids x.descriptors)) (numbers_on pid cells)
    (users_of (live_packets cells) pid)

-- the line of an entry of the PAT in force, with its description in the SDT in force
abbrev pub service_line : List Cell → ℕ × ℕ → List ℕ
service_line cells service =
    let body = service_body (sdt_of (live_packets cells)) service.0 in
    let pmt = pmt_of service.0 (live_packets cells) in
    service_text service.0 service.1 body (pcr_pid_in pmt)
    (portion_text (scene_of cells) (service_packets pmt (live_packets cells)))
    (InfoTexts.service_marks (system_ids (program_descriptors pmt)) (service_status (sdt_of (live_packets cells)) service.0)
    ++ eit_text (eit_of service.0 (live_packets cells)))

-- the lines of a service: its own, and those of the components of its PMT in force
abbrev pub service_lines : List Cell → ℕ × ℕ → List (List ℕ)
service_lines cells service =
    service_line cells service ∷ map (component_line cells service.0) (items_in (pmt_of service.0 (live_packets cells)))

-- the line of a PID that has packets and is not a component's
abbrev pub pid_lines : List Cell → ℕ → List (List ℕ)
pid_lines cells pid =
    if not (packets_on pid (live_packets cells) == 0) && (users_of (live_packets cells) pid == 0)
    then pid_text pid (use_of (live_packets cells) pid) (portion_text (scene_of cells) (packets_on pid (live_packets cells)))
    (numbers_on pid cells) ∷ []
    else []

-- the line of a conditional access system of the CAT
abbrev pub system_line : CaSystem → List ℕ
system_line system = ca_line system.id system.pid

-- the report on a list of cells: the stream, the network and the bouquets by name, the conditional access systems of the
-- CAT in force, the services of the PAT in force with their components, and the other PIDs
abbrev pub info_on : List Cell → List (List ℕ)
info_on cells =
    (stream_text (stream_numbers cells)
    ∷ sdt_texts (stream_of (pat_of (live_packets cells))) (stream_of (sdt_of (live_packets cells))))
    ++ (name_lines (live_packets cells)
    ++ (map system_line (emm_systems (live_packets cells))
    ++ (flat_map (service_lines cells) (services_in (pat_of (live_packets cells)))
    ++ flat_map (pid_lines cells) (numbers_below PID_COUNT))))

-- the object of a component of a service
abbrev pub component_object : List Cell → ItemHolding → List ℕ
component_object cells x =
    let pid = unwrap_or (first_number (drop 1 x.values)) 0 in
    component_json (scene_of cells) pid (unwrap_or (first_number x.values) 0) x.descriptors (system_ids x.descriptors)
    (numbers_on pid cells) (users_of (live_packets cells) pid)

-- the object of an entry of the PAT in force, with those of the components of its PMT in force
abbrev pub service_object : List Cell → ℕ × ℕ → List ℕ
service_object cells service =
    let pmt = pmt_of service.0 (live_packets cells) in
    service_json service.0 service.1 (service_body (sdt_of (live_packets cells)) service.0) (pcr_pid_in pmt)
    (portion_json (scene_of cells) (service_packets pmt (live_packets cells)))
    (InfoJson.service_marks (system_ids (program_descriptors pmt)) (service_status (sdt_of (live_packets cells)) service.0)
    ++ eit_json (eit_of service.0 (live_packets cells)))
    (array (map (component_object cells) (items_in pmt)))

-- the object of a PID that has packets and is not a component's
abbrev pub pid_objects : List Cell → ℕ → List (List ℕ)
pid_objects cells pid =
    if not (packets_on pid (live_packets cells) == 0) && (users_of (live_packets cells) pid == 0)
    then pid_json pid (use_of (live_packets cells) pid) (portion_json (scene_of cells) (packets_on pid (live_packets cells)))
    (numbers_on pid cells) ∷ []
    else []

-- the object of a conditional access system of the CAT
abbrev pub system_object : CaSystem → List ℕ
system_object system = ca_json system.id system.pid

-- the report on a list of cells as one JSON object; the keys of the network and of the bouquets follow the one of the SDT
abbrev pub json_on : List Cell → List ℕ
json_on cells =
    whole_json (stream_json (stream_numbers cells))
    (number_or_null (stream_of (sdt_of (live_packets cells))) ++ names_json (live_packets cells))
    (array (map system_object (emm_systems (live_packets cells))))
    (array (map (service_object cells) (services_in (pat_of (live_packets cells)))))
    (array (flat_map (pid_objects cells) (numbers_below PID_COUNT)))

-- the report on a list of cells in the form that is asked for
abbrev pub report_in : Bool → List Cell → List (List ℕ)
report_in json cells = if json then json_on cells ∷ [] else info_on cells

-- every packet passes, and the summary is the report on them
abbrev pub info_rule : InfoConf → PluginRule
info_rule conf = record {
  outcome_of = λ _ packet _. passes packet;
  labels_of = λ _ _ labels. labels;
  lines_of = λ _ _ _. [];
  summary_of = λ history. report_in conf.json history;
  agrees = λ _. false;
  has_fault = λ _. false;
}
