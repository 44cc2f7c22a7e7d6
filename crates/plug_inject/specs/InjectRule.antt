-- The rule of `inject`. This project's own rule, over the PID of ISO/IEC 13818-1, 2.4.3.2, and over the packets that
-- carry sections (2.4.4). Lists of packets are in reverse order here, the newest first, so that the packets just
-- before a packet are the first of the list.
use Rattle.std.specs.Prelude.{ℕ, ◌-◌, ◌==◌, ◌&&◌, not, Bool, List, [], ◌∷◌, take, reverse, count_by, Option, None, Some, unwrap_or, if◌then◌else◌}
use Rattle.std.specs.List.{list_any}
use Rattle.ts_packet.specs.declared.cell.Cell.{Cell}
use Rattle.ts_packet.specs.Cells.{live_packets}
use Rattle.ts_packet.specs.Header.{pid_of}
use Rattle.ts_packet.specs.declared.numbers.TheConstants.{NULL_PID}
use Rattle.chain_model.specs.PluginRule.{PluginRule, passes}
use Rattle.plugin_trait.specs.Finding.{finds_none}
use Rattle.plugin_trait.specs.SilentRule.{silent_rule}
use Rattle.plug_inject.specs.Contents.{Contents, contents_for, has_packets}
use Rattle.plug_inject.specs.Counted.{counted_on, payloads_on}
use Rattle.plug_inject.specs.Schedule.{packet_after}
use Rattle.plug_inject.specs.declared.inject_conf.InjectConf.{InjectConf}
use Rattle.plug_inject.specs.declared.inject_conf.InjectMode.{InjectMode}
use Rattle.plug_inject.specs.declared.inject_conf.InjectMode.TheVariants.{Replace, InterPacket}

-- what is inserted, and where: the contents, the PID whose packets may be replaced, how many packets just before a
-- replaced one were not replaced, and the PID whose counters go on over all its packets, if there is one
pub record Injection : Type 0 where
  pub contents : Contents
  pub target : ℕ
  pub kept : ℕ
  pub counted : Option ℕ

-- the PID whose packets may be replaced: that of the sections, or with a distance that of null packets, whatever
-- their bytes
abbrev pub target_of : InjectMode → ℕ → ℕ
target_of Replace pid = pid
target_of (InterPacket distance) pid = NULL_PID

-- how many packets just before a replaced one were not replaced: with a distance, one less than the distance
abbrev pub kept_before : InjectMode → ℕ
kept_before Replace = 0
kept_before (InterPacket distance) = distance - 1

-- what the settings and the sections of their file mean: the contents are these sections on the PID
abbrev pub injection_of : InjectConf → List (List ℕ) → Injection
injection_of conf sections = record {
  contents = contents_for conf.pid conf.every sections;
  target = target_of conf.mode conf.pid;
  kept = kept_before conf.mode;
  counted = if conf.fix_counters then Some conf.pid else None;
}

-- one of these packets was replaced
abbrev pub some_replaced : List Bool → Bool
some_replaced marks = list_any (λ mark. mark) marks

-- A packet is replaced, given of the packets before it whether they were replaced: there are packets to insert, it
-- is on the target PID, and none of the packets just before it was replaced; at the beginning there may be fewer of
-- them.
abbrev pub is_replaced : Injection → List Bool → List ℕ → Bool
is_replaced how marks packet =
    has_packets how.contents && (pid_of packet == how.target && not (some_replaced (take how.kept marks)))

-- whether each of the packets is replaced
unfoldable pub replaced_among : Injection → List (List ℕ) → List Bool
replaced_among how [] = []
replaced_among how (packet ∷ older) =
    (let marks = replaced_among how older in is_replaced how marks packet ∷ marks)

-- how many packets were inserted
abbrev pub put_in_among : List Bool → ℕ
put_in_among marks = count_by (λ mark. mark) marks

-- the output instead of a packet, given of the packets before it whether they were replaced
abbrev pub put_for : Injection → List Bool → List ℕ → List ℕ
put_for how marks packet =
    if is_replaced how marks packet then unwrap_or (packet_after how.contents (put_in_among marks)) packet else packet

-- the output instead of each of the packets, but for counters that go on over a PID
unfoldable pub put_among : Injection → List (List ℕ) → List (List ℕ)
put_among how [] = []
put_among how (packet ∷ older) = put_for how (replaced_among how older) packet ∷ put_among how older

-- a packet with its counter, after these, where counters go on over all packets of a PID
abbrev pub counted_after : Option ℕ → List (List ℕ) → List ℕ → List ℕ
counted_after None before packet = packet
counted_after (Some pid) before packet = counted_on pid (payloads_on pid before) packet

-- the output instead of a packet, given the packets before it
abbrev pub injected : Injection → List (List ℕ) → List ℕ → List ℕ
injected how older packet =
    counted_after how.counted (put_among how older) (put_for how (replaced_among how older) packet)

-- a packet is replaced, after these cells
abbrev pub replaces : Injection → List Cell → List ℕ → ℕ → Bool
replaces how history packet labels = is_replaced how (replaced_among how (reverse (live_packets history))) packet

-- every packet passes, or another one in its place; labels stay. A run in which none is replaced has a fault
abbrev pub injecting_rule : Injection → PluginRule
injecting_rule how =
    record (silent_rule (λ history packet. passes (injected how (reverse (live_packets history)) packet))) {
      has_fault = finds_none (replaces how);
    }

-- the rule of the settings, with the sections of their file
abbrev pub inject_rule : InjectConf → List (List ℕ) → PluginRule
inject_rule conf sections = injecting_rule (injection_of conf sections)
