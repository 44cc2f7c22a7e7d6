-- The rule of `pattern`. This project's own rule, over the payload of ISO/IEC 13818-1, 2.4.3.3.
use Rattle.std.specs.Prelude.{ℕ, zero, suc, ◌+◌, ◌-◌, ◌%◌, List, [], ◌∷◌, ◌++◌, length, Option, None, Some, nat_lt, unwrap_or, slice_index, if◌then◌else◌}
use Rattle.ts_packet.specs.declared.numbers.TheConstants.{PACKET_SIZE}
use Rattle.ts_packet.specs.Header.{pid_of, unit_start_of}
use Rattle.ts_packet.specs.Payload.{payload_start_of, with_piece}
use Rattle.plugin_trait.specs.SilentRule.{silent_rule}
use Rattle.chain_model.specs.PluginRule.{PluginRule, passes}
use Rattle.plugin_options.specs.Selection.{is_selected}
use Rattle.plug_pass.specs.declared.pattern_conf.PatternConf.{PatternConf}

-- so many bytes of the pattern, which begins again after its last byte
unfoldable pub repeated : List ℕ → ℕ → List ℕ
repeated pattern zero = []
repeated pattern (suc n) = repeated pattern n ++ slice_index pattern (n % length pattern) ∷ []

-- the offset that is meant for a packet with its unit start indicator
abbrev pub offset_for : PatternConf → List ℕ → ℕ
offset_for conf packet =
    if unit_start_of packet then unwrap_or conf.offset_pusi 0 else unwrap_or conf.offset_non_pusi 0

-- the packet with the pattern from a place to its end; at or after the end nothing is written
abbrev pub patterned_from : List ℕ → ℕ → List ℕ → List ℕ
patterned_from pattern at packet =
    if nat_lt at PACKET_SIZE then with_piece packet at (repeated pattern (PACKET_SIZE - at)) else packet

-- the pattern begins in the payload, at the offset; a packet without payload stays as it is
abbrev pub patterned : PatternConf → Option ℕ → List ℕ → List ℕ
patterned conf None packet = packet
patterned conf (Some start) packet = patterned_from conf.operand (start + offset_for conf packet) packet

-- the pattern is written where the packet's PID is selected
abbrev pub edited : PatternConf → List ℕ → List ℕ
edited conf packet =
    if is_selected conf.pid conf.negate (pid_of packet) then patterned conf (payload_start_of packet) packet else packet

-- every packet passes, with the pattern written
abbrev pub pattern_rule : PatternConf → PluginRule
pattern_rule conf = silent_rule (λ _ packet. passes (edited conf packet))
