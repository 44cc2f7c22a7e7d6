-- Valid settings of `pattern`.
-- This project's own rule; ISO/IEC 13818-1, 2.4.3.3: a payload has at most 184 bytes.
use Rattle.std.specs.Prelude.{◌<◌, ◌≤◌, ℕ, IfSome, Option, length}
use Rattle.ts_packet.specs.declared.numbers.TheConstants.{PAYLOAD_SIZE, PID_COUNT}
use Rattle.plugin_options.specs.NumberSet.{AllBelow}
use Rattle.plug_pass.specs.declared.pattern_conf.PatternConf.{PatternConf}

-- an offset that is given lies inside the longest payload
abbrev pub IsOffset : Option ℕ → Type 0
IsOffset n = IfSome n (λ k. k < PAYLOAD_SIZE)

-- the settings give what `pattern` needs, each number in its range, and no two that exclude each other
pub record IsValidPattern (c : PatternConf) : Type 0 where
  pub some_byte : 1 ≤ length c.operand
  pub fits : length c.operand ≤ PAYLOAD_SIZE
  pub pids : AllBelow PID_COUNT c.pid
  pub with_start : IsOffset c.offset_pusi
  pub without_start : IsOffset c.offset_non_pusi
