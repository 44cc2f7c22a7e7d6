-- Valid settings of `inject`. ISO/IEC 13818-1, 2.4.3.2: PID 8191 is that of null packets, which carry no data; 2.4.4: a
-- table_id has 8 bits. This project's own rule: a distance is at least 1.
use Rattle.std.specs.Prelude.{ℕ, ◌<◌, ◌≤◌, Option, None, Some}
use Rattle.std.specs.List.{All}
use Rattle.plugin_options.specs.Pairs.{IsPairWithin}
use Rattle.plugin_options.specs.declared.limits.TheConstants.{MOST_NUMBER}
use Rattle.ts_packet.specs.declared.numbers.TheConstants.{NULL_PID}
use Rattle.plug_inject.specs.declared.inject_conf.InjectConf.{InjectConf}
use Rattle.plug_inject.specs.declared.inject_conf.TheConstants.{LAST_TABLE}
use Rattle.plug_inject.specs.declared.inject_conf.InjectMode.{InjectMode}
use Rattle.plug_inject.specs.declared.inject_conf.InjectMode.TheVariants.{Replace, InterPacket}

-- the mode given by an optional distance
abbrev pub mode_of : Option ℕ → InjectMode
mode_of None = Replace
mode_of (Some distance) = InterPacket distance

-- a distance is from 1 to 2^60
abbrev pub IsValidMode : InjectMode → Type 0
IsValidMode Replace = Unit {0}
IsValidMode (InterPacket distance) = (1 ≤ distance) × (distance ≤ MOST_NUMBER)

-- the PID may carry sections, and distances and table_ids are in their ranges
pub record IsValidInject (c : InjectConf) : Type 0 where
  pub carrier : c.pid < NULL_PID
  pub mode : IsValidMode c.mode
  pub every : All (IsPairWithin (0, LAST_TABLE) (1, MOST_NUMBER)) c.every
