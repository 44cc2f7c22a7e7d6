-- The general options.
-- This project's own rule.
use Rattle.std.specs.Prelude.{ℕ, Bool, List, [], ◌∷◌, None, Option, Some, codes, if◌then◌else◌, true, unwrap_or}
use Rattle.std.specs.List.{list_any}
use Rattle.std.specs.Str.{bytes_eq}
use Rattle.clap.specs.Walk.{Row}
use Rattle.plugin_options.specs.Forms.{known, number, pair}
use Rattle.plugin_options.specs.Number.{number_within}
use Rattle.plugin_options.specs.Options.{OptionRow, flag, has_flag, read_value, value}
use Rattle.plugin_options.specs.Pairs.{pair_of}
use Rattle.plugin_options.specs.OptionTable.{OptionTable}
use Rattle.chain_args.specs.declared.general_conf.GeneralConf.{GeneralConf}
use Rattle.chain_args.specs.declared.stage_threads.StageThreads.{StageThreads}
use Rattle.chain_args.specs.declared.stage_threads.StageThreads.TheVariants.{Auto, One}

-- the byte `/`
abbrev pub slash : ℕ
slash = 47

-- the threads by their words, `1` and `auto`
abbrev pub threads_named : List ℕ → Option StageThreads
threads_named word = if bytes_eq word (codes "1") then Some One
    else (if bytes_eq word (codes "auto") then Some Auto else None)

-- the word is one of the two
abbrev pub is_threads : List ℕ → Bool
is_threads word = list_any (λ name. bytes_eq name word) (codes "1" ∷ codes "auto" ∷ [])

abbrev pub general_rows : List OptionRow
general_rows = record { name = codes "add-start-stuffing"; kind = value (number 0 1000000) }
    ∷ record { name = codes "add-stop-stuffing"; kind = value (number 0 1000000) }
    ∷ record { name = codes "add-input-stuffing"; kind = value (pair slash (0, 1000) (1, 1000000)) }
    ∷ record { name = codes "buffer-packets"; kind = value (number 1 1000000) }
    ∷ record { name = codes "max-flushed-packets"; kind = value (number 1 1000000) }
    ∷ record { name = codes "max-input-packets"; kind = value (number 1 1000000) }
    ∷ record { name = codes "ignore-joint-termination"; kind = flag }
    ∷ record { name = codes "bare"; kind = flag }
    ∷ record { name = codes "endless"; kind = flag }
    ∷ record { name = codes "fail-on-faults"; kind = flag }
    ∷ record { name = codes "live"; kind = flag }
    ∷ record { name = codes "threads"; kind = value (known is_threads) }
    ∷ []

-- the value of each general option, or its default where it is not given; the three sizes are none then
abbrev pub general_settings : List Row → GeneralConf
general_settings found = record {
  add_start_stuffing =
      unwrap_or (read_value (number_within 0 1000000) (codes "add-start-stuffing") found) 0;
  add_stop_stuffing =
      unwrap_or (read_value (number_within 0 1000000) (codes "add-stop-stuffing") found) 0;
  add_input_stuffing = unwrap_or
      (read_value (pair_of slash (0, 1000) (1, 1000000)) (codes "add-input-stuffing") found) (0, 1);
  buffer_packets = read_value (number_within 1 1000000) (codes "buffer-packets") found;
  max_flushed_packets = read_value (number_within 1 1000000) (codes "max-flushed-packets") found;
  max_input_packets = read_value (number_within 1 1000000) (codes "max-input-packets") found;
  ignore_joint_termination = has_flag (codes "ignore-joint-termination") found;
  bare = has_flag (codes "bare") found;
  endless = has_flag (codes "endless") found;
  fail_on_faults = has_flag (codes "fail-on-faults") found;
  live = has_flag (codes "live") found;
  threads = unwrap_or (read_value threads_named (codes "threads") found) Auto;
}

-- none is required, and any go together
abbrev pub general : OptionTable GeneralConf
general = record {
  rows = general_rows;
  has_needed = λ found. true;
  settings = general_settings;
  go_together = λ found. true;
}
