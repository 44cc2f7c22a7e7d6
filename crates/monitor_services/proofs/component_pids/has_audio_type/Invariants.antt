use Rattle.std.proofs.Common.{◌≡◌, drop, map}
use Rattle.std.specs.List.{list_any}
use Rattle.ts_descr_mpeg.specs.MpegFields.{language_fields}
use Rattle.monitor_services.specs.Components.{is_special}
use Rattle.monitor_services.proofs.component_pids.has_audio_type.Given as goal

-- it is said by those that are left
abbrev pub invariant-loop-language : goal.invariant-loop-language
invariant-loop-language l =
    list_any is_special (map language_fields (drop l.language-index l.languages)) ≡ list_any is_special (map language_fields l.languages)
