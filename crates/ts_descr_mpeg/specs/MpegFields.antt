-- The values of the fields of each struct, in the order of the rows of its page (ISO/IEC 13818-1, 2.6).
use Rattle.std.specs.Prelude.{List, [], ◌∷◌}
use Rattle.ts_fields.specs.Layout.{Held, number, bytes}
use Rattle.ts_descr_mpeg.specs.declared.registration.Registration.{Registration}
use Rattle.ts_descr_mpeg.specs.declared.data_stream_alignment.DataStreamAlignment.{DataStreamAlignment}
use Rattle.ts_descr_mpeg.specs.declared.ca.Ca.{Ca}
use Rattle.ts_descr_mpeg.specs.declared.language.Language.{Language}
use Rattle.ts_descr_mpeg.specs.declared.maximum_bitrate.MaximumBitrate.{MaximumBitrate}

-- the organisation that defines the private data of a program or component
abbrev pub registration_fields : Registration → List Held
registration_fields d = number d.format_identifier ∷ bytes d.additional_identification_info.items ∷ []

-- the kind of unit with which the aligned PES packets of a stream begin
abbrev pub data_stream_alignment_fields : DataStreamAlignment → List Held
data_stream_alignment_fields d = number d.alignment_type ∷ []

-- the PID of the ECMs or the EMMs of a conditional access system
abbrev pub ca_fields : Ca → List Held
ca_fields d = number d.ca_system_id ∷ number d.ca_pid ∷ bytes d.private_data.items ∷ []

-- one language of a component
abbrev pub language_fields : Language → List Held
language_fields d = bytes d.code ∷ number d.audio_type ∷ []

-- the maximum bit rate of a component, in units of 50 bytes per second
abbrev pub maximum_bitrate_fields : MaximumBitrate → List Held
maximum_bitrate_fields d = number d.maximum_bitrate ∷ []
