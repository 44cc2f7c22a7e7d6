-- The MPEG descriptors as values (ISO/IEC 13818-1, 2.6): their pages, and the values of their bodies.
use Rattle.std.specs.Prelude.{List, [], ◌∷◌, map}
use Rattle.ts_fields.specs.Bodies.{Page, Holding}
use Rattle.ts_pages.specs.MpegPages.{registration, data_stream_alignment, ca, language, maximum_bitrate}
use Rattle.ts_descr.specs.Descriptors.{Typed, fields_alone, items_alone}
use Rattle.ts_descr_mpeg.specs.declared.mpeg_descr.MpegDescr.{MpegDescr}
use Rattle.ts_descr_mpeg.specs.declared.mpeg_descr.MpegDescr.TheVariants as descrs
use Rattle.ts_descr_mpeg.specs.MpegFields.{registration_fields, data_stream_alignment_fields, ca_fields, language_fields, maximum_bitrate_fields}

-- the pages, in the order of their tags
abbrev pub mpeg_pages : List Page
mpeg_pages = registration ∷ data_stream_alignment ∷ ca ∷ language ∷ maximum_bitrate ∷ []

-- the page of a descriptor
abbrev pub mpeg_page : MpegDescr → Page
mpeg_page (descrs.Registration d) = registration
mpeg_page (descrs.DataStreamAlignment d) = data_stream_alignment
mpeg_page (descrs.Ca d) = ca
mpeg_page (descrs.Iso639Language d) = language
mpeg_page (descrs.MaximumBitrate d) = maximum_bitrate

-- the values of its body
abbrev pub mpeg_holding : MpegDescr → Holding
mpeg_holding (descrs.Registration d) = fields_alone (registration_fields d)
mpeg_holding (descrs.DataStreamAlignment d) = fields_alone (data_stream_alignment_fields d)
mpeg_holding (descrs.Ca d) = fields_alone (ca_fields d)
mpeg_holding (descrs.Iso639Language d) = items_alone (map language_fields d.items)
mpeg_holding (descrs.MaximumBitrate d) = fields_alone (maximum_bitrate_fields d)

-- its tag with the values of its body
abbrev pub mpeg_typed : MpegDescr → Typed
mpeg_typed d = record { tag = (mpeg_page d).tag; holding = mpeg_holding d }
