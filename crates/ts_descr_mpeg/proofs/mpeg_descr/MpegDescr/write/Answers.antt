use Rattle.std.proofs.Common.{refl}
use Rattle.ts_descr_mpeg.specs.MpegDescrs.{mpeg_pages}
use Rattle.ts_descr_mpeg.proofs.mpeg_descr.MpegDescr.write.Goals as goal

pub returns-in-Registration : goal.returns-in-Registration
returns-in-Registration c = rw c.in-Registration.is (record {
  written = c.write_fields.ensures.written;
  back = c.write_fields.ensures.back mpeg_pages refl refl;
})

pub returns-in-DataStreamAlignment : goal.returns-in-DataStreamAlignment
returns-in-DataStreamAlignment c = rw c.in-DataStreamAlignment.is (record {
  written = c.write_fields-in-DataStreamAlignment.ensures.written;
  back = c.write_fields-in-DataStreamAlignment.ensures.back mpeg_pages refl refl;
})

pub returns-in-Ca : goal.returns-in-Ca
returns-in-Ca c = rw c.in-Ca.is (record {
  written = c.write_fields-in-Ca.ensures.written;
  back = c.write_fields-in-Ca.ensures.back mpeg_pages refl refl;
})

pub returns-in-Iso639Language : goal.returns-in-Iso639Language
returns-in-Iso639Language c = rw (c.in-Iso639Language.is, ← c.deref.ensures.value) (record {
  written = c.write_items.ensures.written;
  back = c.write_items.ensures.back mpeg_pages refl refl;
})

pub returns-in-MaximumBitrate : goal.returns-in-MaximumBitrate
returns-in-MaximumBitrate c = rw c.in-MaximumBitrate.is (record {
  written = c.write_fields-in-MaximumBitrate.ensures.written;
  back = c.write_fields-in-MaximumBitrate.ensures.back mpeg_pages refl refl;
})
