use Rattle.std.proofs.Common.{refl}
use Rattle.ts_descr_dvb.specs.DvbDescrs.{dvb_pages}
use Rattle.ts_descr_dvb.proofs.dvb_descr.DvbDescr.write.Goals as goal

pub returns-in-NetworkName : goal.returns-in-NetworkName
returns-in-NetworkName c = rw c.in-NetworkName.is (record {
  written = c.write_fields.ensures.written;
  back = c.write_fields.ensures.back dvb_pages refl refl;
})

pub returns-in-ServiceList : goal.returns-in-ServiceList
returns-in-ServiceList c = rw (c.in-ServiceList.is, ← c.deref.ensures.value) (record {
  written = c.write_items.ensures.written;
  back = c.write_items.ensures.back dvb_pages refl refl;
})

pub returns-in-BouquetName : goal.returns-in-BouquetName
returns-in-BouquetName c = rw c.in-BouquetName.is (record {
  written = c.write_fields-in-BouquetName.ensures.written;
  back = c.write_fields-in-BouquetName.ensures.back dvb_pages refl refl;
})

pub returns-in-Service : goal.returns-in-Service
returns-in-Service c = rw c.in-Service.is (record {
  written = c.write_fields-in-Service.ensures.written;
  back = c.write_fields-in-Service.ensures.back dvb_pages refl refl;
})

pub returns-in-ShortEvent : goal.returns-in-ShortEvent
returns-in-ShortEvent c = rw c.in-ShortEvent.is (record {
  written = c.write_fields-in-ShortEvent.ensures.written;
  back = c.write_fields-in-ShortEvent.ensures.back dvb_pages refl refl;
})

pub returns-in-Component : goal.returns-in-Component
returns-in-Component c = rw c.in-Component.is (record {
  written = c.write_fields-in-Component.ensures.written;
  back = c.write_fields-in-Component.ensures.back dvb_pages refl refl;
})

pub returns-in-StreamIdentifier : goal.returns-in-StreamIdentifier
returns-in-StreamIdentifier c = rw c.in-StreamIdentifier.is (record {
  written = c.write_fields-in-StreamIdentifier.ensures.written;
  back = c.write_fields-in-StreamIdentifier.ensures.back dvb_pages refl refl;
})

pub returns-in-CaIdentifier : goal.returns-in-CaIdentifier
returns-in-CaIdentifier c = rw (c.in-CaIdentifier.is, ← c.deref-in-CaIdentifier.ensures.value) (record {
  written = c.write_items-in-CaIdentifier.ensures.written;
  back = c.write_items-in-CaIdentifier.ensures.back dvb_pages refl refl;
})

pub returns-in-Content : goal.returns-in-Content
returns-in-Content c = rw (c.in-Content.is, ← c.deref-in-Content.ensures.value) (record {
  written = c.write_items-in-Content.ensures.written;
  back = c.write_items-in-Content.ensures.back dvb_pages refl refl;
})

pub returns-in-ParentalRating : goal.returns-in-ParentalRating
returns-in-ParentalRating c = rw (c.in-ParentalRating.is, ← c.deref-in-ParentalRating.ensures.value) (record {
  written = c.write_items-in-ParentalRating.ensures.written;
  back = c.write_items-in-ParentalRating.ensures.back dvb_pages refl refl;
})

pub returns-in-Teletext : goal.returns-in-Teletext
returns-in-Teletext c = rw (c.in-Teletext.is, ← c.deref-in-Teletext.ensures.value) (record {
  written = c.write_items-in-Teletext.ensures.written;
  back = c.write_items-in-Teletext.ensures.back dvb_pages refl refl;
})

pub returns-in-Subtitling : goal.returns-in-Subtitling
returns-in-Subtitling c = rw (c.in-Subtitling.is, ← c.deref-in-Subtitling.ensures.value) (record {
  written = c.write_items-in-Subtitling.ensures.written;
  back = c.write_items-in-Subtitling.ensures.back dvb_pages refl refl;
})

pub returns-in-PrivateDataSpecifier : goal.returns-in-PrivateDataSpecifier
returns-in-PrivateDataSpecifier c = rw c.in-PrivateDataSpecifier.is (record {
  written = c.write_fields-in-PrivateDataSpecifier.ensures.written;
  back = c.write_fields-in-PrivateDataSpecifier.ensures.back dvb_pages refl refl;
})
