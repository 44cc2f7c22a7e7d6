use Rattle.std.proofs.Common.{refl}
use Rattle.ts_descr_delivery.specs.DeliveryDescrs.{delivery_pages}
use Rattle.ts_descr_delivery.proofs.delivery_descr.DeliveryDescr.write.Goals as goal

pub returns-in-Satellite : goal.returns-in-Satellite
returns-in-Satellite c = rw c.in-Satellite.is (record {
  written = c.write_fields.ensures.written;
  back = c.write_fields.ensures.back delivery_pages refl refl;
})

pub returns-in-Cable : goal.returns-in-Cable
returns-in-Cable c = rw c.in-Cable.is (record {
  written = c.write_fields-in-Cable.ensures.written;
  back = c.write_fields-in-Cable.ensures.back delivery_pages refl refl;
})

pub returns-in-Terrestrial : goal.returns-in-Terrestrial
returns-in-Terrestrial c = rw c.in-Terrestrial.is (record {
  written = c.write_fields-in-Terrestrial.ensures.written;
  back = c.write_fields-in-Terrestrial.ensures.back delivery_pages refl refl;
})
