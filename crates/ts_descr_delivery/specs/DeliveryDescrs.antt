-- The delivery system descriptors as values (ETSI EN 300 468, 6.2.13): their pages, and the values of their bodies.
use Rattle.std.specs.Prelude.{List, [], ◌∷◌}
use Rattle.ts_fields.specs.Bodies.{Page, Holding}
use Rattle.ts_pages.specs.DeliveryPages.{satellite, cable, terrestrial}
use Rattle.ts_descr.specs.Descriptors.{Typed, fields_alone}
use Rattle.ts_descr_delivery.specs.declared.delivery_descr.DeliveryDescr.{DeliveryDescr}
use Rattle.ts_descr_delivery.specs.declared.delivery_descr.DeliveryDescr.TheVariants as descrs
use Rattle.ts_descr_delivery.specs.DeliveryFields.{satellite_fields, cable_fields, terrestrial_fields}

-- the pages, in the order of their tags
abbrev pub delivery_pages : List Page
delivery_pages = satellite ∷ cable ∷ terrestrial ∷ []

-- the page of a descriptor
abbrev pub delivery_page : DeliveryDescr → Page
delivery_page (descrs.Satellite d) = satellite
delivery_page (descrs.Cable d) = cable
delivery_page (descrs.Terrestrial d) = terrestrial

-- the values of its body
abbrev pub delivery_holding : DeliveryDescr → Holding
delivery_holding (descrs.Satellite d) = fields_alone (satellite_fields d)
delivery_holding (descrs.Cable d) = fields_alone (cable_fields d)
delivery_holding (descrs.Terrestrial d) = fields_alone (terrestrial_fields d)

-- its tag with the values of its body
abbrev pub delivery_typed : DeliveryDescr → Typed
delivery_typed d = record { tag = (delivery_page d).tag; holding = delivery_holding d }
