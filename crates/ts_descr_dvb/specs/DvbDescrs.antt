-- The DVB descriptors as values (ETSI EN 300 468, 6.2): their pages, and the values of their bodies.
use Rattle.std.specs.Prelude.{List, [], ◌∷◌, map}
use Rattle.ts_fields.specs.Bodies.{Page, Holding}
use Rattle.ts_pages.specs.DvbPages.{network_name, service_list, bouquet_name, service, short_event, component, stream_identifier, ca_identifier, content, parental_rating, teletext, subtitling, private_data_specifier}
use Rattle.ts_descr.specs.Descriptors.{Typed, fields_alone, items_alone}
use Rattle.ts_descr_dvb.specs.declared.dvb_descr.DvbDescr.{DvbDescr}
use Rattle.ts_descr_dvb.specs.declared.dvb_descr.DvbDescr.TheVariants as descrs
use Rattle.ts_descr_dvb.specs.DvbFields.{network_name_fields, service_list_fields, bouquet_name_fields, service_fields, short_event_fields, component_fields, stream_identifier_fields, ca_identifier_fields, content_fields, parental_rating_fields, teletext_fields, subtitling_fields, private_data_specifier_fields}

-- the pages, in the order of their tags
abbrev pub dvb_pages : List Page
dvb_pages =
    network_name ∷ service_list ∷ bouquet_name ∷ service ∷ short_event ∷ component
    ∷ stream_identifier ∷ ca_identifier ∷ content ∷ parental_rating ∷ teletext ∷ subtitling
    ∷ private_data_specifier ∷ []

-- the page of a descriptor
abbrev pub dvb_page : DvbDescr → Page
dvb_page (descrs.NetworkName d) = network_name
dvb_page (descrs.ServiceList d) = service_list
dvb_page (descrs.BouquetName d) = bouquet_name
dvb_page (descrs.Service d) = service
dvb_page (descrs.ShortEvent d) = short_event
dvb_page (descrs.Component d) = component
dvb_page (descrs.StreamIdentifier d) = stream_identifier
dvb_page (descrs.CaIdentifier d) = ca_identifier
dvb_page (descrs.Content d) = content
dvb_page (descrs.ParentalRating d) = parental_rating
dvb_page (descrs.Teletext d) = teletext
dvb_page (descrs.Subtitling d) = subtitling
dvb_page (descrs.PrivateDataSpecifier d) = private_data_specifier

-- the values of its body
abbrev pub dvb_holding : DvbDescr → Holding
dvb_holding (descrs.NetworkName d) = fields_alone (network_name_fields d)
dvb_holding (descrs.ServiceList d) = items_alone (map service_list_fields d.items)
dvb_holding (descrs.BouquetName d) = fields_alone (bouquet_name_fields d)
dvb_holding (descrs.Service d) = fields_alone (service_fields d)
dvb_holding (descrs.ShortEvent d) = fields_alone (short_event_fields d)
dvb_holding (descrs.Component d) = fields_alone (component_fields d)
dvb_holding (descrs.StreamIdentifier d) = fields_alone (stream_identifier_fields d)
dvb_holding (descrs.CaIdentifier d) = items_alone (map ca_identifier_fields d.items)
dvb_holding (descrs.Content d) = items_alone (map content_fields d.items)
dvb_holding (descrs.ParentalRating d) = items_alone (map parental_rating_fields d.items)
dvb_holding (descrs.Teletext d) = items_alone (map teletext_fields d.items)
dvb_holding (descrs.Subtitling d) = items_alone (map subtitling_fields d.items)
dvb_holding (descrs.PrivateDataSpecifier d) = fields_alone (private_data_specifier_fields d)

-- its tag with the values of its body
abbrev pub dvb_typed : DvbDescr → Typed
dvb_typed d = record { tag = (dvb_page d).tag; holding = dvb_holding d }
