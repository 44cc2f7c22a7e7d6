-- The values of the fields of each struct, in the order of the rows of its page (ETSI EN 300 468, 6.2).
use Rattle.std.specs.Prelude.{List, [], ◌∷◌}
use Rattle.ts_fields.specs.Layout.{Held, number, bytes}
use Rattle.ts_descr_dvb.specs.declared.network_name.NetworkName.{NetworkName}
use Rattle.ts_descr_dvb.specs.declared.listed_service.ListedService.{ListedService}
use Rattle.ts_descr_dvb.specs.declared.bouquet_name.BouquetName.{BouquetName}
use Rattle.ts_descr_dvb.specs.declared.service.Service.{Service}
use Rattle.ts_descr_dvb.specs.declared.short_event.ShortEvent.{ShortEvent}
use Rattle.ts_descr_dvb.specs.declared.component.Component.{Component}
use Rattle.ts_descr_dvb.specs.declared.stream_identifier.StreamIdentifier.{StreamIdentifier}
use Rattle.ts_descr_dvb.specs.declared.ca_system.CaSystem.{CaSystem}
use Rattle.ts_descr_dvb.specs.declared.classification.Classification.{Classification}
use Rattle.ts_descr_dvb.specs.declared.country.Country.{Country}
use Rattle.ts_descr_dvb.specs.declared.teletext_page.TeletextPage.{TeletextPage}
use Rattle.ts_descr_dvb.specs.declared.subtitle.Subtitle.{Subtitle}
use Rattle.ts_descr_dvb.specs.declared.private_data_specifier.PrivateDataSpecifier.{PrivateDataSpecifier}

-- the name of a network
abbrev pub network_name_fields : NetworkName → List Held
network_name_fields d = bytes d.network_name.items ∷ []

-- one service of a transport stream
abbrev pub service_list_fields : ListedService → List Held
service_list_fields d = number d.service_id ∷ number d.service_type ∷ []

-- the name of a bouquet
abbrev pub bouquet_name_fields : BouquetName → List Held
bouquet_name_fields d = bytes d.bouquet_name.items ∷ []

-- the type, the provider and the name of a service
abbrev pub service_fields : Service → List Held
service_fields d =
    number d.service_type
    ∷ bytes d.service_provider_name.items
    ∷ bytes d.service_name.items
    ∷ []

-- the name of an event and a short text about it
abbrev pub short_event_fields : ShortEvent → List Held
short_event_fields d = bytes d.language_code ∷ bytes d.event_name.items ∷ bytes d.text.items ∷ []

-- the kind, the tag, the language and a text of a component
abbrev pub component_fields : Component → List Held
component_fields d =
    number d.stream_content_ext
    ∷ number d.stream_content
    ∷ number d.component_type
    ∷ number d.component_tag
    ∷ bytes d.language_code
    ∷ bytes d.text.items
    ∷ []

-- the tag by which other descriptors refer to a component
abbrev pub stream_identifier_fields : StreamIdentifier → List Held
stream_identifier_fields d = number d.component_tag ∷ []

-- one conditional access system
abbrev pub ca_identifier_fields : CaSystem → List Held
ca_identifier_fields d = number d.value ∷ []

-- one genre of an event
abbrev pub content_fields : Classification → List Held
content_fields d =
    number d.content_nibble_level_1
    ∷ number d.content_nibble_level_2
    ∷ number d.user_byte
    ∷ []

-- the minimum age for an event in one country
abbrev pub parental_rating_fields : Country → List Held
parental_rating_fields d = bytes d.country_code ∷ number d.rating ∷ []

-- one Teletext page of a component
abbrev pub teletext_fields : TeletextPage → List Held
teletext_fields d =
    bytes d.language_code
    ∷ number d.teletext_type
    ∷ number d.teletext_magazine_number
    ∷ number d.teletext_page_number
    ∷ []

-- the subtitles of a component in one language
abbrev pub subtitling_fields : Subtitle → List Held
subtitling_fields d =
    bytes d.language_code
    ∷ number d.subtitling_type
    ∷ number d.composition_page_id
    ∷ number d.ancillary_page_id
    ∷ []

-- the organisation that defines the private descriptors that follow
abbrev pub private_data_specifier_fields : PrivateDataSpecifier → List Held
private_data_specifier_fields d = number d.private_data_specifier ∷ []
