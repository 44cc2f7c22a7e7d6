-- Pages of the descriptors of networks, services, events and components.
-- ETSI EN 300 468, 6.2.
use Rattle.std.specs.Prelude.{[], ◌∷◌, codes}
use Rattle.ts_fields.specs.declared.field.Kind.TheVariants.{Number, Language, CountedText, Text}
use Rattle.ts_fields.specs.Bodies.{Page}
use Rattle.ts_pages.specs.PageRows.{field, of_fields, of_items}

-- 6.2.27: the name of a network
abbrev pub network_name : Page
network_name = of_fields 0x40 (codes "network_name_descriptor") (
    field (codes "network_name") Text
    ∷ [])

-- 6.2.35: the services of a transport stream with their types
abbrev pub service_list : Page
service_list = of_items 0x41 (codes "service_list_descriptor") (codes "service") (
    field (codes "service_id") (Number 16)
    ∷ field (codes "service_type") (Number 8)
    ∷ [])

-- 6.2.4: the name of a bouquet
abbrev pub bouquet_name : Page
bouquet_name = of_fields 0x47 (codes "bouquet_name_descriptor") (
    field (codes "bouquet_name") Text
    ∷ [])

-- 6.2.33: the type, the provider and the name of a service
abbrev pub service : Page
service = of_fields 0x48 (codes "service_descriptor") (
    field (codes "service_type") (Number 8)
    ∷ field (codes "service_provider_name") CountedText
    ∷ field (codes "service_name") CountedText
    ∷ [])

-- 6.2.37: the name of an event and a short text about it
abbrev pub short_event : Page
short_event = of_fields 0x4D (codes "short_event_descriptor") (
    field (codes "language_code") Language
    ∷ field (codes "event_name") CountedText
    ∷ field (codes "text") CountedText
    ∷ [])

-- 6.2.8: the kind, the tag, the language and a text of a component
abbrev pub component : Page
component = of_fields 0x50 (codes "component_descriptor") (
    field (codes "stream_content_ext") (Number 4)
    ∷ field (codes "stream_content") (Number 4)
    ∷ field (codes "component_type") (Number 8)
    ∷ field (codes "component_tag") (Number 8)
    ∷ field (codes "language_code") Language
    ∷ field (codes "text") Text
    ∷ [])

-- 6.2.39: the tag by which other descriptors refer to a component
abbrev pub stream_identifier : Page
stream_identifier = of_fields 0x52 (codes "stream_identifier_descriptor") (
    field (codes "component_tag") (Number 8)
    ∷ [])

-- 6.2.5: the conditional access systems of a bouquet, a service or an event
abbrev pub ca_identifier : Page
ca_identifier = of_items 0x53 (codes "CA_identifier_descriptor") (codes "CA_system_id") (
    field (codes "value") (Number 16)
    ∷ [])

-- 6.2.9: the genres of an event
abbrev pub content : Page
content = of_items 0x54 (codes "content_descriptor") (codes "classification") (
    field (codes "content_nibble_level_1") (Number 4)
    ∷ field (codes "content_nibble_level_2") (Number 4)
    ∷ field (codes "user_byte") (Number 8)
    ∷ [])

-- 6.2.28: the minimum ages for an event, one for each country
abbrev pub parental_rating : Page
parental_rating = of_items 0x55 (codes "parental_rating_descriptor") (codes "country") (
    field (codes "country_code") Language
    ∷ field (codes "rating") (Number 8)
    ∷ [])

-- 6.2.43: the Teletext pages of a component, each with its language
abbrev pub teletext : Page
teletext = of_items 0x56 (codes "teletext_descriptor") (codes "teletext") (
    field (codes "language_code") Language
    ∷ field (codes "teletext_type") (Number 5)
    ∷ field (codes "teletext_magazine_number") (Number 3)
    ∷ field (codes "teletext_page_number") (Number 8)
    ∷ [])

-- 6.2.41: the subtitles of a component, each with its language
abbrev pub subtitling : Page
subtitling = of_items 0x59 (codes "subtitling_descriptor") (codes "subtitling") (
    field (codes "language_code") Language
    ∷ field (codes "subtitling_type") (Number 8)
    ∷ field (codes "composition_page_id") (Number 16)
    ∷ field (codes "ancillary_page_id") (Number 16)
    ∷ [])

-- 6.2.31: the organisation that defines the private descriptors that follow
abbrev pub private_data_specifier : Page
private_data_specifier = of_fields 0x5F (codes "private_data_specifier_descriptor") (
    field (codes "private_data_specifier") (Number 32)
    ∷ [])
