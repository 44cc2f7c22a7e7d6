-- The pages of all descriptors that have a struct.
-- ISO/IEC 13818-1, 2.6, and ETSI EN 300 468, 6.2.
use Rattle.std.specs.Prelude.{ℕ, List, [], ◌∷◌, nat_eq, Option}
use Rattle.std.specs.List.{find}
use Rattle.ts_fields.specs.Bodies.{Page}
use Rattle.ts_pages.specs.MpegPages.{registration, data_stream_alignment, ca, language, maximum_bitrate}
use Rattle.ts_pages.specs.DvbPages.{network_name, service_list, bouquet_name, service, short_event, component, stream_identifier, ca_identifier, content, parental_rating, teletext, subtitling, private_data_specifier}
use Rattle.ts_pages.specs.DeliveryPages.{satellite, cable, terrestrial}

-- the pages, in the order of their tags
abbrev pub pages : List Page
pages =
    registration
    ∷ data_stream_alignment
    ∷ ca
    ∷ language
    ∷ maximum_bitrate
    ∷ network_name
    ∷ service_list
    ∷ satellite
    ∷ cable
    ∷ bouquet_name
    ∷ service
    ∷ short_event
    ∷ component
    ∷ stream_identifier
    ∷ ca_identifier
    ∷ content
    ∷ parental_rating
    ∷ teletext
    ∷ subtitling
    ∷ terrestrial
    ∷ private_data_specifier
    ∷ []

-- the page of a tag; none where it has none
abbrev pub page_of : ℕ → Option Page
page_of tag = find (λ p. nat_eq tag p.tag) pages
