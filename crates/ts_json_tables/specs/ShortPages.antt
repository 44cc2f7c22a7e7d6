-- The tables of the short form that are fields, or items up to the end of the section.
-- ETSI EN 300 468, 5.2.5 (TDT) and 5.2.7 (RST). A page is one as those of descriptors, with the table_id as its tag.
use Rattle.std.specs.Prelude.{ℕ, List, [], ◌∷◌, bytes_eq, codes, find, nat_eq, Option}
use Rattle.ts_fields.specs.declared.field.Kind.TheVariants.{Number, Reserved, Start}
use Rattle.ts_fields.specs.Bodies.{Page}
use Rattle.ts_fields.specs.Layout.{Row}
use Rattle.ts_pages.specs.PageRows.{field, of_fields, of_items}

-- the date and the time in UTC
abbrev pub time_row : Row
time_row = field (codes "UTC_time") Start

-- time and date
abbrev pub tdt_page : Page
tdt_page = of_fields 0x70 (codes "TDT") (time_row ∷ [])

-- the running status of events, each event an item
abbrev pub rst_page : Page
rst_page = of_items 0x71 (codes "RST") (codes "event") (
    field (codes "transport_stream_id") (Number 16)
    ∷ field (codes "original_network_id") (Number 16)
    ∷ field (codes "service_id") (Number 16)
    ∷ field (codes "event_id") (Number 16)
    ∷ field (codes "reserved") (Reserved 5)
    ∷ field (codes "running_status") (Number 3)
    ∷ [])

-- their pages
abbrev pub short_pages : List Page
short_pages = tdt_page ∷ rst_page ∷ []

-- the page with a table_id
abbrev pub short_page_of : ℕ → Option Page
short_page_of id = find (λ p. nat_eq id p.tag) short_pages

-- the page with an element name
abbrev pub short_page_named : List ℕ → Option Page
short_page_named name = find (λ p. bytes_eq name p.name) short_pages
