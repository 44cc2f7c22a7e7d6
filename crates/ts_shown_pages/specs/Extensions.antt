-- The pages of all extension descriptors that JSON shows by their fields. Written by tools/pages from pages.txt.
-- ETSI EN 300 468, 6.2.16 and 6.4: descriptor_tag 0x7F, and a first byte descriptor_tag_extension. The tag of such a page
-- is that of the extension, and it is read from the bytes after that one. All other extensions have no page.
use Rattle.std.specs.Prelude.{ℕ, List, [], ◌∷◌, nat_eq, bytes_eq, Option, option_map}
use Rattle.std.specs.List.{find}
use Rattle.ts_fields.specs.Bodies.{Page}
use Rattle.ts_groups.specs.Groups.{Group}
use Rattle.ts_shown_pages.specs.ShownPages.{t2_delivery_system, supplementary_audio, supplementary_audio_groups, message, c2_delivery_system, uri_linkage, uri_linkage_groups, ac4, ac4_groups, ttml_subtitling}

-- the descriptor_tag of extension descriptors
abbrev pub extension_tag : ℕ
extension_tag = 0x7F

-- the pages, in the order of their extensions' tags
unfoldable pub extensions : List Page
extensions =
    t2_delivery_system
    ∷ supplementary_audio
    ∷ message
    ∷ c2_delivery_system
    ∷ uri_linkage
    ∷ ac4
    ∷ ttml_subtitling
    ∷ []

-- the page of an extension's tag; none where it has none
abbrev pub extension_of : ℕ → Option Page
extension_of tag = find (λ p. nat_eq tag p.tag) extensions

-- the page of a name; none where no extension has it
abbrev pub extension_named : List ℕ → Option Page
extension_named name = find (λ p. bytes_eq name p.name) extensions

-- the pages whose first fields say which others are there: each extension's tag with the groups of further fields
abbrev pub extension_groups : List (ℕ × List Group)
extension_groups =
    (0x06, supplementary_audio_groups)
    ∷ (0x13, uri_linkage_groups)
    ∷ (0x15, ac4_groups)
    ∷ []

-- the groups of further fields of the page of an extension's tag; none where its fields are always the same
abbrev pub extension_groups_of : ℕ → Option (List Group)
extension_groups_of tag = option_map (λ g. g.1) (find (λ g. nat_eq tag g.0) extension_groups)
