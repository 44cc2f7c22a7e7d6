-- Networks and bouquets, as `info` shows them. This project's own rule; the JSON has the form of RFC 8259.
use Rattle.std.specs.Prelude.{ℕ, List, ◌++◌, Option, codes}
use Rattle.std.specs.Fmt.{decimal}
use Rattle.plug_info_texts.specs.InfoJson.{bytes_field}
use Rattle.plug_info_texts.specs.InfoTexts.{shown_or_none}

-- `<word> <id> name <text>`: a network or a bouquet
abbrev pub named_text : List ℕ → ℕ → Option (List ℕ) → List ℕ
named_text word id name = word ++ (codes " " ++ (decimal id ++ (codes " name " ++ shown_or_none name)))

-- `{"id":<n>,"name":<text>}`
abbrev pub named_json : ℕ → Option (List ℕ) → List ℕ
named_json id name = codes "{\"id\":" ++ (decimal id ++ (codes "," ++ (bytes_field (codes "name") name ++ codes "}")))

-- `,"network":<object>,"bouquets":<array>`
abbrev pub names_json : List ℕ → List ℕ → List ℕ
names_json network bouquets = codes ",\"network\":" ++ (network ++ (codes ",\"bouquets\":" ++ bouquets))
