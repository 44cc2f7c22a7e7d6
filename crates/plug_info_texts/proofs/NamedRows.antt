-- Worked rows of networks, bouquets and EIT sections, computed on the definitions.
use Rattle.std.proofs.Common.{◌≡◌, codes, refl, None, Some}
use Rattle.std.specs.Fmt.{digits}
use Rattle.hex.specs.Hex.{encode_with}
use Rattle.std.specs.Str.{chars, is_utf8}
use lib.Utf8.{encode}
use Rattle.ts_charsets.specs.AlphabetTexts.{single_chars}
use Rattle.ts_charsets.specs.ShownTexts.{shown_text}
use Rattle.ts_charsets.specs.TextTables.{tabled_text}
use Rattle.plug_info_texts.specs.EitTexts.{eit_json, eit_text}
use Rattle.plug_info_texts.specs.NamedTexts.{named_json, named_text, names_json}

-- a network with a name, and a bouquet without one
network-row : named_text (codes "network") 3 (Some (codes "Net")) ≡ codes "network 3 name \"Net\""
unfolding chars encode encode_with is_utf8 shown_text single_chars tabled_text digits
network-row = refl

bouquet-row : named_text (codes "bouquet") 700 None ≡ codes "bouquet 700 name none"
unfolding digits
bouquet-row = refl

network-json : named_json 3 (Some (codes "Net")) ≡ codes "{\"id\":3,\"name\":\"Net\"}"
unfolding chars encode encode_with is_utf8 shown_text single_chars tabled_text digits
network-json = refl

bouquet-json : named_json 700 None ≡ codes "{\"id\":700,\"name\":null}"
unfolding digits
bouquet-json = refl

keys-row : names_json (codes "null") (codes "[]") ≡ codes ",\"network\":null,\"bouquets\":[]"
keys-row = refl

-- twelve sections of the present event and none of the schedule
eit-row : eit_text (record { present = 12; schedule = 0 }) ≡ codes " eit present 12 schedule 0"
unfolding digits
eit-row = refl

eit-json : eit_json (record { present = 0; schedule = 345 }) ≡ codes ",\"eit\":{\"present\":0,\"schedule\":345}"
unfolding digits
eit-json = refl
