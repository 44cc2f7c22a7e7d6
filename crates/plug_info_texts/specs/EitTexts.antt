-- The EIT sections of a service, as `info` shows them. This project's own rule; the JSON has the form of RFC 8259.
use Rattle.std.specs.Prelude.{ℕ, List, ◌++◌, codes}
use Rattle.std.specs.Fmt.{decimal}
use Rattle.plug_info_texts.specs.declared.eit_numbers.EitNumbers.{EitNumbers}

-- ` eit present <n> schedule <n>`, at the end of a service's line
abbrev pub eit_text : EitNumbers → List ℕ
eit_text eit = codes " eit present " ++ (decimal eit.present ++ (codes " schedule " ++ decimal eit.schedule))

-- `,"eit":{"present":<n>,"schedule":<n>}`, in its object
abbrev pub eit_json : EitNumbers → List ℕ
eit_json eit = codes ",\"eit\":{\"present\":" ++ (decimal eit.present ++ (codes ",\"schedule\":" ++ (decimal eit.schedule ++ codes "}")))
