-- The services that words of a command line mean.
-- ETSI EN 300 468, 5.2.3: an SDT has services, each with its service_id and descriptors. This project's own rule: a word is a
-- number, or it is a name, which is that of the first service of the SDT in force with it. A name is compared as the text
-- that is shown of its bytes, letter for letter. Of several services with one number the first one tells the name, and of
-- several service_descriptors the first. A name that no service has means none.
use Rattle.std.specs.Prelude.{ℕ, Bool, false, ◌&&◌, List, bytes_eq, find, is_none, map, Option, Some, None}
use Rattle.std.specs.List.{filter_map}
use Rattle.std.specs.Option.{option_and_then, option_map_or}
use Rattle.ts_charsets.specs.ShownTexts.{shown_text}
use Rattle.ts_table_rows.specs.TableValues.{ItemHolding, TableHolding}
use Rattle.plug_psi.specs.NumbersHeld.{number_at}
use Rattle.named_services.specs.SdtInForce.{items_in, sdt_of, service_body}
use Rattle.named_services.specs.ServiceLists.{each_once}
use Rattle.named_services.specs.ServiceNames.{name_in}
use Rattle.named_services.specs.ServiceWords.{has_name}
use Rattle.named_services.specs.declared.service_word.ServiceWord.{ServiceWord}
use Rattle.named_services.specs.declared.service_word.ServiceWord.TheVariants.{Number, Name}

-- the name of a service in an SDT, as it is shown; none if it has none, or if a byte of it has no character
abbrev pub shown_name : Option TableHolding → ℕ → Option (List ℕ)
shown_name sdt id = option_and_then shown_text (name_in (service_body sdt id))

-- whether a number is that of a service with this name
abbrev pub is_named : List ℕ → Option TableHolding → ℕ → Bool
is_named name sdt id = option_map_or (bytes_eq name) (shown_name sdt id) false

-- the number of a service
abbrev pub number_of : ItemHolding → ℕ
number_of item = number_at item.values 0

-- the number of the first service that has a name
abbrev pub service_named : List ℕ → Option TableHolding → Option ℕ
service_named name sdt = find (is_named name sdt) (map number_of (items_in sdt))

-- the number that a word means where this SDT, if any, is in force
abbrev pub number_by : Option TableHolding → ServiceWord → Option ℕ
number_by sdt (Number id) = Some id
number_by sdt (Name name) = service_named name sdt

-- the numbers that words mean, each once
abbrev pub numbers_by : List ServiceWord → Option TableHolding → List ℕ
numbers_by words sdt = each_once (filter_map (number_by sdt) words)

-- the numbers that words mean after some packets of any PID
unfoldable pub services_after : List ServiceWord → List (List ℕ) → List ℕ
services_after words packets = numbers_by words (sdt_of packets)

-- whether a word is a name, and no SDT is in force, so that it is not known yet what the words mean
abbrev pub are_unknown : List ServiceWord → List (List ℕ) → Bool
are_unknown words packets = has_name words && is_none (sdt_of packets)
