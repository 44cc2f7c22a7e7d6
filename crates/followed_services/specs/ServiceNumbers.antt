-- The number that a word of a command line means, packet by packet.
-- ETSI EN 300 468, 5.2.3: an SDT has the names of services. This project's own rule: a word is asked at each packet, by the SDT
-- in force with it.
use Rattle.std.specs.Prelude.{ℕ, ◌==◌, ◌&&◌, ◌||◌, Bool, List, Option}
use Rattle.plug_psi.specs.InForce.{may_have_tables}
use Rattle.named_services.specs.NamedServices.{number_by}
use Rattle.named_services.specs.SdtInForce.{sdt_of}
use Rattle.named_services.specs.ServiceWords.{is_name}
use Rattle.named_services.specs.declared.service_word.ServiceWord.{ServiceWord}

-- the number that a word means after some packets of any PID; none where no service has the name
unfoldable pub number_after : ServiceWord → List (List ℕ) → Option ℕ
number_after word packets = number_by (sdt_of packets) word

-- Whether a word may mean another service with a packet on a PID, after some packets: it is a name, and an SDT may come there, or
-- a table in force.
abbrev pub may_rename : ServiceWord → ℕ → List (List ℕ) → Bool
may_rename word pid packets = is_name word && ((pid == 17) || may_have_tables pid packets)
