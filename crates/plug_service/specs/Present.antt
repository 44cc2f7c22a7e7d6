-- What is in force at a packet, as far as edits of tables go by it.
-- This project's own rule: which services words mean, and which transport stream the PAT is of, after the packets up to there.
use Rattle.std.specs.Prelude.{ℕ, ◌&&◌, Bool, List, false}
use Rattle.plug_psi.specs.InForce.{pat_of}
use Rattle.named_services.specs.NamedServices.{are_unknown, services_after}
use Rattle.named_services.specs.declared.service_word.ServiceWord.{ServiceWord}
use Rattle.service_items.specs.StreamTables.{stream_of}
use Rattle.plug_service.specs.declared.present.Present.{Present}
use Rattle.plug_service.specs.declared.way.Way.{Way}
use Rattle.plug_service.specs.declared.way.Way.TheVariants.{Keep, Remove}

-- what is in force after packets of any PID
abbrev pub present_after : Way → List ServiceWord → List (List ℕ) → Present
present_after way words packets = record {
  way = way;
  services = services_after words packets;
  unknown = are_unknown words packets;
  stream = stream_of (pat_of packets);
}

-- Whether no PAT, and no table on PID 17, is carried: services are kept, and it is not known yet which. So no PAT without
-- services is seen before that with them.
abbrev pub hides : Way → Bool → Bool
hides (Keep kept) unknown = unknown
hides (Remove everywhere) unknown = false
