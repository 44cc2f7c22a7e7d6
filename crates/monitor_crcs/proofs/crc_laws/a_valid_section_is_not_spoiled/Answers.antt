use Rattle.monitor_crcs.proofs.Spoiling.{right-crc}
use Rattle.monitor_crcs.proofs.crc_laws.a_valid_section_is_not_spoiled.Goals as goal

pub returns : goal.returns
returns c = λ piece is long. right-crc piece (is.long long).crc
