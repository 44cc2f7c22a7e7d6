use Rattle.monitor_crcs.proofs.Spoiling.{whole_piece}
use Rattle.monitor_crcs.proofs.crc_laws.a_spoiled_piece_lacks_its_crc_alone.Goals as goal

pub returns : goal.returns
returns c = λ piece bytes no_stuffing in_range whole long has none. whole_piece piece bytes no_stuffing in_range whole long has none
