use Rattle.monitor_priorities.specs.WrongTables.{is_read}
use Rattle.monitor_priorities.proofs.crc_row.CrcRow.new.Goals as goal

pub returns : goal.returns
returns c = c.new.ensures tt is_read
