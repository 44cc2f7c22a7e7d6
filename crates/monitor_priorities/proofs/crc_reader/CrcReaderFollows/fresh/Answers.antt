use Rattle.monitor_priorities.proofs.Giving.{told_none}
use Rattle.monitor_priorities.proofs.crc_reader.CrcReaderFollows.fresh.Goals as goal

pub returns : goal.returns
returns c = told_none c.in_ok-crcs.crcs c.args.pid c.in_ok-crcs.ensures
