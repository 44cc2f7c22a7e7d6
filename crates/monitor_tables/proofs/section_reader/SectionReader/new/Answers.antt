use Rattle.monitor_tables.proofs.Giving.{read_none}
use Rattle.monitor_tables.proofs.section_reader.SectionReader.new.Goals as goal

pub returns : goal.returns
returns c = read_none c.in_ok-demux.demux c.args.pid c.in_ok-demux.ensures
