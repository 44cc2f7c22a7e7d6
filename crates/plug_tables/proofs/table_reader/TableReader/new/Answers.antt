use Rattle.plug_tables.specs.WatchedPackets.{is_watched}
use Rattle.plug_tables.proofs.WatchedLemmas.{choice_is}
use Rattle.plug_tables.proofs.table_reader.TableReader.new.Goals as goal

pub returns-clause-choice : goal.returns-clause-choice
returns-clause-choice c = choice_is c.args.list.now _ _ c.in_ok-pids_of.ensures c.is_empty.ensures

pub returns-clause-fresh : goal.returns-clause-fresh
returns-clause-fresh c = record { fed = c.in_ok-new.ensures; entries = c.new-2.ensures tt (is_watched _) }
