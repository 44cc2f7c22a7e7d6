use Rattle.section_flow.proofs.FlowLemmas.{met-none}
use Rattle.section_flow.proofs.flow.Flow.new.Goals as goal

pub returns : goal.returns
returns c = λ edit. met-none c.in_ok-demux.demux c.new-packing.result c.unset.result c.args.pid edit c.unset.ensures c.new-packing.ensures c.in_ok-demux.ensures
