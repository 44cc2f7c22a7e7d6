use Rattle.plug_info_state.proofs.SdtLemmas.{tables-fed}
use Rattle.plug_info_state.proofs.sdt_and_bats.SdtAndBats.feed.Goals as goal

pub returns : goal.returns
returns c = λ fed w.
    tables-fed c.args.self.now _ fed c.args.packet.now _ c.in_ok-tables.tables.items w (c.in_ok-tables.ensures.stands fed w.sdt)
    (c.in_ok-tables.ensures.completes fed w.sdt) c.deref.ensures.value c.in_ok-keep_bats.ensures
