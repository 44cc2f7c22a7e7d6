use Rattle.plug_info_state.proofs.other_tables.OtherTables.feed.Goals as goal

pub returns : goal.returns
returns c = λ fed w. record {
  cat = c.in_ok-feed.ensures fed w.cat;
  nit = c.in_ok-feed-2.ensures.fed fed w.nit;
  eit = c.in_ok-feed-3.ensures.fed fed w.eit;
}
