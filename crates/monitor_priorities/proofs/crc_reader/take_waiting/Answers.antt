use Rattle.std.proofs.Common.{List, ℕ, ◌++◌, ap, sym, subst, append-nil, ◌∙◌}
use Rattle.monitor_crcs.specs.ReaderState.{ReaderState, StandsFor}
use Rattle.monitor_crcs.specs.WrongCrcs.{told_of_pid}
use Rattle.monitor_priorities.proofs.Giving.{all_given, given_more}
use Rattle.monitor_priorities.proofs.crc_reader.take_waiting.Goals as goal

pub loop-table-init : goal.loop-table-init
loop-table-init c = λ pid fed given stands.
    subst (StandsFor c.args.crcs.now pid fed) (sym (ap (λ (ts : List ℕ). given ++ ts) c.new-tables.ensures.items ∙ append-nil given)) stands

pub loop-table-preserved : goal.loop-table-preserved
loop-table-preserved c = λ pid fed given stands.
    given_more c.next_table.new.self pid fed given c.loop-table.tables.items c.push.new.self.items c.in-Some.table c.in_ok-push.ensures.items
    (c.in-Some.ensures.first.stands pid fed (given ++ c.loop-table.tables.items) (c.loop-table.invariant pid fed given stands))

pub returns-clause-stands : goal.returns-clause-stands
returns-clause-stands c = λ pid fed given stands.
    let all = all_given c.loop-table.crcs pid fed (given ++ c.loop-table.tables.items) c.in_default.ensures.none.0 (c.loop-table.invariant pid fed given stands) in
    subst (λ (d : ReaderState). StandsFor d pid fed (told_of_pid pid fed)) (sym c.in_default.ensures.none.1)
    (subst (StandsFor c.loop-table.crcs pid fed) (sym all) (c.loop-table.invariant pid fed given stands))

pub returns-clause-tables : goal.returns-clause-tables
returns-clause-tables c = λ pid fed given stands.
    all_given c.loop-table.crcs pid fed (given ++ c.loop-table.tables.items) c.in_default.ensures.none.0 (c.loop-table.invariant pid fed given stands)
