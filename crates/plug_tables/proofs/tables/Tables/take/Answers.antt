use Rattle.std.proofs.Common.{sym, ◌∙◌, true≢false}
use Rattle.ts_packet.specs.Cells.{live_packets}
use Rattle.plug_tables.proofs.ToldLemmas.{tells_live}
use Rattle.plug_tables.proofs.tables.Tables.take.Goals as goal

pub returns-clause-met : goal.returns-clause-met
returns-clause-met c = λ history mark w count labels.
    tells_live c.args.self.now.reader c.meet.new.self c.args.self.now.tids c.args.self.now.told.items c.tell_tables.new.told.items history mark c.args.packet.now labels c.args.at c.pid-pid.result
    c.deref.result.now
    w (c.in_ok-tables.ensures.stands (live_packets history) w.met) c.in_ok-tables.ensures.choice (sym count) c.pid-pid.ensures.field
    (c.deref.ensures.value ∙ c.in_ok-tables.ensures.tables (live_packets history) w.met) c.in_ok-tell_tables.ensures.told

pub returns-in_err-tables-clause-quiet : goal.returns-in_err-tables-clause-quiet
returns-in_err-tables-clause-quiet c = λ history mark w unread.
    absurd (true≢false (sym (c.in_err-tables.ensures.quiet (live_packets history) w.met unread).1))

pub returns-in_err-tell_tables-clause-quiet : goal.returns-in_err-tell_tables-clause-quiet
returns-in_err-tell_tables-clause-quiet c = λ history mark w unread.
    absurd (true≢false (sym (c.in_err-tell_tables.ensures.none (c.deref.ensures.value ∙ (c.in_ok-tables.ensures.quiet (live_packets history) w.met unread).0))))
