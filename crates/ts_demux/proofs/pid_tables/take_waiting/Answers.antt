use Rattle.ts_demux.proofs.TablesAfter.{came_all, went_all, went_more, went_none}
use Rattle.ts_demux.proofs.pid_tables.take_waiting.Goals as goal

pub loop-section-init : goal.loop-section-init
loop-section-init c = λ pid taken given h. went_none _ _ pid taken given _ c.new-tables.ensures.items h

pub loop-section-preserved : goal.loop-section-preserved
loop-section-preserved c = λ pid taken given h.
    went_more c.loop-section.demux c.next_section.new.self c.loop-section.assembly c.add.new.self c.in-Some.section c.in_ok-table.table pid taken given c.loop-section.tables.items c.push_table.new.tables.items
    c.in-Some.ensures.first c.in_ok-table.ensures.stands c.in_ok-table.ensures.tables c.in_ok-push_table.ensures (c.loop-section.invariant pid taken given h)

pub returns-clause-stands : goal.returns-clause-stands
returns-clause-stands c = λ pid taken given h.
    went_all _ _ pid taken given _ c.in_default.ensures.none.0 (c.loop-section.invariant pid taken given h) _ c.in_default.ensures.none.1

pub returns-clause-tables : goal.returns-clause-tables
returns-clause-tables c = λ pid taken given h.
    came_all _ _ pid taken given _ c.in_default.ensures.none.0 (c.loop-section.invariant pid taken given h)
