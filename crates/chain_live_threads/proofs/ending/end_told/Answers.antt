use Rattle.std.proofs.Common.{map, subst, sym, arith}
use Rattle.std.proofs.lemmas.List.{length-map}
use Rattle.stage_run.specs.Seeing.{seeing, heard_rule}
use Rattle.chain_run.specs.Runs.{began_with, told_to}
use Rattle.chain_tells.specs.Printing.{PrintsLines}
use Rattle.window_ring.specs.Closing.{IsWhole, ClosedOf}
use Rattle.window_ring.specs.Seats.{key_of, table_of}
use Rattle.chain_threads.proofs.SeatLemmas.{key-is}
use Rattle.chain_live_threads.proofs.EndLemmas.{closed-by, given-all, told-right}
use Rattle.chain_live_threads.proofs.LastLemmas.{of-one, live-ended, as-many}
use Rattle.chain_live_threads.proofs.ending.end_told.Goals as goal

pub close-closed-requires-clause-whole : goal.close-closed-requires-clause-whole
close-closed-requires-clause-whole g c =
    let see = (seeing g.S.Source.seen g.K.Sink.seen g.P.Plugin.rule g.P.Plugin.stands_for g.P.Plugin.preallocated) in let r = c.requires.ended in let ring = c.args.ring in
    let begun = told_to (began_with see r.0 r.1 r.2 r.3 r.4) (λ _. c.args.telling.told) in
    subst (λ k. IsWhole k (table_of ring) c.args.seats.items) (sym (key-is ring begun r.5))
    (c.together.ensures.whole begun (key_of ring).base (table_of ring) c.args.seats.items c.args.parts.items r.6)

pub take_apart-input-requires-clause-stages : goal.take_apart-input-requires-clause-stages
take_apart-input-requires-clause-stages g c =
    let see = (seeing g.S.Source.seen g.K.Sink.seen g.P.Plugin.rule g.P.Plugin.stands_for g.P.Plugin.preallocated) in let r = c.requires.ended in let ring = c.args.ring in
    let begun = told_to (began_with see r.0 r.1 r.2 r.3 r.4) (λ _. c.args.telling.told) in
    let closed = c.together.ensures.closed begun (key_of ring).base (table_of ring) c.args.seats.items c.args.parts.items c.close-closed.result r.6
    (subst (λ k. ClosedOf k c.args.seats.items c.close-closed.result) (key-is ring begun r.5) c.close-closed.ensures) in
    c.any_run.ensures.stages begun c.args.parts.items closed.ran

pub tell_rest-all_told-requires-clause-rows : goal.tell_rest-all_told-requires-clause-rows
tell_rest-all_told-requires-clause-rows g c = λ κs within.
    let see = (seeing g.S.Source.seen g.K.Sink.seen g.P.Plugin.rule g.P.Plugin.stands_for g.P.Plugin.preallocated) in let r = c.requires.ended in let ring = c.args.ring in
    let told = c.args.telling.told in
    let begun = told_to (began_with see r.0 r.1 r.2 r.3 r.4) (λ _. told) in
    let has = c.together.ensures.closed begun (key_of ring).base (table_of ring) c.args.seats.items c.args.parts.items c.close-closed.result r.6
    (subst (λ k. ClosedOf k c.args.seats.items c.close-closed.result) (key-is ring begun r.5) c.close-closed.ensures) in
    let closes = c.any_run.ensures.told r.0 c.take_apart-input.result.input r.1 r.2 c.take_apart-input.result.plugins.items r.3 c.take_apart-input.result.output r.4 c.close-closed.result c.args.parts.items (λ _. told) has c.take_apart-input.ensures in
    let many = as-many see r.2 c.take_apart-input.result.plugins.items closes.run.rules in
    let rules = r.6.run.rules_are in
    let parts = r.6.parts_are in
    let none = length-map r.2 (heard_rule see) in
    omega (arith, c.requires.rows, many, rules, parts, none)

pub tell_rest-all_told-requires-clause-met : goal.tell_rest-all_told-requires-clause-met
tell_rest-all_told-requires-clause-met g c = λ κs within.
    let see = (seeing g.S.Source.seen g.K.Sink.seen g.P.Plugin.rule g.P.Plugin.stands_for g.P.Plugin.preallocated) in let r = c.requires.ended in let ring = c.args.ring in
    let told = c.args.telling.told in
    let begun = told_to (began_with see r.0 r.1 r.2 r.3 r.4) (λ _. told) in
    let has = c.together.ensures.closed begun (key_of ring).base (table_of ring) c.args.seats.items c.args.parts.items c.close-closed.result r.6
    (subst (λ k. ClosedOf k c.args.seats.items c.close-closed.result) (key-is ring begun r.5) c.close-closed.ensures) in
    let closes = c.any_run.ensures.told r.0 c.take_apart-input.result.input r.1 r.2 c.take_apart-input.result.plugins.items r.3 c.take_apart-input.result.output r.4 c.close-closed.result c.args.parts.items (λ _. told) has c.take_apart-input.ensures in (
      map (heard_rule see) r.2,
      closes.run.list,
      closes.run.gave,
      told,
      of-one see told (map (heard_rule see) r.2) closes.run.list closes.run.gave c.close-closed.result.cut 0 c.take_apart-input.result.plugins.items closes.run.met,
    )

pub returns-clause-closed : goal.returns-clause-closed
returns-clause-closed g c = λ plugins name_of from stuffing met_none to plan first is ended t.
    let see = (seeing g.S.Source.seen g.K.Sink.seen g.P.Plugin.rule g.P.Plugin.stands_for g.P.Plugin.preallocated) in let ring = c.args.ring in
    let told = c.args.telling.told in
    let closed = c.close-closed.result in
    let made = c.take_apart-input.result.plugins.items in
    let left = c.tell_rest-all_told.new.plugins.items in
    let fresh = began_with see from stuffing met_none to plan in
    let begun = told_to fresh (λ _. told) in
    let by = closed-by see begun (key_of ring).base (table_of ring) c.args.seats.items c.args.parts.items ended c.run_laws.ensures c.one_run.ensures closed
    (subst (λ k. ClosedOf k c.args.seats.items closed) (key-is ring begun is) c.close-closed.ensures) in
    let visits = by.has.ran.visits in
    let run = by.has.ran.by.run in
    let users = ended.run.valid.users in
    let closes = c.any_run.ensures.told from c.take_apart-input.result.input stuffing met_none made to c.take_apart-input.result.output plan closed c.args.parts.items (λ _. told) by.has c.take_apart-input.ensures in
    let given = given-all see c.run_laws.ensures fresh plugins name_of (PrintsLines g.D.Desk.seen (g.L.LineTexts.text_of c.args.texts.now)) first (c.args.telling.printing, c.args.desk.now) told c.args.seats.items ended.seats_are t users visits run by.since closes.run.list closes.kept in
    let right = told-right see c.run_laws.ensures fresh plugins name_of (PrintsLines g.D.Desk.seen (g.L.LineTexts.text_of c.args.texts.now)) first (c.args.telling.printing, c.args.desk.now) told c.args.seats.items ended.seats_are t users visits run by.since closes.run.list closes.kept in
    live-ended see from c.take_apart-input.result.input stuffing met_none made to c.take_apart-input.result.output plan closed plugins name_of (PrintsLines g.D.Desk.seen (g.L.LineTexts.text_of c.args.texts.now)) first (c.args.telling.printing, c.args.desk.now) told c.args.seats.items t visits closes
    (omega (arith, given, closes.gave)) right c.tell_rest-all_told.result left (c.tell_rest-all_told.new.telling.printing, c.tell_rest-all_told.new.desk)
    (c.tell_rest-all_told.ensures.tells (map (heard_rule see) met_none) closes.run.list closes.run.gave told
    (of-one see told (map (heard_rule see) met_none) closes.run.list closes.run.gave closed.cut 0 made closes.run.met))
    c.tell_rest-all_told.ensures.rules
