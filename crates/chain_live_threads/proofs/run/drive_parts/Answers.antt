use Rattle.std.proofs.Common.{◌≡◌, ◌++◌, length, take, drop, ap, arith, subst, sym, ◌∙◌}
use Rattle.stage_run.specs.Seeing.{seeing}
use Rattle.chain_run.specs.Runs.{told_to}
use Rattle.chain_tells.specs.Printing.{PrintsLines}
use Rattle.window_ring.specs.Seats.{key_of, table_of}
use Rattle.chain_threads.specs.Over.{AllHaveEnded}
use Rattle.chain_threads.proofs.SeatLemmas.{same_number, take_front}
use Rattle.chain_live_threads.specs.RowStages.{seated, parts_of, seats_of}
use Rattle.chain_live_threads.specs.AllWent.{AllReady, AllWent}
use Rattle.chain_live_threads.specs.Ending.{SeatsHaveTold}
use Rattle.chain_live_threads.proofs.AllLemmas.{all-ready}
use Rattle.chain_live_threads.proofs.SeatLemmas.{key, all-new, as-many, parts-ended, parts-told, seated-length}
use Rattle.chain_live_threads.proofs.run.drive_parts.Goals as goal

pub drive_all-requires-clause-ready : goal.drive_all-requires-clause-ready
drive_all-requires-clause-ready g c κs within =
    let see = (seeing g.S.Source.seen g.K.Sink.seen g.P.Plugin.rule g.P.Plugin.stands_for g.P.Plugin.preallocated) in
    let begun = told_to c.requires.new.0 (λ _. 0) in
    let is : c.seat_all.new.stages.items ≡ seated c.args.parts.now.items c.args.seats.now.items = c.seat_all.ensures.stages ∙ ap (λ l. l ++ seated c.args.parts.now.items c.args.seats.now.items) c.requires.none in
    subst (AllReady see c.args.ring.now 0) (sym (c.deref_mut.ensures.value ∙ is))
    (all-ready see c.args.ring.now 0 c.requires.new.0 (key_of c.args.ring.now).base (seated c.args.parts.now.items c.args.seats.now.items)
    (key see c.run_laws.ensures begun c.args.ring.now c.args.parts.now.items c.args.seats.now.items c.requires.new.1)
    (all-new see c.run_laws.ensures begun c.args.ring.now c.args.parts.now.items c.args.seats.now.items c.requires.new.1))

pub drive_all-requires-clause-rows : goal.drive_all-requires-clause-rows
drive_all-requires-clause-rows g c κs within =
    let see = (seeing g.S.Source.seen g.K.Sink.seen g.P.Plugin.rule g.P.Plugin.stands_for g.P.Plugin.preallocated) in
    let is : c.seat_all.new.stages.items ≡ seated c.args.parts.now.items c.args.seats.now.items = c.seat_all.ensures.stages ∙ ap (λ l. l ++ seated c.args.parts.now.items c.args.seats.now.items) c.requires.none in
    let same = same_number see (told_to c.requires.new.0 (λ _. 0)) c.args.ring.now c.args.parts.now.items c.args.seats.now.items c.requires.new.1 in
    omega (arith, c.requires.rows, ap (λ l. length l) (c.deref_mut.ensures.value ∙ is), seated-length c.args.parts.now.items c.args.seats.now.items same)

pub unseat_all-requires-clause-parts : goal.unseat_all-requires-clause-parts
unseat_all-requires-clause-parts g c =
    let see = (seeing g.S.Source.seen g.K.Sink.seen g.P.Plugin.rule g.P.Plugin.stands_for g.P.Plugin.preallocated) in
    let is : c.seat_all.new.stages.items ≡ seated c.args.parts.now.items c.args.seats.now.items = c.seat_all.ensures.stages ∙ ap (λ l. l ++ seated c.args.parts.now.items c.args.seats.now.items) c.requires.none in
    let same = same_number see (told_to c.requires.new.0 (λ _. 0)) c.args.ring.now c.args.parts.now.items c.args.seats.now.items c.requires.new.1 in
    omega (arith, ap (λ l. length l) is, ap (λ l. length l) c.seat_all.ensures.no_part, seated-length c.args.parts.now.items c.args.seats.now.items same, c.seat_all.ensures.parts_room)

pub unseat_all-requires-clause-seats : goal.unseat_all-requires-clause-seats
unseat_all-requires-clause-seats g c =
    let see = (seeing g.S.Source.seen g.K.Sink.seen g.P.Plugin.rule g.P.Plugin.stands_for g.P.Plugin.preallocated) in
    let is : c.seat_all.new.stages.items ≡ seated c.args.parts.now.items c.args.seats.now.items = c.seat_all.ensures.stages ∙ ap (λ l. l ++ seated c.args.parts.now.items c.args.seats.now.items) c.requires.none in
    let same = same_number see (told_to c.requires.new.0 (λ _. 0)) c.args.ring.now c.args.parts.now.items c.args.seats.now.items c.requires.new.1 in
    omega (arith, ap (λ l. length l) is, ap (λ l. length l) c.seat_all.ensures.no_seat, seated-length c.args.parts.now.items c.args.seats.now.items same, same, c.seat_all.ensures.seats_room)

pub returns-clause-ended : goal.returns-clause-ended
returns-clause-ended g c = λ begun new.
    let see = (seeing g.S.Source.seen g.K.Sink.seen g.P.Plugin.rule g.P.Plugin.stands_for g.P.Plugin.preallocated) in
    let ring = c.args.ring.now in
    let stages = c.drive_all.new.stages in
    let told = c.drive_all.new.telling.told in
    let old = seated c.args.parts.now.items c.args.seats.now.items in
    let is : c.seat_all.new.stages.items ≡ old = c.seat_all.ensures.stages ∙ ap (λ l. l ++ old) c.requires.none in
    let went = subst (λ l. AllWent see ring (PrintsLines g.D.Desk.seen (g.L.LineTexts.text_of c.args.texts.now)) (c.args.printing, c.args.desk.now) (c.drive_all.new.telling.printing, c.drive_all.new.desk) 0 told l stages) (c.deref_mut.ensures.value ∙ is) c.drive_all.ensures.went in
    let many : c.seat_all.new.stages.len ≡ length stages = omega (
      arith,
      ap (λ l. length l) is,
      as-many see c.run_laws.ensures begun ring c.args.parts.now.items c.args.seats.now.items new (PrintsLines g.D.Desk.seen (g.L.LineTexts.text_of c.args.texts.now)) (c.args.printing, c.args.desk.now) (c.drive_all.new.telling.printing, c.drive_all.new.desk) told stages went,
    ) in
    let whole : take c.seat_all.new.stages.len (stages ++ drop (length stages) c.seat_all.new.stages.items) ≡ stages = take_front stages (drop (length stages) c.seat_all.new.stages.items) c.seat_all.new.stages.len many in
    let parts : c.unseat_all.new.parts.items ≡ parts_of stages = c.unseat_all.ensures.parts ∙ ap (λ l. c.seat_all.new.parts.items ++ parts_of l) whole ∙ ap (λ l. l ++ parts_of stages) c.seat_all.ensures.no_part in
    let seats : c.unseat_all.new.seats.items ≡ seats_of stages = c.unseat_all.ensures.seats ∙ ap (λ l. c.seat_all.new.seats.items ++ seats_of l) whole ∙ ap (λ l. l ++ seats_of stages) c.seat_all.ensures.no_seat in
    subst (λ l. AllHaveEnded see (told_to begun (λ _. told)) (key_of ring).base (table_of ring) l c.unseat_all.new.parts.items) (sym seats)
    (subst (λ l. AllHaveEnded see (told_to begun (λ _. told)) (key_of ring).base (table_of ring) (seats_of stages) l) (sym parts)
    (parts-ended see c.run_laws.ensures begun ring c.args.parts.now.items c.args.seats.now.items new (PrintsLines g.D.Desk.seen (g.L.LineTexts.text_of c.args.texts.now)) (c.args.printing, c.args.desk.now) (c.drive_all.new.telling.printing, c.drive_all.new.desk) told stages went))

pub returns-clause-told : goal.returns-clause-told
returns-clause-told g c = λ begun plugins name_of new rules names.
    let see = (seeing g.S.Source.seen g.K.Sink.seen g.P.Plugin.rule g.P.Plugin.stands_for g.P.Plugin.preallocated) in
    let ring = c.args.ring.now in
    let stages = c.drive_all.new.stages in
    let told = c.drive_all.new.telling.told in
    let old = seated c.args.parts.now.items c.args.seats.now.items in
    let is : c.seat_all.new.stages.items ≡ old = c.seat_all.ensures.stages ∙ ap (λ l. l ++ old) c.requires.none in
    let went = subst (λ l. AllWent see ring (PrintsLines g.D.Desk.seen (g.L.LineTexts.text_of c.args.texts.now)) (c.args.printing, c.args.desk.now) (c.drive_all.new.telling.printing, c.drive_all.new.desk) 0 told l stages) (c.deref_mut.ensures.value ∙ is) c.drive_all.ensures.went in
    let many : c.seat_all.new.stages.len ≡ length stages = omega (
      arith,
      ap (λ l. length l) is,
      as-many see c.run_laws.ensures begun ring c.args.parts.now.items c.args.seats.now.items new (PrintsLines g.D.Desk.seen (g.L.LineTexts.text_of c.args.texts.now)) (c.args.printing, c.args.desk.now) (c.drive_all.new.telling.printing, c.drive_all.new.desk) told stages went,
    ) in
    let whole : take c.seat_all.new.stages.len (stages ++ drop (length stages) c.seat_all.new.stages.items) ≡ stages = take_front stages (drop (length stages) c.seat_all.new.stages.items) c.seat_all.new.stages.len many in
    let seats : c.unseat_all.new.seats.items ≡ seats_of stages = c.unseat_all.ensures.seats ∙ ap (λ l. c.seat_all.new.seats.items ++ seats_of l) whole ∙ ap (λ l. l ++ seats_of stages) c.seat_all.ensures.no_seat in
    subst (λ l. SeatsHaveTold see begun plugins name_of (PrintsLines g.D.Desk.seen (g.L.LineTexts.text_of c.args.texts.now)) (c.args.printing, c.args.desk.now) (c.drive_all.new.telling.printing, c.drive_all.new.desk) told l) (sym seats)
    (parts-told see c.run_laws.ensures begun ring c.args.parts.now.items c.args.seats.now.items new (PrintsLines g.D.Desk.seen (g.L.LineTexts.text_of c.args.texts.now)) (c.args.printing, c.args.desk.now) (c.drive_all.new.telling.printing, c.drive_all.new.desk) told stages went
    plugins name_of rules names)
