use Rattle.std.proofs.Common.{◌≡◌, ◌++◌, length, take, drop, ap, arith, subst, sym, ◌∙◌}
use Rattle.stage_run.specs.Seeing.{seeing}
use Rattle.chain_threads.specs.Beginning.{seated, parts_of, seats_of}
use Rattle.chain_threads.specs.Driving.{AreReady, Keeps, Carried}
use Rattle.chain_threads.specs.Over.{AllHaveEnded}
use Rattle.chain_threads.proofs.SeatLemmas.{are_ready, all_ended, seated_length, same_number, beside_length, take_front}
use Rattle.chain_threads.proofs.threaded_run.drive_parts.Goals as goal

pub drive_all-requires-clause-ready : goal.drive_all-requires-clause-ready
drive_all-requires-clause-ready g c κs within =
    let see = seeing g.S.Source.seen g.K.Sink.seen g.P.Plugin.rule g.P.Plugin.stands_for g.P.Plugin.preallocated in
    let is : c.seat_all.new.stages.items ≡ seated c.args.parts.now.items c.args.seats.now.items = c.seat_all.ensures.stages ∙ ap (λ l. l ++ seated c.args.parts.now.items c.args.seats.now.items) c.requires.none in
    subst (AreReady see c.args.ring.now) (sym (c.deref_mut.ensures.value ∙ is)) (are_ready see c.requires.new.0 c.args.ring.now c.args.parts.now.items c.args.seats.now.items c.requires.new.1 c.run_laws.ensures)

pub unseat_all-requires-clause-parts : goal.unseat_all-requires-clause-parts
unseat_all-requires-clause-parts g c =
    let see = seeing g.S.Source.seen g.K.Sink.seen g.P.Plugin.rule g.P.Plugin.stands_for g.P.Plugin.preallocated in
    let is : c.seat_all.new.stages.items ≡ seated c.args.parts.now.items c.args.seats.now.items = c.seat_all.ensures.stages ∙ ap (λ l. l ++ seated c.args.parts.now.items c.args.seats.now.items) c.requires.none in
    let same = same_number see c.requires.new.0 c.args.ring.now c.args.parts.now.items c.args.seats.now.items c.requires.new.1 in
    omega (arith, ap (λ l. length l) is, ap (λ l. length l) c.seat_all.ensures.no_part, seated_length c.args.parts.now.items c.args.seats.now.items same, c.seat_all.ensures.parts_room)

pub unseat_all-requires-clause-seats : goal.unseat_all-requires-clause-seats
unseat_all-requires-clause-seats g c =
    let see = seeing g.S.Source.seen g.K.Sink.seen g.P.Plugin.rule g.P.Plugin.stands_for g.P.Plugin.preallocated in
    let is : c.seat_all.new.stages.items ≡ seated c.args.parts.now.items c.args.seats.now.items = c.seat_all.ensures.stages ∙ ap (λ l. l ++ seated c.args.parts.now.items c.args.seats.now.items) c.requires.none in
    let same = same_number see c.requires.new.0 c.args.ring.now c.args.parts.now.items c.args.seats.now.items c.requires.new.1 in
    omega (arith, ap (λ l. length l) is, ap (λ l. length l) c.seat_all.ensures.no_seat, seated_length c.args.parts.now.items c.args.seats.now.items same, same, c.seat_all.ensures.seats_room)

pub returns : goal.returns
returns g c = λ begun new.
    let see = seeing g.S.Source.seen g.K.Sink.seen g.P.Plugin.rule g.P.Plugin.stands_for g.P.Plugin.preallocated in
    let ring = c.args.ring.now in
    let stages = c.drive_all.new.stages in
    let is : c.seat_all.new.stages.items ≡ seated c.args.parts.now.items c.args.seats.now.items = c.seat_all.ensures.stages ∙ ap (λ l. l ++ seated c.args.parts.now.items c.args.seats.now.items) c.requires.none in
    let carried : Carried see ring (seated c.args.parts.now.items c.args.seats.now.items) stages = subst (λ l. Carried see ring l stages) (c.deref_mut.ensures.value ∙ is) c.drive_all.ensures.carried in
    let same = same_number see begun ring c.args.parts.now.items c.args.seats.now.items new in
    let many : c.seat_all.new.stages.len ≡ length stages =
    omega (arith, ap (λ l. length l) is, seated_length c.args.parts.now.items c.args.seats.now.items same, beside_length (Keeps see ring) (seated c.args.parts.now.items c.args.seats.now.items) stages carried) in
    let whole : take c.seat_all.new.stages.len (stages ++ drop (length stages) c.seat_all.new.stages.items) ≡ stages = take_front stages (drop (length stages) c.seat_all.new.stages.items) c.seat_all.new.stages.len many in
    let parts : c.unseat_all.new.parts.items ≡ parts_of stages = c.unseat_all.ensures.parts ∙ ap (λ l. c.seat_all.new.parts.items ++ parts_of l) whole ∙ ap (λ l. l ++ parts_of stages) c.seat_all.ensures.no_part in
    let seats : c.unseat_all.new.seats.items ≡ seats_of stages = c.unseat_all.ensures.seats ∙ ap (λ l. c.seat_all.new.seats.items ++ seats_of l) whole ∙ ap (λ l. l ++ seats_of stages) c.seat_all.ensures.no_seat in
    subst (λ l. AllHaveEnded see begun ring.table.shared.key.base ring.table.shared.table_id l c.unseat_all.new.parts.items) (sym seats)
    (subst (λ l. AllHaveEnded see begun ring.table.shared.key.base ring.table.shared.table_id (seats_of stages) l) (sym parts)
    (all_ended see begun ring c.args.parts.now.items c.args.seats.now.items new c.run_laws.ensures stages carried c.drive_all.ensures.ended))
