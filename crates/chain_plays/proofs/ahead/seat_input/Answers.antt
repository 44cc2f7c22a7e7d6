use Rattle.std.proofs.Common.{◌≡◌, ◌++◌, ◌∷◌, [], drop, slice_index_or, ap, sym, ◌∙◌, subst, arith}
use Rattle.stage_run.specs.Seeing.{seeing}
use Rattle.window_ring.specs.Seats.{key_of, table_of}
use Rattle.window_ring.specs.Opening.{IsFresh}
use Rattle.chain_plays.specs.Plays.{began}
use Rattle.chain_plays.proofs.PlayLemmas.{seats_apart, ring_of_new, input_new, stage_holds}
use Rattle.chain_plays.proofs.ahead.seat_input.Goals as goal

pub returns : goal.returns
returns g c = λ plan valid none new.
    let see = seeing g.S.Source.seen g.K.Sink.seen g.P.Plugin.rule g.P.Plugin.stands_for g.P.Plugin.preallocated in
    let ring = c.args.memory.ring.ring in
    let of = ring_of_new plan c.args.memory.ring valid none new in
    let seats = seats_apart plan c.args.memory.ring none new in
    let is : c.remove-seat.result ≡ seats.first = c.remove-seat.ensures.value ∙ ap (λ l. slice_index_or l 0 c.remove-seat.result) seats.seats_are in
    let fresh : IsFresh (key_of ring) (table_of ring) 0 c.remove-seat.result = subst (IsFresh (key_of ring) (table_of ring) 0) (sym is) seats.first_fresh in
    record {
      ring = of;
      of_table = new.of_table;
      root = (_, new.root);
      seat = seats.second;
      one_seat = c.remove-seat.ensures.items ∙ ap (λ l. drop 1 l) seats.seats_are;
      fresh = seats.second_fresh;
      seats_room = (let a = new.all in omega (arith, a, c.remove-seat.ensures.capacity));
      stage = c.of.result;
      one_stage = c.push_reserved.ensures.items ∙ ap (λ l. l ++ c.of.result ∷ []) c.requires.no_stage;
      input = record {
        number = ap (λ s. s.stage) c.of.ensures.seat ∙ fresh.stage;
        holds = λ to. stage_holds see plan c.args.source ring of to c.of.result c.of.ensures.over
            (c.of.ensures.stands (began plan c.args.source to) (key_of ring).base (table_of ring)
            (input_new see plan c.args.source ring of to c.of_input-part.result c.remove-seat.result fresh
            c.of_input-part.ensures.kind c.of_input-part.ensures.stream c.of_input-part.ensures.stuffing c.of_input-part.ensures.stands c.of_input-part.ensures.gives));
      };
      stages_room = c.push_reserved.ensures.capacity ∙ c.requires.stages;
      no_part = c.requires.no_part;
      parts_room = c.requires.parts;
    }
