use Rattle.std.proofs.Common.{◌≡◌, ◌++◌, ◌∷◌, [], drop, slice_index_or, ap, sym, ◌∙◌, subst, arith}
use Rattle.stage_run.specs.Seeing.{seeing}
use Rattle.window_ring.specs.Seats.{key_of, table_of}
use Rattle.window_ring.specs.Opening.{IsFresh}
use Rattle.chain_plays.specs.Plays.{began}
use Rattle.chain_plays.proofs.PlayLemmas.{output_new, stage_holds}
use Rattle.chain_plays.proofs.playing.seat_output.Goals as goal

pub returns : goal.returns
returns g c = λ plan source a.
    let see = seeing g.S.Source.seen g.K.Sink.seen g.P.Plugin.rule g.P.Plugin.stands_for g.P.Plugin.preallocated in
    let ring = c.args.now.ring in
    let is : c.remove.result ≡ a.seat = c.remove.ensures.value ∙ ap (λ l. slice_index_or l 0 c.remove.result) a.one_seat in
    let fresh : IsFresh (key_of ring) (table_of ring) 1 c.remove.result = subst (IsFresh (key_of ring) (table_of ring) 1) (sym is) a.fresh in
    record {
      room = record {
        ring = a.ring;
        of_table = a.of_table;
        root = a.root;
        no_seat = c.remove.ensures.items ∙ ap (λ l. drop 1 l) a.one_seat;
        seats_room = (let r = a.seats_room in omega (arith, r, c.remove.ensures.capacity));
        no_part = a.no_part;
        parts_room = a.parts_room;
      };
      stages = record {
        input = a.stage;
        output = c.of.result;
        both = c.push_reserved.ensures.items ∙ ap (λ l. l ++ c.of.result ∷ []) a.one_stage;
        first = a.input.number;
        second = ap (λ s. s.stage) c.of.ensures.seat ∙ fresh.stage;
        input_holds = a.input.holds c.args.output;
        output_holds = stage_holds see plan source ring a.ring c.args.output c.of.result c.of.ensures.over
            (c.of.ensures.stands (began plan source c.args.output) (key_of ring).base (table_of ring)
            (output_new see plan source ring a.ring c.args.output c.of_output-part.result c.remove.result fresh
            c.of_output-part.ensures.kind c.of_output-part.ensures.stream c.of_output-part.ensures.stands));
      };
    }
