use Rattle.std.proofs.Common.{subst, sym}
use Rattle.stage_run.specs.Seeing.{seeing}
use Rattle.chain_run.specs.Runs.{began_with}
use Rattle.window_ring.specs.Closing.{IsWhole, ClosedOf}
use Rattle.window_ring.specs.Seats.{key_of, table_of}
use Rattle.chain_threads.proofs.SeatLemmas.{key-is}
use Rattle.chain_threads.proofs.threaded_run.end_run.Goals as goal

pub close-closed-requires-clause-whole : goal.close-closed-requires-clause-whole
close-closed-requires-clause-whole g c =
    let begun = c.requires.ended.0 in
    let ring = c.args.ring in
    subst (λ k. IsWhole k (table_of ring) c.args.seats.items) (sym (key-is ring begun c.requires.ended.1))
    (c.together.ensures.whole begun (key_of ring).base (table_of ring) c.args.seats.items c.args.parts.items c.requires.ended.2)

pub take_apart-input-requires-clause-stages : goal.take_apart-input-requires-clause-stages
take_apart-input-requires-clause-stages g c =
    let begun = c.requires.ended.0 in
    let ring = c.args.ring in
    let closed = c.together.ensures.closed begun (key_of ring).base (table_of ring) c.args.seats.items c.args.parts.items c.close-closed.result c.requires.ended.2
    (subst (λ k. ClosedOf k c.args.seats.items c.close-closed.result) (key-is ring begun c.requires.ended.1) c.close-closed.ensures) in
    c.any_run.ensures.stages begun c.args.parts.items closed.ran

pub returns-clause-runs : goal.returns-clause-runs
returns-clause-runs g c = λ from stuffing plugins to plan is ended.
    let see = seeing g.S.Source.seen g.K.Sink.seen g.P.Plugin.rule g.P.Plugin.stands_for g.P.Plugin.preallocated in
    let begun = began_with see from stuffing plugins to plan in
    let ring = c.args.ring in
    c.any_run.ensures.ends from c.take_apart-input.result.input stuffing plugins c.take_apart-input.result.plugins.items to c.take_apart-input.result.output plan c.close-closed.result c.args.parts.items
    (c.together.ensures.closed begun (key_of ring).base (table_of ring) c.args.seats.items c.args.parts.items c.close-closed.result ended
    (subst (λ k. ClosedOf k c.args.seats.items c.close-closed.result) (key-is ring begun is) c.close-closed.ensures))
    c.take_apart-input.ensures
