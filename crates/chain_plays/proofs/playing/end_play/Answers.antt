use Rattle.std.proofs.Common.{◌≡◌, ◌++◌, [], length, ap, sym, ◌∙◌, subst, arith}
use Rattle.stage_run.specs.Seeing.{seeing}
use Rattle.stage_run.specs.declared.input_part.InputPart.TheVariants.{Stream}
use Rattle.window_ring.specs.Seats.{key_of, table_of}
use Rattle.chain_threads.specs.Beginning.{parts_of, seats_of}
use Rattle.chain_threads.specs.Over.{AllHaveEnded}
use Rattle.chain_plays.specs.declared.ahead.TheConstants.{NO_STUFFING}
use Rattle.chain_plays.specs.Plays.{began}
use Rattle.chain_plays.proofs.PlayLemmas.{many_stages}
use Rattle.chain_plays.proofs.playing.end_play.Goals as goal

pub unseat_all-requires-clause-parts : goal.unseat_all-requires-clause-parts
unseat_all-requires-clause-parts g c =
    let see = seeing g.S.Source.seen g.K.Sink.seen g.P.Plugin.rule g.P.Plugin.stands_for g.P.Plugin.preallocated in
    let p = c.args.playing in
    let played = c.requires.3 in
    let many = many_stages see c.requires.0 c.requires.1 p.ring played.room.ring c.requires.2 p.stages.items played.ended in
    (let r = played.room.parts_room in let n = ap (λ l. length l) played.room.no_part in omega (arith, many, r, n))

pub unseat_all-requires-clause-seats : goal.unseat_all-requires-clause-seats
unseat_all-requires-clause-seats g c =
    let see = seeing g.S.Source.seen g.K.Sink.seen g.P.Plugin.rule g.P.Plugin.stands_for g.P.Plugin.preallocated in
    let p = c.args.playing in
    let played = c.requires.3 in
    let many = many_stages see c.requires.0 c.requires.1 p.ring played.room.ring c.requires.2 p.stages.items played.ended in
    (let r = played.room.seats_room in let n = ap (λ l. length l) played.room.no_seat in omega (arith, many, r, n))

pub returns-clause-runs : goal.returns-clause-runs
returns-clause-runs g c = λ plan source to played.
    let see = seeing g.S.Source.seen g.K.Sink.seen g.P.Plugin.rule g.P.Plugin.stands_for g.P.Plugin.preallocated in
    let p = c.args.playing in
    let parts : c.unseat_all.new.parts.items ≡ parts_of p.stages.items = c.unseat_all.ensures.parts ∙ ap (λ l. l ++ parts_of p.stages.items) played.room.no_part in
    let seats : c.unseat_all.new.seats.items ≡ seats_of p.stages.items = c.unseat_all.ensures.seats ∙ ap (λ l. l ++ seats_of p.stages.items) played.room.no_seat in
    c.end_run.ensures.runs (Stream source) NO_STUFFING [] to plan played.room.ring.plan_is
    (subst (λ l. AllHaveEnded see (began plan source to) (key_of p.ring).base (table_of p.ring) l c.unseat_all.new.parts.items) (sym seats)
    (subst (λ l. AllHaveEnded see (began plan source to) (key_of p.ring).base (table_of p.ring) (seats_of p.stages.items) l) (sym parts) played.ended))
