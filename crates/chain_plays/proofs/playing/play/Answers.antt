use Rattle.std.proofs.Common.{sym, subst}
use Rattle.stage_run.specs.Seeing.{seeing}
use Rattle.chain_threads.specs.Driving.{AreReady, Carried}
use Rattle.chain_plays.proofs.PlayLemmas.{both_ready, has_played}
use Rattle.chain_plays.proofs.playing.play.Goals as goal

pub drive_all-requires-clause-ready : goal.drive_all-requires-clause-ready
drive_all-requires-clause-ready g c κs within =
    let see = seeing g.S.Source.seen g.K.Sink.seen g.P.Plugin.rule g.P.Plugin.stands_for g.P.Plugin.preallocated in
    let playing = c.seat_output-playing.ensures c.requires.0 c.requires.1 c.requires.2 in
    let p = c.seat_output-playing.result in
    subst (AreReady see p.ring) (sym c.deref_mut.ensures.value) (both_ready see c.requires.0 c.requires.1 p.ring playing.room.ring c.args.output p.stages.items playing.stages)

pub end_play-requires : goal.end_play-requires
end_play-requires g c =
    let see = seeing g.S.Source.seen g.K.Sink.seen g.P.Plugin.rule g.P.Plugin.stands_for g.P.Plugin.preallocated in
    let playing = c.seat_output-playing.ensures c.requires.0 c.requires.1 c.requires.2 in
    let p = c.seat_output-playing.result in (
      c.requires.0,
      c.requires.1,
      c.args.output,
      has_played see c.requires.0 c.requires.1 c.args.output p c.drive_all.new.stages playing
          (subst (λ l. Carried see p.ring l c.drive_all.new.stages) c.deref_mut.ensures.value c.drive_all.ensures.carried) c.drive_all.ensures.ended,
    )

pub returns-clause-runs : goal.returns-clause-runs
returns-clause-runs g c = λ plan source a.
    let see = seeing g.S.Source.seen g.K.Sink.seen g.P.Plugin.rule g.P.Plugin.stands_for g.P.Plugin.preallocated in
    let playing = c.seat_output-playing.ensures plan source a in
    let p = c.seat_output-playing.result in
    c.end_play.ensures.runs plan source c.args.output (has_played see plan source c.args.output p c.drive_all.new.stages playing
    (subst (λ l. Carried see p.ring l c.drive_all.new.stages) c.deref_mut.ensures.value c.drive_all.ensures.carried) c.drive_all.ensures.ended)
