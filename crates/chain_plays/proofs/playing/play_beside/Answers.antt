use Rattle.std.proofs.Common.{◌≡◌, List, length, ap, sym, subst}
use Rattle.stage_run.specs.Seeing.{seeing}
use Rattle.chain_threads.specs.Driving.{AreReady, Carried}
use Rattle.chain_plays.proofs.PlayLemmas.{both_ready, has_played, ahead_ready, ahead_carried}
use Rattle.chain_plays.proofs.playing.play_beside.Goals as goal

pub drive_beside-requires-clause-ready : goal.drive_beside-requires-clause-ready
drive_beside-requires-clause-ready g c κs within =
    let see = seeing g.S.Source.seen g.K.Sink.seen g.P.Plugin.rule g.P.Plugin.stands_for g.P.Plugin.preallocated in
    let n = c.requires.now in
    let playing = c.seat_output-playing.ensures n.0 n.1 n.2 in
    let p = c.seat_output-playing.result in
    subst (AreReady see p.ring) (sym c.deref_mut.ensures.value) (both_ready see n.0 n.1 p.ring playing.room.ring c.args.output p.stages.items playing.stages)

pub drive_beside-requires-clause-one : goal.drive_beside-requires-clause-one
drive_beside-requires-clause-one g c κs within =
    subst (λ (l : List _). length l ≡ 1) (sym c.deref_mut-2.ensures.value) (ap (λ (l : List _). length l) c.requires.next.2.one_stage)

pub drive_beside-requires-clause-next : goal.drive_beside-requires-clause-next
drive_beside-requires-clause-next g c κs within =
    let see = seeing g.S.Source.seen g.K.Sink.seen g.P.Plugin.rule g.P.Plugin.stands_for g.P.Plugin.preallocated in
    let n = c.requires.next in
    subst (AreReady see c.args.next.now.ring) (sym c.deref_mut-2.ensures.value) (ahead_ready see n.0 n.1 c.args.next.now n.2)

pub end_play-requires : goal.end_play-requires
end_play-requires g c =
    let see = seeing g.S.Source.seen g.K.Sink.seen g.P.Plugin.rule g.P.Plugin.stands_for g.P.Plugin.preallocated in
    let n = c.requires.now in
    let playing = c.seat_output-playing.ensures n.0 n.1 n.2 in
    let p = c.seat_output-playing.result in (
      n.0,
      n.1,
      c.args.output,
      has_played see n.0 n.1 c.args.output p c.drive_beside.new.stages playing
          (subst (λ l. Carried see p.ring l c.drive_beside.new.stages) c.deref_mut.ensures.value c.drive_beside.ensures.carried) c.drive_beside.ensures.ended,
    )

pub returns-clause-runs : goal.returns-clause-runs
returns-clause-runs g c = λ plan source a.
    let see = seeing g.S.Source.seen g.K.Sink.seen g.P.Plugin.rule g.P.Plugin.stands_for g.P.Plugin.preallocated in
    let playing = c.seat_output-playing.ensures plan source a in
    let p = c.seat_output-playing.result in
    c.end_play.ensures.runs plan source c.args.output (has_played see plan source c.args.output p c.drive_beside.new.stages playing
    (subst (λ l. Carried see p.ring l c.drive_beside.new.stages) c.deref_mut.ensures.value c.drive_beside.ensures.carried) c.drive_beside.ensures.ended)

pub returns-clause-next : goal.returns-clause-next
returns-clause-next g c = λ plan source a.
    let see = seeing g.S.Source.seen g.K.Sink.seen g.P.Plugin.rule g.P.Plugin.stands_for g.P.Plugin.preallocated in
    ahead_carried see plan source c.args.next.now c.drive_beside.new.next_stages a
    (subst (λ l. Carried see c.args.next.now.ring l c.drive_beside.new.next_stages) c.deref_mut-2.ensures.value c.drive_beside.ensures.next)
