use Rattle.std.proofs.Common.{subst}
use Rattle.stage_run.specs.Seeing.{seeing}
use Rattle.chain_plays.specs.Played.{RunsTo}
use Rattle.chain_plays.proofs.PlayedLemmas.{the_end, ran}
use Rattle.chain_plays.proofs.played.played_out.Goals as goal

pub cut_of-requires : goal.cut_of-requires
cut_of-requires g c =
    let see = seeing g.S.Source.seen g.K.Sink.seen g.P.Plugin.rule g.P.Plugin.stands_for g.P.Plugin.preallocated in
    let e = c.requires.3 in
    let end = c.args.end in
    the_end see c.requires.0 e.valid e.plugins c.requires.1 end.input end.plugins.items c.requires.2 end.output c.in-Ok.closed
    (subst (RunsTo see c.requires.0 c.requires.1 end.input end.plugins.items c.requires.2 end.output) c.in-Ok.is e.runs)

pub returns-in-Ok : goal.returns-in-Ok
returns-in-Ok g c = λ plan source to e.
    let see = seeing g.S.Source.seen g.K.Sink.seen g.P.Plugin.rule g.P.Plugin.stands_for g.P.Plugin.preallocated in
    let end = c.args.end in
    ran see plan e.valid e.plugins source end.input end.plugins.items to end.output c.in-Ok.closed
    (subst (RunsTo see plan source end.input end.plugins.items to end.output) c.in-Ok.is e.runs) c.in-Stream.source c.in-Stream.is c.cut_of.result c.cut_of.ensures
