use Rattle.std.proofs.Common.{refl}
use Rattle.stage_run.specs.Seeing.{seeing}
use Rattle.chain_live_threads.proofs.NoteLemmas.{kind-is, after-taken, gave-lines}
use Rattle.chain_live_threads.proofs.live_stage.LiveStage.take_lines.Goals as goal

pub take_lines-requires : goal.take_lines-requires
take_lines-requires g c =
    let see = (seeing g.S.Source.seen g.K.Sink.seen g.P.Plugin.rule g.P.Plugin.stands_for g.P.Plugin.preallocated) in let r = c.requires.plugin in
    record { kind = kind-is see c.run_laws.ensures r.0 r.1 r.2 r.3 c.args.self.now r.4 r.5.lists r.5.serves }

pub returns-clause-same : goal.returns-clause-same
returns-clause-same g c = record { seat = refl; done = refl; word = refl; over = refl; written = refl }

pub returns-clause-gave : goal.returns-clause-gave
returns-clause-gave g c = λ begun base table j at marked.
    let see = (seeing g.S.Source.seen g.K.Sink.seen g.P.Plugin.rule g.P.Plugin.stands_for g.P.Plugin.preallocated) in (
      gave-lines see c.run_laws.ensures begun base table j c.args.self.now at marked.lists marked.serves c.take_lines.new.self c.take_lines.ensures.noted marked.mark_is c.take_lines.result.items c.take_lines.ensures.taken,
      after-taken see c.run_laws.ensures begun base table j c.args.self.now at marked.lists marked.serves c.take_lines.new.self c.take_lines.ensures.noted marked.mark_is,
    )
