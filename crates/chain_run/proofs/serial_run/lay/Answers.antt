use Rattle.std.proofs.Common.{refl, arith}
use Rattle.stage_run.specs.Seeing.{seeing}
use Rattle.chain_run.specs.Runs.{began_with}
use Rattle.chain_run.proofs.StartLemmas.{starts}
use Rattle.chain_run.proofs.serial_run.lay.Goals as goal

pub returns-clause-runs : goal.returns-clause-runs
returns-clause-runs g c =
    let see = (seeing g.S.Source.seen g.K.Sink.seen g.P.Plugin.rule g.P.Plugin.stands_for g.P.Plugin.preallocated) in
    let plan = c.args.memory.core.plan in
    starts see (began_with see c.args.input c.args.stuffing c.args.plugins.now.items c.args.output plan) c.lay_stages-parts.result.items (c.lay_stages-parts.ensures.new plan c.requires.valid c.requires.plugins)
    c.args.memory.core refl c.requires.numbers c.args.memory.cells.items (omega (arith, c.requires.slots))
