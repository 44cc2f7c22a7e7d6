use Rattle.stage_run.specs.Seeing.{seeing}
use Rattle.chain_run.specs.Runs.{began_with, told_to}
use Rattle.chain_run.proofs.RunLemmas.{ran-of, closed-of-run}
use Rattle.chain_run.proofs.serial_run.end.Goals as goal

pub take_apart-input-requires-clause-stages : goal.take_apart-input-requires-clause-stages
take_apart-input-requires-clause-stages g c =
    let see = (seeing g.S.Source.seen g.K.Sink.seen g.P.Plugin.rule g.P.Plugin.stands_for g.P.Plugin.preallocated) in
    let begun = c.requires.runs.0 in
    let chain = c.args.run.chain in
    c.any_run.ensures.stages begun chain.parts.items (ran-of see begun chain.core chain.parts.items chain.cells.items c.requires.runs.1)

pub returns-clause-runs : goal.returns-clause-runs
returns-clause-runs g c = λ from stuffing plugins to plan goes.
    let see = (seeing g.S.Source.seen g.K.Sink.seen g.P.Plugin.rule g.P.Plugin.stands_for g.P.Plugin.preallocated) in
    let begun = began_with see from stuffing plugins to plan in
    let chain = c.args.run.chain in
    c.any_run.ensures.ends from c.take_apart-input.result.input stuffing plugins c.take_apart-input.result.plugins.items to c.take_apart-input.result.output plan c.close-closed.result chain.parts.items
    (closed-of-run see begun chain.core chain.parts.items chain.cells.items goes c.close-closed.result c.requires.over c.close-closed.ensures.machine)
    c.take_apart-input.ensures

pub returns-clause-told : goal.returns-clause-told
returns-clause-told g c = λ from stuffing plugins to plan told goes.
    let see = (seeing g.S.Source.seen g.K.Sink.seen g.P.Plugin.rule g.P.Plugin.stands_for g.P.Plugin.preallocated) in
    let begun = told_to (began_with see from stuffing plugins to plan) told in
    let chain = c.args.run.chain in
    c.any_run.ensures.told from c.take_apart-input.result.input stuffing plugins c.take_apart-input.result.plugins.items to c.take_apart-input.result.output plan c.close-closed.result chain.parts.items told
    (closed-of-run see begun chain.core chain.parts.items chain.cells.items goes c.close-closed.result c.requires.over c.close-closed.ensures.machine)
    c.take_apart-input.ensures
