use Rattle.stage_run.specs.Seeing.{seeing}
use Rattle.chain_plays.specs.contracts.no_plugin.NoPluginPlugin.TheImpl as contract
use Rattle.chain_plays.proofs.PlayedLemmas.{threaded_runs}
use Rattle.chain_plays.proofs.in_threads.play_alone.Goals as goal

pub played_out-requires : goal.played_out-requires
played_out-requires g c =
    let r = c.play.result in
    let n = c.requires in
    (n.0, n.1, c.args.output, record { valid = n.2.ring.valid; plugins = n.2.ring.plugins; runs = threaded_runs (seeing g.S.Source.seen g.K.Sink.seen (contract.rule-value).it (contract.stands_for-value).it (contract.preallocated-value).it) n.0 n.1 r.input r.plugins.items c.args.output r.output r.closed (c.play.ensures.runs n.0 n.1 n.2) c.play.ensures.ran })

pub returns : goal.returns
returns g c = λ plan source a.
    let r = c.play.result in
    c.played_out.ensures plan source c.args.output (record { valid = a.ring.valid; plugins = a.ring.plugins; runs = threaded_runs (seeing g.S.Source.seen g.K.Sink.seen (contract.rule-value).it (contract.stands_for-value).it (contract.preallocated-value).it) plan source r.input r.plugins.items c.args.output r.output r.closed (c.play.ensures.runs plan source a) c.play.ensures.ran })
