use Rattle.std.proofs.Common.{subst, List}
use Rattle.stage_run.specs.Seeing.{seeing}
use Rattle.stage_run.specs.declared.input_part.InputPart.TheVariants.{Stream}
use Rattle.chain_plays.specs.declared.ahead.TheConstants.{NO_STUFFING}
use Rattle.chain_plays.specs.contracts.no_plugin.NoPluginPlugin.TheImpl as contract
use Rattle.chain_run.specs.RunOf.{RunOf, NeverBegan}
use Rattle.std.proofs.Common.{IfOk, OnErr}
use Rattle.chain_plays.proofs.PlayedLemmas.{serial_runs}
use Rattle.chain_plays.proofs.in_one_thread.play_here.Goals as goal

pub played_out-requires : goal.played_out-requires
played_out-requires g c =
    let r = c.run_serial.result in (
      c.args.plan.now,
      c.args.source,
      c.args.output,
      record {
        valid = c.requires.valid;
        plugins = c.requires.plugins;
        runs = serial_runs (seeing g.S.Source.seen g.K.Sink.seen (contract.rule-value).it (contract.stands_for-value).it (contract.preallocated-value).it) c.args.plan.now c.args.source r.input r.plugins.items c.args.output r.output r.closed
            (subst (λ (l : List _). IfOk r.closed (RunOf (seeing g.S.Source.seen g.K.Sink.seen (contract.rule-value).it (contract.stands_for-value).it (contract.preallocated-value).it) (Stream c.args.source) r.input NO_STUFFING l r.plugins.items c.args.output r.output c.args.plan.now)) c.new.ensures.items c.run_serial.ensures.closed)
            (subst (λ (l : List _). OnErr r.closed (NeverBegan (Stream c.args.source) r.input l r.plugins.items c.args.output r.output)) c.new.ensures.items c.run_serial.ensures.never_began);
      },
    )

pub returns : goal.returns
returns g c =
    let r = c.run_serial.result in
    c.played_out.ensures c.args.plan.now c.args.source c.args.output (record {
      valid = c.requires.valid;
      plugins = c.requires.plugins;
      runs = serial_runs (seeing g.S.Source.seen g.K.Sink.seen (contract.rule-value).it (contract.stands_for-value).it (contract.preallocated-value).it) c.args.plan.now c.args.source r.input r.plugins.items c.args.output r.output r.closed
          (subst (λ (l : List _). IfOk r.closed (RunOf (seeing g.S.Source.seen g.K.Sink.seen (contract.rule-value).it (contract.stands_for-value).it (contract.preallocated-value).it) (Stream c.args.source) r.input NO_STUFFING l r.plugins.items c.args.output r.output c.args.plan.now)) c.new.ensures.items c.run_serial.ensures.closed)
          (subst (λ (l : List _). OnErr r.closed (NeverBegan (Stream c.args.source) r.input l r.plugins.items c.args.output r.output)) c.new.ensures.items c.run_serial.ensures.never_began);
    })
