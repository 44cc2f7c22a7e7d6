use Rattle.std.proofs.Common.{[], ap}
use Rattle.std.proofs.lemmas.Result.{IfOk-weaker}
use Rattle.stage_run.specs.Seeing.{seeing}
use Rattle.chain_run.specs.RunTold.{HeardSinceOne}
use Rattle.packet_forms.specs.declared.forms.Form.TheVariants.{Ts}
use Rattle.tsp_top.specs.PlannedChain.{named_rules, stuffing_of}
use Rattle.tsp_top.specs.Printing.{name_at}
use Rattle.tsp_top.specs.Ran.{chain_over}
use Rattle.tsp_top.proofs.LiveLemmas.{names-are, on-err-of, ran-live}
use Rattle.tsp_top.proofs.PrintedLemmas.{has-printed}
use Rattle.tsp_top.proofs.PrintedRounds.{nothing-told, printed-plain}
use Rattle.tsp_top.proofs.live_run.run_printing_apart.Goals as goal

pub returns : goal.returns
returns g c =
    let see = (seeing g.S.Source.seen g.K.Sink.seen g.P.Plugin.rule g.P.Plugin.stands_for g.P.Plugin.preallocated) in
    let plan = c.args.plan.now in
    let items = c.as_slice.result.now in
    let end = c.run_apart-end.result.end in
    record {
      run = λ tables rules.
          IfOk-weaker end.closed _ _
          (λ closed live. ran-live see (HeardSinceOne see (λ _. live.w)) (λ p h m stands. stands.1.holds) plan tables c.args.stages.stuffing c.args.core.now
          c.args.stages.input end.input c.args.stages.plugins.items end.plugins.items c.args.stages.output end.output _ _ _ _ _ closed live.run Ts [] closed.cut
          (nothing-told see.source (stuffing_of plan.general) c.args.stages.input closed.cut Ts c.requires.placed)
          (printed-plain plan.general (chain_over plan tables live.run.list) closed.cut Ts _ _ _ _ _ c.none.ensures
          (has-printed g.D.Desk.seen plan.general.bare items _ c.printing_well-printing.ensures.wants c.printing_well-printing.ensures.failed (chain_over plan tables live.run.list) live.w closed.cut _ live.rows
          c.run_apart-end.result.all_told c.is_whole-whole.result live.heard live.lines live.within live.whole c.is_whole-whole.ensures)))
          (c.run_apart-end.ensures.closed (named_rules plan.plugins tables) (name_at items) rules (names-are items plan.plugins tables 0 c.as_slice.ensures));
      never_began = c.run_apart-end.ensures.never_began;
      silent = on-err-of end.closed _ _ (λ same. ap g.D.Desk.seen same.1) c.run_apart-end.ensures.silent;
    }
