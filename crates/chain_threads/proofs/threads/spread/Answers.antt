use Rattle.std.proofs.Common.{rules, slice_index_or, subst, sym}
use denote.Exit.{no}
use denote.Param.Send.{param_send, arg_send}
use Rattle.stage_run.specs.Seeing.{seeing}
use Rattle.chain_threads.specs.Driving.{IsReady, Keeps}
use Rattle.chain_threads.proofs.Carries.{same, each_ready, each_at, beside_each}
use Rattle.chain_threads.proofs.threads.spread.Goals as goal

pub returns-then-threads-eq0 : goal.returns-then-threads-eq0
returns-then-threads-eq0 g c = record {
  carried = same (seeing g.S.Source.seen g.K.Sink.seen g.P.Plugin.rule g.P.Plugin.stands_for g.P.Plugin.preallocated) c.args.ring.now c.args.stages.now;
}

pub for_each_mut-requires-clause-accepts : goal.for_each_mut-requires-clause-accepts
for_each_mut-requires-clause-accepts g c κs within = λ i p lt is.
    let see = seeing g.S.Source.seen g.K.Sink.seen g.P.Plugin.rule g.P.Plugin.stands_for g.P.Plugin.preallocated in
    let ready : IsReady see c.args.ring.now p.now = subst (IsReady see c.args.ring.now) (sym is) (each_at (IsReady see c.args.ring.now) c.args.stages.now i p.now (each_ready see c.args.ring.now c.args.stages.now c.requires.ready) lt) in
    ((search rules, ready), (param_send 1 _ (arg_send _ no _ c.type_bounds.send-S), param_send 2 _ (arg_send _ no _ c.type_bounds.send-K), param_send 3 _ (arg_send _ no _ c.type_bounds.send-P), search rules, search rules))

pub returns : goal.returns
returns g c =
    let see = seeing g.S.Source.seen g.K.Sink.seen g.P.Plugin.rule g.P.Plugin.stands_for g.P.Plugin.preallocated in
    let ring = c.args.ring.now in
    record {
      carried = beside_each (Keeps see ring) c.args.stages.now c.for_each_mut.new.s (search rules)
          (λ i d lt. let changes = (c.for_each_mut.ensures i d lt).1 in
          subst (λ x. Keeps see ring x (slice_index_or c.for_each_mut.new.s i d)) changes.argument_is
          (subst (λ y. Keeps see ring changes.argument.now y) changes.left changes.call));
    }
