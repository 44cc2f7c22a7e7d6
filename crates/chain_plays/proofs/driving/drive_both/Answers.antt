use Rattle.std.proofs.Common.{◌≡◌, List, length, rules, subst, sym}
use denote.Exit.{no}
use denote.Param.Send.{param_send, arg_send}
use Rattle.stage_run.specs.Seeing.{seeing}
use Rattle.chain_threads.specs.Driving.{AreReady}
use Rattle.chain_plays.proofs.driving.drive_both.Goals as goal

pub on_both-requires-clause-first : goal.on_both-requires-clause-first
on_both-requires-clause-first g c κs within = λ p is.
    let see = seeing g.S.Source.seen g.K.Sink.seen g.P.Plugin.rule g.P.Plugin.stands_for g.P.Plugin.preallocated in
    let ready : AreReady see c.args.next_ring.now p.now = subst (AreReady see c.args.next_ring.now) (sym is) c.requires.next in
    ((search rules, search rules, (subst (λ (l : List _). length l ≡ 1) (sym is) c.requires.one, ready)), (param_send 1 _ (arg_send _ no _ c.type_bounds.send-S), param_send 2 _ (arg_send _ no _ c.type_bounds.send-K), param_send 3 _ (arg_send _ no _ c.type_bounds.send-P), search rules, search rules))

pub on_both-requires-clause-second : goal.on_both-requires-clause-second
on_both-requires-clause-second g c κs within = λ p is.
    let see = seeing g.S.Source.seen g.K.Sink.seen g.P.Plugin.rule g.P.Plugin.stands_for g.P.Plugin.preallocated in
    let ready : AreReady see c.args.ring.now p.now = subst (AreReady see c.args.ring.now) (sym is) c.requires.ready in
    ((search rules, search rules, ready), (param_send 1 _ (arg_send _ no _ c.type_bounds.send-S), param_send 2 _ (arg_send _ no _ c.type_bounds.send-K), param_send 3 _ (arg_send _ no _ c.type_bounds.send-P), search rules, search rules))
